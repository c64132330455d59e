-- The class of a character in NABC.
use Rattle.std.specs.Prelude.{ℕ, Bool, ◌&&◌, ◌==◌, nat_le, codes, if◌then◌else◌}
use Rattle.gabc_patterns.specs.Pattern.{is_in}
use Rattle.gabc_nabc.specs.declared.class.NabcClass.{NabcClass}
use Rattle.gabc_nabc.specs.declared.class.NabcClass.TheVariants.{LetterH, LetterL, LetterP, LetterS, LetterT, LetterU, Pitch, Letter, Digit, Modifier, Hyphen, Bang, Slash, Tick, Other}

abbrev pub is_between : ℕ → ℕ → ℕ → Bool
is_between a b c = nat_le a c && nat_le c b

abbrev pub class_of_character : ℕ → NabcClass
class_of_character c =
    if c == 104 then LetterH else
    if c == 108 then LetterL else
    if c == 112 then LetterP else
    if c == 115 then LetterS else
    if c == 116 then LetterT else
    if c == 117 then LetterU else
    if is_between 97 110 c then Pitch else
    if is_between 111 122 c then Letter else
    if is_between 49 57 c then Digit else
    if is_in c (codes "SGM>~") then Modifier else
    if c == 45 then Hyphen else
    if c == 33 then Bang else
    if c == 47 then Slash else
    if c == 96 then Tick else Other
