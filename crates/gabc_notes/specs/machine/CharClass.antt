-- The class of a character in notes.
use Rattle.std.specs.Prelude.{ℕ, Bool, ◌||◌, ◌&&◌, ◌==◌, nat_le, codes, if◌then◌else◌}
use Rattle.gabc_patterns.specs.Pattern.{is_in}
use Rattle.gabc_notes.specs.declared.class.CharClass.{CharClass}
use Rattle.gabc_notes.specs.declared.class.CharClass.TheVariants.{Hyphen, FlatB, ClefLetter, Pitch, Capital, ClefDigit, Zero, Digit, Sign, Suffix, Alter, Hash, Plus, Question, BarMark, Colon, Slash, Bang, Blank, SmallZ, CapitalZ, Open, Close, At, Other}

abbrev pub is_between : ℕ → ℕ → ℕ → Bool
is_between a b c = nat_le a c && nat_le c b

abbrev pub class_of_character : ℕ → CharClass
class_of_character c =
    if c == 45 then Hyphen else
    if c == 98 then FlatB else
    if c == 99 || c == 102 then ClefLetter else
    if is_between 97 110 c || c == 112 then Pitch else
    if is_between 65 78 c || c == 80 then Capital else
    if is_between 49 53 c then ClefDigit else
    if c == 48 then Zero else
    if is_between 54 57 c then Digit else
    if c == 39 || c == 95 then Sign else
    if is_in c (codes "vVsoOwWqrR=~<>.") then Suffix else
    if is_in c (codes "xXyY") then Alter else
    if c == 35 then Hash else
    if c == 43 then Plus else
    if c == 63 then Question else
    if is_in c (codes "`^,;") then BarMark else
    if c == 58 then Colon else
    if c == 47 then Slash else
    if c == 33 then Bang else
    if c == 32 || c == 9 || c == 10 then Blank else
    if c == 122 then SmallZ else
    if c == 90 then CapitalZ else
    if c == 91 then Open else
    if c == 93 then Close else
    if c == 64 then At else Other
