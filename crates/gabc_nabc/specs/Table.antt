-- The parts of an NABC snippet.
use Rattle.std.specs.Prelude.{Bool, true, false, [], ◌∷◌, codes}
use Rattle.gabc_patterns.specs.Pattern.{Pattern, one_of, ◌·◌, ◌or◌, many, optional, text}
use Rattle.gabc_patterns.specs.LongestItems.{Table}

abbrev pub letter : Pattern
letter = one_of (codes "abcdefghijklmnopqrstuvwxyz")

abbrev pub digit : Pattern
digit = one_of (codes "123456789")

-- two letters, the first not `h`; not `su`, `pp`, `ls`, `lt`
abbrev pub code : Pattern
code =
    one_of (codes "abcdefgijkmnoqrtuvwxyz") · letter
    or text (codes "s") · one_of (codes "abcdefghijklmnopqrstvwxyz")
    or text (codes "p") · one_of (codes "abcdefghijklmnoqrstuvwxyz")
    or text (codes "l") · one_of (codes "abcdefghijklmnopqruvwxyz")

-- `h` and a height
abbrev pub pitch : Pattern
pitch = text (codes "h") · one_of (codes "abcdefghijklmnp")

abbrev pub modifier : Pattern
modifier = one_of (codes "SGM->~") · optional digit

abbrev pub glyph : Pattern
glyph = code · many modifier · optional pitch

-- points: subpunctis or prepunctis
abbrev pub points : Pattern
points = (text (codes "su") or text (codes "pp")) · optional letter · digit · optional pitch

-- significant letters, and tironian ones
abbrev pub letters : Pattern
letters = text (codes "l") · one_of (codes "st") · letter · many (letter or text (codes "-")) · digit · optional pitch

-- glyphs joined by `!`, then any number of points and letters
abbrev pub descriptor : Pattern
descriptor = (glyph · many (text (codes "!") · glyph)) · many (points or letters)

abbrev pub space : Pattern
space = text (codes "/") or text (codes "//") or text (codes "`") or text (codes "``")

-- a part is a space, or it is none and so a descriptor
abbrev pub nabc : Table Bool
nabc = (true, space) ∷ (false, descriptor) ∷ []
