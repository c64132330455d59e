-- The items of a GABC snippet.
use Rattle.std.specs.Prelude.{[], ◌∷◌, codes}
use Rattle.gabc_notes.specs.declared.item.ItemKind.{ItemKind}
use Rattle.gabc_notes.specs.declared.item.ItemKind.TheVariants.{Note, Alteration, Clef, Bar, Spacing, Custos, Break, Attribute, Fusion}
use Rattle.gabc_patterns.specs.Pattern.{Pattern, one_of, any_but, ◌·◌, ◌or◌, many, optional, text}
use Rattle.gabc_patterns.specs.LongestItems.{Table}

abbrev pub pitch : Pattern
pitch = one_of (codes "abcdefghijklmnp")

abbrev pub capital : Pattern
capital = one_of (codes "ABCDEFGHIJKLMNP")

abbrev pub digits : Pattern
digits = many (one_of (codes "0123456789"))

-- a bracket and what it holds: any characters but the `]` that closes it
abbrev pub bracket : Pattern
bracket = text (codes "[") · many (any_but 93) · text (codes "]")

abbrev pub note : Pattern
note = optional (text (codes "-")) · (pitch or capital · digits) · many (one_of (codes "vVsoOwWqrR=~<>.'_") · digits)

-- flat, natural, sharp
abbrev pub alteration : Pattern
alteration = pitch · (one_of (codes "xXyY") or text (codes "#") or text (codes "##")) · optional (text (codes "?"))

abbrev pub one_clef : Pattern
one_clef = one_of (codes "cf") · optional (text (codes "b")) · one_of (codes "12345")

abbrev pub clef : Pattern
clef = one_clef or one_clef · text (codes "@") · one_clef

-- virgula, minimis, minima, minor, maior, finalis
abbrev pub bar : Pattern
bar = (one_of (codes "`^,;:") or text (codes "::")) · digits · optional (text (codes "?")) · many (one_of (codes "'_") · digits)

-- U+0020, U+0009 and LF
abbrev pub blank : Pattern
blank = one_of (32 ∷ 9 ∷ 10 ∷ [])

abbrev pub spacing : Pattern
spacing = text (codes "/") or text (codes "//") or text (codes "/0") or text (codes "/!") or text (codes "/") · bracket or text (codes "!") or blank · many blank

abbrev pub custos : Pattern
custos = pitch · text (codes "+") or text (codes "z0")

abbrev pub break : Pattern
break = one_of (codes "zZ") · optional (one_of (codes "+-"))

abbrev pub fusion : Pattern
fusion = text (codes "@") or text (codes "@[") or text (codes "]")

abbrev pub gabc : Table ItemKind
gabc =
    (Note, note)
    ∷ (Alteration, alteration)
    ∷ (Clef, clef)
    ∷ (Bar, bar)
    ∷ (Spacing, spacing)
    ∷ (Custos, custos)
    ∷ (Break, break)
    ∷ (Attribute, bracket)
    ∷ (Fusion, fusion)
    ∷ []
