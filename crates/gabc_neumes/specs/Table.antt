-- The neumes: a table over the letters of notes.
use Rattle.std.specs.Prelude.{[], ◌∷◌, ◌++◌, codes}
use Rattle.gabc_patterns.specs.Pattern.{Pattern, one_of, ◌·◌, many, text}
use Rattle.gabc_patterns.specs.LongestItems.{Table}
use Rattle.gabc_notes.specs.declared.note.Shape.{Shape}
use Rattle.gabc_notes.specs.declared.note.Shape.TheVariants as shape
use Rattle.gabc_neumes.specs.Letters.{shape_letter, joinable_letters}
use Rattle.gabc_neumes.specs.declared.glyph.Base.{Base}
use Rattle.gabc_neumes.specs.declared.glyph.Base.TheVariants.{Pes, Clivis, Torculus, Porrectus, Scandicus, ScandicusFlexus, TorculusResupinus, PorrectusFlexus, TorculusResupinusFlexus, Climacus, Inclinata, One}
use Rattle.gabc_neumes.specs.declared.glyph.Tail.TheVariants.{Plain, Subpunctis, Resupinus}
use Rattle.gabc_neumes.specs.declared.glyph.GlyphKind.{GlyphKind}

-- a first note that is joinable
abbrev pub note : Pattern
note = one_of joinable_letters

-- a joinable note that is higher, and one that is lower
abbrev pub up : Pattern
up = text (codes "U")

abbrev pub down : Pattern
down = text (codes "D")

-- one or more inclinata, each lower than the note before
abbrev pub falling : Pattern
falling = text (codes "d") · many (text (codes "d"))

-- a joinable note and two or more that are higher
abbrev pub rising : Pattern
rising = note · up · up · many up

-- a neume of joinable notes; the same with falling inclinata, and with a higher note after these
abbrev pub rows_of : Base → Pattern → Table GlyphKind
rows_of b p =
    (record { base = b; tail = Plain }, p)
    ∷ (record { base = b; tail = Subpunctis }, p · falling)
    ∷ (record { base = b; tail = Resupinus }, p · falling · up)
    ∷ []

-- a punctum or a virga, and two or more falling inclinata
abbrev pub climacus : Pattern
climacus = one_of (codes "pv") · text (codes "d") · falling

-- one or more inclinata, of any heights
abbrev pub inclinata : Pattern
inclinata = text (codes "i") · many (one_of (codes "ude"))

-- one note of that shape
abbrev pub one : Shape → Table GlyphKind
one s = (record { base = One s; tail = Plain }, one_of (shape_letter s ∷ [])) ∷ []

abbrev pub neumes : Table GlyphKind
neumes =
    rows_of Pes (note · up)
    ++ rows_of Clivis (note · down)
    ++ rows_of Torculus (note · up · down)
    ++ rows_of Porrectus (note · down · up)
    ++ rows_of Scandicus rising
    ++ rows_of ScandicusFlexus (rising · down)
    ++ rows_of TorculusResupinus (note · up · down · up)
    ++ rows_of PorrectusFlexus (note · down · up · down)
    ++ rows_of TorculusResupinusFlexus (note · up · down · up · down)
    ++ (record { base = Climacus; tail = Plain }, climacus)
    ∷ (record { base = Climacus; tail = Resupinus }, climacus · up)
    ∷ (record { base = Inclinata; tail = Plain }, inclinata)
    ∷ one shape.Punctum ++ one shape.Virga ++ one shape.Bivirga ++ one shape.Trivirga ++ one shape.VirgaReversa
    ++ one shape.Stropha ++ one shape.Distropha ++ one shape.Tristropha ++ one shape.Oriscus ++ one shape.OriscusScapus
    ++ one shape.Quilisma ++ one shape.QuilismaQuadratum ++ one shape.Quadratum ++ one shape.Cavum ++ one shape.Lined ++ one shape.Linea
