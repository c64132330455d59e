-- The numbers of the nodes of items.
use Rattle.std.specs.Prelude.{ℕ, ◌+◌, ◌-◌, ◌*◌, ◌==◌, List, [], ◌∷◌, Bool, ◌&&◌, ◌||◌, drop, min, codes, Option, Some, None, if◌then◌else◌}
use Rattle.gabc_patterns.specs.Pattern.{is_in}
use Rattle.gabc_patterns.specs.Derivative.{same_texts}
use Rattle.gabc_notes.specs.Items.{bytes_of}
use Rattle.gabc_notes.specs.Notes.{begins_with, is_digit, from_pitch, height_at, note_in}
use Rattle.gabc_notes.specs.declared.item.Item.{Item}
use Rattle.gabc_notes.specs.declared.item.ItemKind.{ItemKind}
use Rattle.gabc_notes.specs.declared.item.ItemKind.TheVariants as item
use Rattle.gabc_notes.specs.declared.note.Note.{Note}
use Rattle.gabc_notes.specs.declared.note.Shape.{Shape}
use Rattle.gabc_notes.specs.declared.note.Shape.TheVariants as shape
use Rattle.gabc_neumes.specs.InForce.{InForce, sound_of}
use Rattle.gabc_neumes.specs.Sound.{clef_at, sign_of}
use Rattle.gabc_neumes.specs.declared.sound.Alter.{Alter}
use Rattle.gabc_neumes.specs.declared.sound.Alter.TheVariants as alter
use Rattle.gabc_neumes.specs.declared.sound.Clef.{Clef}
use Rattle.gabc_neumes.specs.declared.sound.Sound.{Sound}
use Rattle.gabc_neumes.specs.declared.glyph.Base.{Base}
use Rattle.gabc_neumes.specs.declared.glyph.Base.TheVariants as base
use Rattle.gabc_neumes.specs.declared.glyph.Tail.{Tail}
use Rattle.gabc_neumes.specs.declared.glyph.Tail.TheVariants as tail
use Rattle.gabc_neumes.specs.declared.glyph.GlyphKind.{GlyphKind}
use Rattle.gabc_tree.specs.Signs.{suffixes, signs_of}
use Rattle.gabc_tree.specs.declared.signs.Side.{Side}
use Rattle.gabc_tree.specs.declared.signs.Side.TheVariants as side
use Rattle.gabc_tree.specs.declared.signs.Liquescence.{Liquescence}
use Rattle.gabc_tree.specs.declared.signs.Liquescence.TheVariants as liquescence
use Rattle.gabc_tree.specs.declared.signs.EpisemaSize.{EpisemaSize}
use Rattle.gabc_tree.specs.declared.signs.EpisemaSize.TheVariants as size
use Rattle.gabc_tree.specs.declared.signs.Orientation.{Orientation}
use Rattle.gabc_tree.specs.declared.signs.Orientation.TheVariants as orientation
use Rattle.gabc_tree.specs.declared.signs.OverStaff.{OverStaff}
use Rattle.gabc_tree.specs.declared.signs.Covered.{Covered}
use Rattle.gabc_tree.specs.declared.signs.NoteSigns.{NoteSigns}
use Rattle.gabc_tree.specs.declared.numbers.Numbers.{Numbers}

-- ---- the numbers of words

abbrev pub number_of_bit : Bool → ℕ
number_of_bit b = if b then 1 else 0

abbrev pub number_of_shape : Shape → ℕ
number_of_shape shape.Punctum = 0
number_of_shape shape.Inclinatum = 1
number_of_shape shape.Virga = 2
number_of_shape shape.Bivirga = 3
number_of_shape shape.Trivirga = 4
number_of_shape shape.VirgaReversa = 5
number_of_shape shape.Stropha = 6
number_of_shape shape.Distropha = 7
number_of_shape shape.Tristropha = 8
number_of_shape shape.Oriscus = 9
number_of_shape shape.OriscusScapus = 10
number_of_shape shape.Quilisma = 11
number_of_shape shape.QuilismaQuadratum = 12
number_of_shape shape.Quadratum = 13
number_of_shape shape.Cavum = 14
number_of_shape shape.Lined = 15
number_of_shape shape.Linea = 16

abbrev pub number_of_alter : Alter → ℕ
number_of_alter alter.None = 0
number_of_alter alter.Flat = 1
number_of_alter alter.Natural = 2
number_of_alter alter.Sharp = 3

-- a note before any clef has no degree
abbrev pub number_of_degree : Sound → ℕ
number_of_degree s = elim s.degree as (λ _. ℕ) [ None ↦ 7 | Some d ↦ min 7 d ]

abbrev pub number_of_side : Side → ℕ
number_of_side side.Auto = 1
number_of_side side.Over = 2
number_of_side side.Under = 3

abbrev pub number_of_ictus : Option Side → ℕ
number_of_ictus None = 0
number_of_ictus (Some s) = number_of_side s

abbrev pub number_of_liquescence : Liquescence → ℕ
number_of_liquescence liquescence.None = 0
number_of_liquescence liquescence.Deminutus = 1
number_of_liquescence liquescence.Augmented = 2
number_of_liquescence liquescence.Diminished = 3

abbrev pub number_of_size : EpisemaSize → ℕ
number_of_size size.Whole = 0
number_of_size size.Left = 1
number_of_size size.Centre = 2
number_of_size size.Right = 3

abbrev pub number_of_orientation : Orientation → ℕ
number_of_orientation orientation.NotTold = 0
number_of_orientation orientation.Down = 1
number_of_orientation orientation.Up = 2

-- a bit for each sign, from 1 for `r1` to 128 for `r8`
abbrev pub number_of_over_staff : OverStaff → ℕ
number_of_over_staff s =
    number_of_bit s.accent + 2 * number_of_bit s.grave + 4 * number_of_bit s.circle + 8 * number_of_bit s.lower_arc
    + 16 * number_of_bit s.upper_arc + 32 * number_of_bit s.flat + 64 * number_of_bit s.natural + 128 * number_of_bit s.sharp

abbrev pub number_of_covered : Covered → ℕ
number_of_covered c = c.auto + 8 * c.over + 64 * c.under

-- of one note 16 plus the number of its shape
abbrev pub number_of_base : Base → ℕ
number_of_base base.Pes = 0
number_of_base base.Clivis = 1
number_of_base base.Torculus = 2
number_of_base base.Porrectus = 3
number_of_base base.Scandicus = 4
number_of_base base.ScandicusFlexus = 5
number_of_base base.TorculusResupinus = 6
number_of_base base.PorrectusFlexus = 7
number_of_base base.TorculusResupinusFlexus = 8
number_of_base base.Climacus = 9
number_of_base base.Inclinata = 10
number_of_base (base.One s) = 16 + number_of_shape s

abbrev pub number_of_tail : Tail → ℕ
number_of_tail tail.Plain = 0
number_of_tail tail.Subpunctis = 1
number_of_tail tail.Resupinus = 2

-- ---- the numbers of a note

-- the suffixes of a note: what comes after its pitch
abbrev pub after_pitch : List ℕ → List ℕ
after_pitch t = drop 1 (from_pitch t)

-- of a note with this sound and these signs, which begins an element or not
abbrev pub note_numbers_by : Note → Sound → Bool → NoteSigns → Numbers
note_numbers_by n sound begins signs = record {
  a = min 15 n.height + 16 * number_of_over_staff signs.over_staff + 4096 * number_of_bit signs.hollow
      + 8192 * number_of_bit signs.lined + 16384 * number_of_orientation signs.orientation;
  b = number_of_shape n.shape + 32 * number_of_liquescence signs.liquescence + 128 * signs.morae + 512 * number_of_ictus signs.ictus
      + 2048 * number_of_size signs.size + 8192 * number_of_bit signs.unbridged;
  c = number_of_degree sound + 8 * number_of_alter sound.alter + 32 * number_of_bit n.debilis + 64 * number_of_bit begins
      + 128 * number_of_covered signs.covered;
}

-- of a note that is spelled so
abbrev pub note_numbers : Note → Sound → List ℕ → Bool → Numbers
note_numbers n sound t begins = note_numbers_by n sound begins (signs_of (suffixes (after_pitch t)))

-- ---- the numbers of other items, by their spellings

abbrev pub three : ℕ → ℕ → ℕ → Numbers
three a b c = record { a = a; b = b; c = c }

-- an alteration: its height, its sign, and whether it is in brackets or has the other spelling
abbrev pub alteration_numbers : List ℕ → Numbers
alteration_numbers t = three (height_at t) (number_of_alter (sign_of t)) (
    (if is_in 63 t then 1 else 0)
    + (if begins_with (codes "X") (drop 1 t) || begins_with (codes "Y") (drop 1 t) || begins_with (codes "##") (drop 1 t) then 2 else 0))

-- 1 for an `f`, and 2 for a `b`
abbrev pub clef_letter : Clef → ℕ
clef_letter clef = number_of_bit clef.f + 2 * number_of_bit clef.flat

-- what follows the first `@`
abbrev pub after_join : List ℕ → List ℕ
after_join [] = []
after_join (c ∷ t) = if c == 64 then t else after_join t

-- a clef: its letter and line, and those of the one that is joined to it
abbrev pub clef_numbers : List ℕ → Numbers
clef_numbers t = three
    (elim (clef_at t) as (λ _. ℕ) [ None ↦ 0 | Some clef ↦ clef_letter clef ])
    (elim (clef_at t) as (λ _. ℕ) [ None ↦ 0 | Some clef ↦ clef.line ])
    (elim (clef_at (after_join t)) as (λ _. ℕ) [ None ↦ 0 | Some clef ↦ 1 + 2 * clef_letter clef + 8 * clef.line ])

-- 1 plus the digit with which the text begins, or 0
abbrev pub digit_after : List ℕ → ℕ
digit_after [] = 0
digit_after (c ∷ t) = if is_digit c then 1 + (c - 48) else 0

-- a bar: its sign, and the digit after it
abbrev pub bar_numbers : List ℕ → Numbers
bar_numbers t =
    if begins_with (codes "`") t then three 0 (digit_after (drop 1 t)) 0 else
    if begins_with (codes "^") t then three 1 (digit_after (drop 1 t)) 0 else
    if begins_with (codes ",") t then three 2 (digit_after (drop 1 t)) 0 else
    if begins_with (codes ";") t then three 3 (digit_after (drop 1 t)) 0 else
    if begins_with (codes "::") t then three 5 (digit_after (drop 2 t)) 0 else three 4 (digit_after (drop 1 t)) 0

abbrev pub spacing_number : List ℕ → ℕ
spacing_number t =
    if same_texts t (codes "/") then 0 else
    if begins_with (codes "//") t then 1 else
    if begins_with (codes "/0") t then 2 else
    if begins_with (codes "/!") t then 3 else
    if begins_with (codes "/") t then 4 else
    if begins_with (codes "!") t then 5 else 6

-- the height, or 15 of an automatic one
abbrev pub custos_number : List ℕ → ℕ
custos_number t = if begins_with (codes "z") t then 15 else height_at t

-- a line break: its letter, and the sign after it
abbrev pub break_numbers : List ℕ → Numbers
break_numbers t = three
    (if begins_with (codes "Z") t then 1 else 0)
    (if begins_with (codes "+") (drop 1 t) then 1 else if begins_with (codes "-") (drop 1 t) then 2 else 0)
    0

-- 1 plus the digit, if the text is one digit and a `]`; else 0
abbrev pub last_digit : List ℕ → ℕ
last_digit (d ∷ b ∷ []) = if is_digit d && (b == 93) then 1 + (d - 48) else 0
last_digit _ = 0

-- 1 plus the digit of the macro that an attribute calls, or 0
abbrev pub attribute_number : List ℕ → ℕ
attribute_number t =
    if begins_with (codes "[nm") t || begins_with (codes "[gm") t || begins_with (codes "[em") t then last_digit (drop 3 t) else
    if begins_with (codes "[altm") t then last_digit (drop 5 t) else 0

abbrev pub fusion_number : List ℕ → ℕ
fusion_number t = if same_texts t (codes "@") then 0 else if begins_with (codes "@") t then 1 else 2

-- of an item of that kind, which is no note
abbrev pub other_numbers : ItemKind → List ℕ → Numbers
other_numbers item.Note t = three 0 0 0
other_numbers item.Alteration t = alteration_numbers t
other_numbers item.Clef t = clef_numbers t
other_numbers item.Bar t = bar_numbers t
other_numbers item.Spacing t = three (spacing_number t) 0 0
other_numbers item.Custos t = three (custos_number t) 0 0
other_numbers item.Break t = break_numbers t
other_numbers item.Attribute t = three (attribute_number t) 0 0
other_numbers item.Fusion t = three (fusion_number t) 0 0

-- ---- the numbers of an item

-- the third number says whether the item begins an element
abbrev pub with_begins : Bool → Numbers → Numbers
with_begins begins n = record n { c = n.c + 64 * number_of_bit begins }

-- of an item before which this is in force
abbrev pub item_numbers : InForce → List ℕ → Bool → Item → Numbers
item_numbers force kept begins i = elim (note_in kept i) as (λ _. Numbers) [
  | Some n ↦ note_numbers n (sound_of force n.height) (bytes_of kept i) begins
  | None ↦ with_begins begins (other_numbers i.kind (bytes_of kept i))
]

-- of a glyph of that kind, with this number of notes
abbrev pub glyph_numbers : GlyphKind → ℕ → Numbers
glyph_numbers kind count = three (number_of_base kind.base) (number_of_tail kind.tail) (min 65535 count)
