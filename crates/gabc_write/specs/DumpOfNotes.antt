-- The lines of a GABC snippet in a dump. In these definitions `before` are the items before an
-- item, the nearest first, and `outset` has the clef and the alterations in force before the
-- snippet.
use Rattle.std.specs.Prelude.{ℕ, ◌+◌, ◌-◌, ◌==◌, List, [], ◌∷◌, ◌++◌, Bool, true, false, ◌&&◌, ◌||◌, not, length, map, reverse, slice_range, codes, Option, Some, None, if◌then◌else◌}
use Rattle.std.specs.List.{flat_map, take_while}
use Rattle.std.specs.Fmt.{decimal}
use Rattle.gabc_notes.specs.Items.{items_of, bytes_of}
use Rattle.gabc_notes.specs.Notes.{begins_with, from_pitch, height_at, shape_at}
use Rattle.gabc_notes.specs.declared.item.Item.{Item}
use Rattle.gabc_notes.specs.declared.item.ItemKind.{ItemKind}
use Rattle.gabc_notes.specs.declared.item.ItemKind.TheVariants as kind
use Rattle.gabc_notes.specs.declared.note.Note.{Note}
use Rattle.gabc_neumes.specs.Cut.{glyphs_of}
use Rattle.gabc_neumes.specs.Elements.{is_in_element, is_in_segment, notes_in}
use Rattle.gabc_neumes.specs.InForce.{InForce, step_of, is_virgula, in_force_after, sound_of}
use Rattle.gabc_neumes.specs.Sound.{sign_of}
use Rattle.gabc_neumes.specs.Words.{shape_word, kind_word, alter_word}
use Rattle.gabc_neumes.specs.declared.glyph.Glyph.{Glyph}
use Rattle.gabc_neumes.specs.declared.sound.Sound.{Sound}
use Rattle.gabc_write.specs.DumpLines.{escaped}

-- ---- the line of an item, by its spelling

-- a spelling as the last thing of a line
abbrev pub last_text : List ℕ → List ℕ
last_text t = escaped t ++ codes "\n"

-- the small letter of a height: `a` is 0 and `n` is 13; there is no `o`, and 14 is `p`
abbrev pub pitch_letter : ℕ → ℕ
pitch_letter height = if height == 14 then 112 else height + 97

-- the degrees from 0 to 6 by their names; there is none before any clef
abbrev pub degree_word : Option ℕ → List ℕ
degree_word None = codes "-"
degree_word (Some degree) =
    if degree == 0 then codes "ut" else
    if degree == 1 then codes "re" else
    if degree == 2 then codes "mi" else
    if degree == 3 then codes "fa" else
    if degree == 4 then codes "sol" else
    if degree == 5 then codes "la" else codes "si"

-- ` DEGREE ALTER`
abbrev pub sound_words : Sound → List ℕ
sound_words sound = codes " " ++ (degree_word sound.degree ++ (codes " " ++ alter_word sound.alter))

-- `note PITCH SHAPE DEGREE ALTER S`
abbrev pub line_of_note : Sound → List ℕ → List ℕ
line_of_note sound t =
    codes "note " ++ (pitch_letter (height_at (from_pitch t)) ∷ (codes " " ++ (shape_word (shape_at (from_pitch t))
    ++ (sound_words sound ++ (codes " " ++ last_text t)))))

-- `alteration PITCH flat|natural|sharp S`
abbrev pub line_of_alteration : List ℕ → List ℕ
line_of_alteration t = codes "alteration " ++ (pitch_letter (height_at t) ∷ (codes " " ++ (alter_word (sign_of t) ++ (codes " " ++ last_text t))))

abbrev pub bar_word : List ℕ → List ℕ
bar_word t =
    if is_virgula t then codes "virgula" else
    if begins_with (codes "^") t then codes "minimis" else
    if begins_with (codes ",") t then codes "minima" else
    if begins_with (codes ";") t then codes "minor" else
    if begins_with (codes "::") t then codes "finalis" else codes "maior"

-- `bar NAME S`
abbrev pub line_of_bar : List ℕ → List ℕ
line_of_bar t = codes "bar " ++ (bar_word t ++ (codes " " ++ last_text t))

-- blanks are U+0020, U+0009 and LF
abbrev pub is_blank_run : List ℕ → Bool
is_blank_run t = begins_with (32 ∷ []) t || begins_with (9 ∷ []) t || begins_with (10 ∷ []) t

-- `space S`, and `space blank` for a run of blanks
abbrev pub line_of_spacing : List ℕ → List ℕ
line_of_spacing t = codes "space " ++ (if is_blank_run t then codes "blank\n" else last_text t)

-- `custos auto`, or `custos PITCH`
abbrev pub line_of_custos : List ℕ → List ℕ
line_of_custos t = codes "custos " ++ (if begins_with (codes "z") t then codes "auto\n" else pitch_letter (height_at t) ∷ codes "\n")

-- the bytes between the brackets of an attribute
abbrev pub raw_of : List ℕ → List ℕ
raw_of t = slice_range t 1 (length t - 1)

-- before the item this is in force
abbrev pub line_by : InForce → ItemKind → List ℕ → List ℕ
line_by force kind.Note t = line_of_note (sound_of force (height_at (from_pitch t))) t
line_by force kind.Alteration t = line_of_alteration t
line_by force kind.Clef t = codes "clef " ++ last_text t
line_by force kind.Bar t = line_of_bar t
line_by force kind.Spacing t = line_of_spacing t
line_by force kind.Custos t = line_of_custos t
line_by force kind.Break t = codes "break " ++ last_text t
line_by force kind.Attribute t = codes "attribute " ++ last_text (raw_of t)
line_by force kind.Fusion t = codes "fusion " ++ last_text t

abbrev pub line_of_item : InForce → List ℕ → Item → List ℕ
line_of_item force kept i = line_by force i.kind (bytes_of kept i)

-- ---- the lines before the line of an item

-- the nearest item is part of an element
abbrev pub is_after_element : List ℕ → List Item → Bool
is_after_element kept [] = false
is_after_element kept (i ∷ before) = is_in_element kept i

-- `element`, before the first item of an element
abbrev pub element_line : List ℕ → List Item → Item → List ℕ
element_line kept before i = if is_in_element kept i && not (is_after_element kept before) then codes "element\n" else []

-- `glyph KIND COUNT`
abbrev pub line_of_glyph : Glyph → List ℕ
line_of_glyph g = codes "glyph " ++ (kind_word g.kind ++ (codes " " ++ (decimal g.count ++ codes "\n")))

-- the line of the glyph whose first note is the one with that index
abbrev pub line_of_glyph_at : List Glyph → ℕ → List ℕ
line_of_glyph_at glyphs index = flat_map (λ (g : Glyph). if g.first == index then line_of_glyph g else []) glyphs

-- the notes of the segment before a place, and those from there on
abbrev pub notes_before : List ℕ → List Item → List Note
notes_before kept before = notes_in kept (reverse (take_while is_in_segment before))

abbrev pub notes_after : List ℕ → List Item → List Note
notes_after kept items = notes_in kept (take_while is_in_segment items)

-- the line of the glyph, of the cut of its segment, that begins with the note at the head of the
-- items
abbrev pub line_of_first_glyph : List ℕ → List Item → List Item → List ℕ
line_of_first_glyph kept before items =
    line_of_glyph_at (glyphs_of (notes_before kept before ++ notes_after kept items)) (length (notes_before kept before))

abbrev pub is_note : ItemKind → Bool
is_note kind.Note = true
is_note _ = false

-- `glyph KIND COUNT`, before the first note of a glyph
abbrev pub glyph_line : List ℕ → List Item → Item → List Item → List ℕ
glyph_line kept before i items = if is_note i.kind then line_of_first_glyph kept before (i ∷ items) else []

-- ---- the lines of a snippet

-- the clef and the alterations in force after the items before
abbrev pub in_force_at : InForce → List ℕ → List Item → InForce
in_force_at outset kept before = in_force_after outset (map (step_of kept) before)

abbrev pub lines_after : InForce → List ℕ → List Item → List Item → List ℕ
lines_after outset kept before [] = []
lines_after outset kept before (i ∷ items) =
    element_line kept before i ++ (glyph_line kept before i items
    ++ (line_of_item (in_force_at outset kept before) kept i ++ lines_after outset kept (i ∷ before) items))

-- `notes:S`, and the lines of its items
abbrev pub lines_of_notes : InForce → List ℕ → List ℕ
lines_of_notes outset kept = codes "notes:" ++ (last_text kept ++ lines_after outset kept [] (items_of kept))
