-- The XML tree of a picture.
use Rattle.std.specs.Prelude.{ℕ, ◌-◌, ℤ, ◌+ℤ◌, pos, List, [], ◌∷◌, ◌++◌, codes, cond, Bool, take, drop, length, min}
use Rattle.std.specs.Fmt.{decimal, signed_decimal}
use Rattle.std.specs.Int.{saturate_signed, w32}
use Rattle.gabc_marks.specs.Heads.{height_at}
use Rattle.gabc_marks.specs.declared.distance.Distance.{Distance}
use Rattle.gabc_marks.specs.declared.hand.NabcOutline.{NabcOutline}
use Rattle.gabc_marks.specs.declared.head.NoteHead.{NoteHead}
use Rattle.gabc_marks.specs.declared.picture.Levels.{Levels}
use Rattle.gabc_marks.specs.declared.picture.Part.{Part}
use Rattle.gabc_marks.specs.declared.picture.Picture.{Picture}
use Rattle.gabc_marks.specs.declared.picture.Row.{Row}
use Rattle.gabc_marks.specs.declared.sign.Bow.{Bow}
use Rattle.gabc_marks.specs.declared.sign.Sign.{Sign}
use Rattle.gabc_marks.specs.declared.sign.Sign.TheVariants as sign
use Rattle.gabc_marks.specs.declared.styles.Styles.{Styles}
use Rattle.gabc_marks.specs.declared.words.Level.{Level}
use Rattle.gabc_marks.specs.declared.words.Level.TheVariants as level
use Rattle.gabc_marks.specs.declared.words.NabcLine.{NabcLine}
use Rattle.gabc_marks.specs.declared.words.NabcLine.TheVariants as line
use Rattle.gabc_marks.specs.declared.words.Words.{Words}
use Rattle.gabc_svg.specs.OutlineNames.{name_of_head, name_of_nabc, name_of_symbol}
use Rattle.gabc_svg.specs.Xml.{Attribute, Content, Nothing, Characters, Element, Empty, and_then, valued}
use Rattle.gabc_svg.specs.declared.tag.Name.TheVariants as name
use Rattle.gabc_svg.specs.declared.tag.Tag.TheVariants as tag

-- ---- texts

-- the distance of a level of a row below the lowest line of the staff
abbrev pub level_at : Levels → Level → ℤ
level_at ls level.Text = ls.text.0
level_at ls level.Translation = ls.translation.0
level_at ls level.Above = ls.above.0
level_at ls (level.Nabc line.First) = ls.first.0
level_at ls (level.Nabc line.Second) = ls.second.0
level_at ls (level.Nabc line.Third) = ls.third.0
level_at ls (level.Nabc line.Fourth) = ls.fourth.0
level_at ls (level.At y) = y.0

abbrev pub style_attributes : Styles → List Attribute
style_attributes s =
    cond s.bold (valued name.FontWeight (codes "bold") ∷ []) []
    ++ (cond s.italic (valued name.FontStyle (codes "italic") ∷ []) []
    ++ (cond s.small_capitals (valued name.FontVariant (codes "small-caps") ∷ []) []
    ++ (cond s.typewriter (valued name.FontFamily (codes "monospace") ∷ []) []
    ++ (cond s.underlined (valued name.TextDecoration (codes "underline") ∷ []) []
    ++ cond s.red (valued name.Class (codes "red") ∷ []) []))))

-- words are squeezed as a whole to the width that the layout gave them, whatever the face is
abbrev pub words_attributes : Levels → Words → List Attribute
words_attributes ls w =
    valued name.X (signed_decimal w.x.0) ∷ valued name.Y (signed_decimal (level_at ls w.level))
    ∷ valued name.FontSize (signed_decimal w.size.0) ∷ valued name.TextLength (signed_decimal w.width.0)
    ∷ valued name.LengthAdjust (codes "spacingAndGlyphs") ∷ style_attributes w.styles

unfoldable pub words_content : Levels → Words → Content
words_content ls w = Element tag.Text (words_attributes ls w) (Characters w.text.now Nothing) Nothing

-- ---- signs

abbrev pub sides : ℤ → ℤ → ℤ → ℤ → List Attribute
sides x y width height =
    valued name.X (signed_decimal x) ∷ valued name.Y (signed_decimal y)
    ∷ valued name.Width (signed_decimal width) ∷ valued name.Height (signed_decimal height) ∷ []

unfoldable pub rect_content : ℤ → ℤ → ℤ → ℤ → Content
rect_content x y width height = Empty tag.Rect (sides x y width height) Nothing

unfoldable pub staff_line_content : ℤ → ℤ → ℤ → Content
staff_line_content x y width = Empty tag.Rect (valued name.Class (codes "staff") ∷ sides x y width (pos 70)) Nothing

abbrev pub outline : List (List ℕ) → Attribute
outline texts = record { name = name.Href; value = codes "#" ∷ texts }

-- an outline by the texts of its name, at a place
unfoldable pub use_content : List (List ℕ) → ℤ → ℤ → Content
use_content texts x y =
    Empty tag.Use (outline texts ∷ valued name.X (signed_decimal x) ∷ valued name.Y (signed_decimal y) ∷ []) Nothing

-- the distance below the lowest line of the staff of a place y below a line of NABC
abbrev pub nabc_at : Levels → NabcLine → ℤ → ℤ
nabc_at ls l y = saturate_signed w32 (level_at ls (level.Nabc l) +ℤ y)

unfoldable pub nabc_content : Levels → NabcOutline → NabcLine → ℤ → ℤ → Content
nabc_content ls o l x y =
    Empty tag.Use
    (outline (name_of_nabc o) ∷ valued name.X (signed_decimal x) ∷ valued name.Y (signed_decimal (nabc_at ls l y))
    ∷ valued name.Class (codes "nabc") ∷ []) Nothing

-- a field of a message, by its class: that of a warning has a further one
unfoldable pub field_content : ℤ → ℤ → ℤ → ℤ → Bool → Content
field_content x y width height is_warning =
    Empty tag.Rect (valued name.Class (cond is_warning (codes "mark w") (codes "mark")) ∷ sides x y width height) Nothing

-- the course of a bow: from its begin to its end, bent towards a point
abbrev pub steps_of : Bow → List (List ℕ)
steps_of b =
    codes "M" ∷ signed_decimal b.x.0 ∷ codes "," ∷ signed_decimal b.y.0
    ∷ codes "q" ∷ signed_decimal b.bend_x.0 ∷ codes "," ∷ signed_decimal b.bend_y.0
    ∷ codes " " ∷ signed_decimal b.to_x.0 ∷ codes "," ∷ signed_decimal b.to_y.0 ∷ []

abbrev pub course : Bow → Attribute
course b = record { name = name.Course; value = steps_of b }

unfoldable pub bow_content : Bow → Content
bow_content b = Empty tag.Path (valued name.Class (codes "curve") ∷ course b ∷ []) Nothing

unfoldable pub sign_content : Levels → Sign → Content
sign_content ls (sign.Symbol s x y) = use_content (name_of_symbol s ∷ []) x.0 y.0
sign_content ls (sign.Rect x y width height) = rect_content x.0 y.0 width.0 height.0
sign_content ls (sign.StaffLine x y width) = staff_line_content x.0 y.0 width.0
sign_content ls (sign.Words w) = words_content ls w
sign_content ls (sign.Nabc o l x y) = nabc_content ls o l x.0 y.0
sign_content ls (sign.Bow b) = bow_content b
sign_content ls (sign.Field x y width height is_warning) = field_content x.0 y.0 width.0 height.0 is_warning

abbrev pub signs_content : Levels → List Sign → Content
signs_content ls [] = Nothing
signs_content ls (s ∷ signs) = and_then (sign_content ls s) (signs_content ls signs)

-- ---- heads, each at the height of its pitch

unfoldable pub head_content : NoteHead → Content
head_content h = use_content (name_of_head h.head) h.x.0 (height_at h.pitch)

abbrev pub heads_content : List NoteHead → Content
heads_content [] = Nothing
heads_content (h ∷ heads) = and_then (head_content h) (heads_content heads)

-- ---- parts and rows

abbrev pub translation : ℤ → ℤ → List (List ℕ)
translation x y = codes "translate(" ∷ signed_decimal x ∷ codes "," ∷ signed_decimal y ∷ codes ")" ∷ []

abbrev pub moved_to : ℤ → ℤ → Attribute
moved_to x y = record { name = name.Transform; value = translation x y }

-- the group of a part names the bytes of its syllable
abbrev pub part_attributes : Part → List Attribute
part_attributes p =
    valued name.Class (codes "syllable") ∷ valued name.Begin (decimal p.begin) ∷ valued name.End (decimal p.end)
    ∷ moved_to p.x.0 (pos 0) ∷ []

unfoldable pub part_content : Levels → Part → Content
part_content ls p = Element tag.Group (part_attributes p) (and_then (heads_content p.heads.items) (signs_content ls p.signs.items)) Nothing

abbrev pub parts_content : Levels → List Part → Content
parts_content ls [] = Nothing
parts_content ls (p ∷ parts) = and_then (part_content ls p) (parts_content ls parts)

unfoldable pub row_content : Row → List Part → Content
row_content row parts =
    Element tag.Group (valued name.Class (codes "row") ∷ moved_to row.x.0 row.y.0 ∷ [])
    (and_then (signs_content row.levels row.signs.items) (parts_content row.levels parts)) Nothing

-- the number of parts in a row before these rows, of the number that is left: the last row has them
-- all
abbrev pub parts_in : Row → List Row → ℕ → ℕ
parts_in row [] left = left
parts_in row (next ∷ later) left = min row.parts left

-- the parts of a row before these rows, of these parts without the first `passed`
abbrev pub parts_here : Row → List Row → List Part → ℕ → List Part
parts_here row later parts passed = take (parts_in row later (length parts - passed)) (drop passed parts)

abbrev pub rows_content : List Row → List Part → Content
rows_content [] parts = Nothing
rows_content (row ∷ rows) parts =
    and_then (row_content row (parts_here row rows parts 0))
    (rows_content rows (drop (parts_in row rows (length parts)) parts))

-- ---- the picture

unfoldable pub title_content : List ℕ → Content
title_content [] = Nothing
title_content (c ∷ text) = Element tag.Title [] (Characters (c ∷ text) Nothing) Nothing

abbrev pub view_box : Picture → Attribute
view_box p = record { name = name.ViewBox; value = codes "0 0 " ∷ signed_decimal p.width.0 ∷ codes " " ∷ signed_decimal p.height.0 ∷ [] }

abbrev pub root_attributes : Picture → List Attribute
root_attributes p =
    valued name.Xmlns (codes "http://www.w3.org/2000/svg") ∷ valued name.Space (codes "preserve")
    ∷ view_box p ∷ valued name.Class (codes "chant") ∷ []

abbrev pub flat_levels : Levels
flat_levels =
    let zero : Distance = record { 0 = pos 0 } in
    record { text = zero; translation = zero; above = zero; first = zero; second = zero; third = zero; fourth = zero }

abbrev pub page_of : Picture → Content
page_of p =
    Element tag.Svg (root_attributes p)
    (and_then (title_content p.name.now)
    (and_then (signs_content flat_levels p.title.items) (rows_content p.rows.items p.parts.items))) Nothing
