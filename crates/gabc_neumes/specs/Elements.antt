-- The elements of a snippet and their segments: spans that count the snippet's items.
use Rattle.std.specs.Prelude.{ℕ, List, Bool, true, false, not, ◌||◌, codes}
use Rattle.std.specs.List.{filter_map}
use Rattle.gabc_patterns.specs.Derivative.{same_texts}
use Rattle.gabc_places.specs.declared.place.Span.{Span}
use Rattle.gabc_notes.specs.Items.{bytes_of}
use Rattle.gabc_notes.specs.Notes.{note_in}
use Rattle.gabc_notes.specs.declared.item.Item.{Item}
use Rattle.gabc_notes.specs.declared.item.ItemKind.{ItemKind}
use Rattle.gabc_notes.specs.declared.item.ItemKind.TheVariants as kind
use Rattle.gabc_notes.specs.declared.note.Note.{Note}
use Rattle.gabc_neumes.specs.Runs.{AreRuns}

-- a spacing of that text stands within an element: `!`, `/0` or `/!`
abbrev pub is_inner_spacing : List ℕ → Bool
is_inner_spacing t = same_texts t (codes "!") || same_texts t (codes "/0") || same_texts t (codes "/!")

-- an item of that kind and text is a divider
abbrev pub divides : ItemKind → List ℕ → Bool
divides kind.Clef t = true
divides kind.Bar t = true
divides kind.Custos t = true
divides kind.Break t = true
divides kind.Spacing t = not (is_inner_spacing t)
divides _ t = false

-- the item is part of an element: it is no divider
abbrev pub is_in_element : List ℕ → Item → Bool
is_in_element kept i = not (divides i.kind (bytes_of kept i))

-- an item of that kind is part of a segment
abbrev pub joins_segment : ItemKind → Bool
joins_segment kind.Note = true
joins_segment kind.Attribute = true
joins_segment kind.Fusion = true
joins_segment _ = false

abbrev pub is_in_segment : Item → Bool
is_in_segment i = joins_segment i.kind

-- the spans are the elements of the items, in order
abbrev pub AreElementsOf : List ℕ → List Item → List Span → Type 0
AreElementsOf kept items spans = AreRuns (is_in_element kept) items spans

-- the spans are the segments of the items, in order
abbrev pub AreSegmentsOf : List Item → List Span → Type 0
AreSegmentsOf items spans = AreRuns is_in_segment items spans

-- the notes among the items, in order
abbrev pub notes_in : List ℕ → List Item → List Note
notes_in kept items = filter_map (note_in kept) items
