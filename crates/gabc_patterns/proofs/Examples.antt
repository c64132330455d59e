-- A small table by example: notes, clefs, two clefs joined by @, and @.
use Rattle.std.proofs.Common.{◌≡◌, [], ◌∷◌, true, false, refl, codes, Some, None}
use Rattle.gabc_patterns.specs.Pattern.{Pattern, one_of, ◌·◌, ◌or◌, many, optional, text}
use Rattle.gabc_patterns.specs.LongestItems.{Table, IsReading}
use Rattle.gabc_patterns.specs.Derivative.{is_snippet, is_viable}
use Rattle.gabc_patterns.specs.Function.{items, keep, trim, kept_text}
use Rattle.gabc_patterns.specs.Reads.{spells, kind_of, longest, parts_by, items_by, is_read, goes_on, whole_front}
use Rattle.gabc_patterns.proofs.LongestMunchByCharacter.{snippet_from}
use Rattle.gabc_patterns.proofs.ItemsFunctionReads.{items_are}

-- the kinds of the example
pub data ExampleKind : Type 0 where
  Note Clef At : ExampleKind

-- a pitch, with a hyphen before it, and dots after it
abbrev pub note : Pattern
note = optional (text (codes "-")) · one_of (codes "bcg") · many (text (codes "."))

-- c, b and a digit
abbrev pub clef : Pattern
clef = text (codes "c") · optional (text (codes "b")) · one_of (codes "12345")

-- the example
abbrev pub table : Table ExampleKind
table = (Note, note) ∷ (Clef, clef or clef · text (codes "@") · clef) ∷ (At, text (codes "@")) ∷ []

-- the first two clefs are joined, since that is the longest item there
three_clefs : items table (codes "c4@c4@c4") ≡ (Clef, codes "c4@c4") ∷ (At, codes "@") ∷ (Clef, codes "c4") ∷ []
three_clefs = refl

-- cb, which a clef may begin with, is two notes
two_notes : items table (codes "cb") ≡ (Note, codes "c") ∷ (Note, codes "b") ∷ []
two_notes = refl

-- a clef, and at the end an @ and a note, since no second clef comes
at_and_note : items table (codes "c4@cb.") ≡ (Clef, codes "c4") ∷ (At, codes "@") ∷ (Note, codes "c") ∷ (Note, codes "b.") ∷ []
at_and_note = refl

-- the same, as the relation
reads_three_clefs : IsReading table ((Clef, codes "c4@c4") ∷ (At, codes "@") ∷ (Clef, codes "c4") ∷ []) (codes "c4@c4@c4")
reads_three_clefs =
    items_are table refl (codes "c4@c4@c4") (snippet_from table refl (codes "c4@c4@c4") refl)

-- a hyphen goes on, but it is no snippet
hyphen_goes_on : is_viable table (codes "g-") ≡ true
hyphen_goes_on = refl

hyphen_is_none : is_snippet table (codes "g-") ≡ false
hyphen_is_none = refl

-- what does not go on is left out
left_out : keep table (codes "g4!c4.@-") ≡ codes "gc4@-"
left_out = refl

-- and at the end what makes no snippet is cut off
cut_off : kept_text table (codes "g4!c4.@-") ≡ codes "gc4@"
cut_off = refl

trimmed : trim table (codes "gc4@-") ≡ codes "gc4@"
trimmed = refl

-- the same, by the longest beginnings
spelled : spells note (codes "-c..") ≡ true
spelled = refl

not_spelled : spells note (codes "-c.4") ≡ false
not_spelled = refl

clef_by_kind : kind_of table (codes "cb3@c4") ≡ Some Clef
clef_by_kind = refl

none_by_kind : kind_of table (codes "c4@") ≡ None
none_by_kind = refl

longest_by_kind : longest (kind_of table) 6 (codes "c4@cb.") ≡ Some (Clef, 2)
longest_by_kind = refl

three_clefs_by : items_by table (codes "c4@c4@c4") ≡ (Clef, codes "c4@c4") ∷ (At, codes "@") ∷ (Clef, codes "c4") ∷ []
three_clefs_by = refl

at_and_note_by : items_by table (codes "c4@cb.") ≡ (Clef, codes "c4") ∷ (At, codes "@") ∷ (Note, codes "c") ∷ (Note, codes "b.") ∷ []
at_and_note_by = refl

-- as far as an item begins
up_to_hyphen : items_by table (codes "g-@") ≡ (Note, codes "g") ∷ []
up_to_hyphen = refl

-- the elements of a list may be anything that has kinds by lists
runs_of_dots : parts_by (λ t. kind_of ((Note, many (text (codes "."))) ∷ []) t) (codes "..c.") ≡ (Note, codes "..") ∷ []
runs_of_dots = refl

read_whole : is_read table (codes "c4@cb.") ≡ true
read_whole = refl

not_read : is_read table (codes "g-") ≡ false
not_read = refl

pitch_completes : goes_on table (codes "4" ∷ codes "b" ∷ []) (codes "g-") ≡ true
pitch_completes = refl

none_completes : goes_on table ([] ∷ codes "4" ∷ []) (codes "g-") ≡ false
none_completes = refl

front_without_hyphen : whole_front table (codes "gc4@-") ≡ codes "gc4@"
front_without_hyphen = refl

no_front : whole_front table (codes "4c") ≡ []
no_front = refl
