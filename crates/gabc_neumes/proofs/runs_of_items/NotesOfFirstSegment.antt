-- The notes of the segment that begins the items, by the first item.
use Rattle.std.proofs.Common.{◌≡◌, ℕ, List, [], ◌∷◌, true, false, cond, ap, ◌∙◌, Option, Some, None}
use Rattle.std.specs.List.{take_while, cons_option}
use Rattle.std.proofs.lemmas.List.Sums.{take_while-cons}
use Rattle.gabc_notes.specs.Notes.{note_in}
use Rattle.gabc_notes.specs.declared.item.Item.{Item}
use Rattle.gabc_notes.specs.declared.note.Note.{Note}
use Rattle.gabc_neumes.specs.Elements.{is_in_segment, notes_in}

pub ahead_end : (kept : List ℕ) (i : Item) (items : List Item) → is_in_segment i ≡ false → notes_in kept (take_while is_in_segment (i ∷ items)) ≡ []
ahead_end kept i items e = ap (notes_in kept) (take_while-cons is_in_segment i items ∙ ap (λ b. cond b (i ∷ take_while is_in_segment items) []) e)

ahead_item : (kept : List ℕ) (i : Item) (items : List Item) → is_in_segment i ≡ true → notes_in kept (take_while is_in_segment (i ∷ items)) ≡ notes_in kept (i ∷ take_while is_in_segment items)
ahead_item kept i items e = ap (notes_in kept) (take_while-cons is_in_segment i items ∙ ap (λ b. cond b (i ∷ take_while is_in_segment items) []) e)

pub ahead_note : (kept : List ℕ) (i : Item) (items : List Item) (n : Note) → is_in_segment i ≡ true → note_in kept i ≡ Some n
    → notes_in kept (take_while is_in_segment (i ∷ items)) ≡ n ∷ notes_in kept (take_while is_in_segment items)
ahead_note kept i items n e f = ahead_item kept i items e ∙ ap (λ (o : Option Note). cons_option o (notes_in kept (take_while is_in_segment items))) f

pub ahead_none : (kept : List ℕ) (i : Item) (items : List Item) → is_in_segment i ≡ true → note_in kept i ≡ None
    → notes_in kept (take_while is_in_segment (i ∷ items)) ≡ notes_in kept (take_while is_in_segment items)
ahead_none kept i items e f = ahead_item kept i items e ∙ ap (λ (o : Option Note). cons_option o (notes_in kept (take_while is_in_segment items))) f
