-- Which comes first in the GABC snippets that have ended, a note or a clef, where one more ends.
use Rattle.std.proofs.Common.{◌≡◌, ℕ, ◌-◌, ◌≤◌, ◌==◌, Bool, true, cond, List, [], ◌∷◌, ◌++◌, length, take, drop, Option, Some, None, refl, sym, ap, subst, ◌∙◌, arith, append_assoc, append-nil, length-append, drop_at}
use Rattle.std.specs.List.{flat_map}
use Rattle.std.proofs.lemmas.Grind.{flat_map-append}
use Rattle.std.proofs.lemmas.Str.{chars-encodes}
use Rattle.std.proofs.Math.Seq.{take-append_seam}
use Rattle.gabc_places.specs.declared.place.Span.{Span}
use Rattle.gabc_text.specs.declared.text_event.TextEnd.TheVariants as text_end
use Rattle.gabc_text.specs.declared.text_event.TextEvent.TheVariants as text
use Rattle.gabc_notes.specs.FirstNoteOrClef.{first_note_or_clef}
use Rattle.gabc_notes.specs.Items.{placed_items, items_of}
use Rattle.gabc_notes.specs.Table.{gabc}
use Rattle.gabc_patterns.specs.Reads.{items_by}
use Rattle.gabc_notes.specs.declared.item.Item.{Item}
use Rattle.gabc_notes.specs.declared.item.ItemKind.{ItemKind}
use Rattle.gabc_notes.specs.declared.stage.NoteEnd.TheVariants as note_end
use Rattle.gabc_notes.specs.declared.stage.NoteEvent.TheVariants as note
use Rattle.gabc_body.specs.declared.events.BodyEvent.{BodyEvent}
use Rattle.gabc_body.specs.declared.events.BodyEvent.TheVariants as event
use Rattle.gabc_body.specs.Syllable.{is_seam, prefix_of, part_of, slice, text_at}
use Rattle.gabc_body.specs.witness.Gatherer.{first_past}
use Rattle.gabc_body.proofs.holding.SeamsOfText.{first_byte, text_is}

-- ---- the first of two lists of items

abbrev or_then : Option ItemKind → Option ItemKind → Option ItemKind
or_then None later = later
or_then (Some kind) later = Some kind

first_append : (is js : List Item) → first_note_or_clef (is ++ js) ≡ or_then (first_note_or_clef is) (first_note_or_clef js)
first_append [] js = refl
first_append (i ∷ is) js = grind (arith, first_append is js)

abbrev first_in : List (List ℕ) → Option ItemKind
first_in ended = first_note_or_clef (flat_map (λ kept. items_of kept) ended)

first_push : (ended : List (List ℕ)) (kept : List ℕ) → first_in (ended ++ kept ∷ []) ≡ or_then (first_in ended) (first_note_or_clef (items_of kept))
first_push ended kept = grind (arith, flat_map-append, first_append, append-nil)

-- ---- a character begins where a part begins

grown_seam : (part more : List ℕ) → is_seam part ≡ true → is_seam more ≡ true → is_seam (part ++ more) ≡ true
grown_seam [] more h k = k
grown_seam (b ∷ part) more h k = h

pub part_seam : (events : List BodyEvent) → is_seam (part_of events) ≡ true
part_seam [] = refl
part_seam (event.Text (text.Kept c) ∷ events) = grown_seam (part_of events) _ (part_seam events) (rw append-nil at (first_byte c.c []))
part_seam (event.Text (text.Ended text_end.Notes) ∷ events) = refl
part_seam (event.Notes line (note.Kept c) ∷ events) = grown_seam (part_of events) _ (part_seam events) (rw append-nil at (first_byte c.c []))
part_seam (event.Notes line (note.Ended note_end.Next n) ∷ events) = refl
part_seam (event.Notes line (note.Ended note_end.Close n) ∷ events) = refl
part_seam (_ ∷ events) = part_seam events

taken_seam : (n : ℕ) (part : List ℕ) → is_seam part ≡ true → is_seam (take n part) ≡ true
taken_seam n part h = grind arith

prefix_seam : (n : ℕ) (part : List ℕ) → is_seam part ≡ true → is_seam (prefix_of n part) ≡ true
prefix_seam n part h = grind (arith, taken_seam n part h, h)

-- ---- the text of the snippet that ends

module _ (ended kept mark : List ℕ) (begins : is_seam kept ≡ true) (marks : is_seam mark ≡ true) where
  abbrev whole : List ℕ
  whole = (ended ++ kept) ++ mark

  abbrev span : Span
  span = record { from = length ended; to = length (ended ++ kept) }

  split : whole ≡ ended ++ (kept ++ mark)
  split = append_assoc ended kept mark

  rest : drop (length ended) whole ≡ kept ++ mark
  rest = ap (drop (length ended)) split ∙ drop_at ended (kept ++ mark) (length ended) refl

  after : drop (length (ended ++ kept)) whole ≡ mark
  after = drop_at (ended ++ kept) mark (length (ended ++ kept)) refl

  size : length (ended ++ kept) - length ended ≡ length kept
  size = omega (arith, length-append ended kept)

  sliced : slice span whole ≡ kept
  unfolding slice
  sliced = ap (λ n. take n (drop (length ended) whole)) size ∙ ap (take (length kept)) rest ∙ take-append_seam kept mark

  pub snippet_text : text_at span whole ≡ kept
  snippet_text =
      text_is span whole (omega (arith, length-append ended kept)) (omega (arith, length-append (ended ++ kept) mark))
      (subst (λ t. is_seam t ≡ true) (sym rest) (grown_seam kept mark begins marks)) (subst (λ t. is_seam t ≡ true) (sym after) marks)
      ∙ sliced

-- ---- one more snippet

pub first_more : (snippets : List (List ℕ)) (ended part mark : List ℕ) (line n : ℕ) → is_seam part ≡ true → is_seam mark ≡ true
    → first_past (first_in snippets) line (record { from = length ended; to = length (ended ++ prefix_of n part) }) ((ended ++ prefix_of n part) ++ mark)
    ≡ first_in (cond (line == 0) (snippets ++ prefix_of n part ∷ []) snippets)
first_more snippets ended part mark line n h k = grind (arith, first_push, snippet_text, prefix_seam)

-- ---- an empty snippet

empty_slice : (span : Span) (kept : List ℕ) → span.to ≤ span.from → slice span kept ≡ []
unfolding slice
empty_slice span kept l = ap (λ n. take n (drop span.from kept)) (let none : span.to - span.from ≡ 0 = omega (arith, l) in none)

no_items : first_note_or_clef (items_of []) ≡ None
no_items = ap (λ (t : List ℕ). first_note_or_clef (placed_items 0 (items_by gabc t))) (chars-encodes [] refl)

none_in : (b : Bool) (t : List ℕ) → t ≡ [] → first_note_or_clef (items_of (cond b t [])) ≡ None
none_in b t e = grind (arith, no_items)

-- it has neither a note nor a clef
pub none_in_empty : (span : Span) (kept : List ℕ) → span.to ≤ span.from → first_note_or_clef (items_of (text_at span kept)) ≡ None
none_in_empty span kept l = none_in _ (slice span kept) (empty_slice span kept l)
