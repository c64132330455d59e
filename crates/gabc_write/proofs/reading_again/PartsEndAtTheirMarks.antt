-- At the point at which the end of a part is emitted, the part ends in the cutting of a body.
use Rattle.std.proofs.Common.{◌≡◌, ℕ, suc, List, [], ◌∷◌, ◌++◌, length, length-append, take, Bool, true, false, if◌then◌else◌, Option, Some, None, refl, sym, ap, subst, ◌∙◌, append-nil, arith}
use Rattle.std.specs.List.{list_any}
use Rattle.gabc_places.proofs.NothingAfterAnEnd.{both_empty}
use Rattle.gabc_notes.proofs.grammar.LawsOfEventsByPoint.{ends_append}
use Rattle.gabc_body.proofs.texts_of_body.TextEmitsThroughEnd.{ends_apart, none_ends}
use Rattle.gabc_places.specs.StageLaw.{concat_of}
use Rattle.gabc_places.specs.declared.place.Place.{Place}
use Rattle.gabc_places.specs.declared.place.Char.{Char}
use Rattle.gabc_text.specs.declared.text_event.TextEnd.{TextEnd}
use Rattle.gabc_text.specs.declared.text_event.TextEnd.TheVariants as text_end
use Rattle.gabc_text.specs.declared.text_event.TextEvent.{TextEvent}
use Rattle.gabc_text.specs.declared.text_event.TextEvent.TheVariants as text_out
use Rattle.gabc_text.specs.Ends.{EndsOnce, Leaves, ends_in}
use Rattle.gabc_text.specs.Events.{after_tokens, events_by_point, no_events_each}
use Rattle.gabc_notes.specs.declared.stage.NoteEnd.{NoteEnd}
use Rattle.gabc_notes.specs.declared.stage.NoteEnd.TheVariants as note_end
use Rattle.gabc_notes.specs.declared.stage.NoteEvent.{NoteEvent}
use Rattle.gabc_notes.specs.declared.stage.NoteEvent.TheVariants as note_out
use Rattle.gabc_notes.specs.SnippetRead.{ends_of}
use Rattle.gabc_body.specs.Events.{InText, InNotes, is_text_end, is_next, is_close, next_line}
use Rattle.gabc_body.specs.Units.{Mark, Opens, Next, Closes, EndsAfter}

-- ---- texts

text_ended : (events : List TextEvent) → list_any is_text_end (events ++ text_out.Ended text_end.Notes ∷ []) ≡ true
text_ended [] = refl
text_ended (x ∷ events) = grind (arith, text_ended events)

text_after : (lines : ℕ) (before : List (List TextEvent)) (l : List TextEvent) (after : List (List TextEvent)) (xs : List Char) → ends_in (concat_of before) ≡ []
    → length before ≡ length xs → list_any is_text_end l ≡ true → EndsAfter lines (InText (before ++ l ∷ after)) xs Opens
text_after lines [] l after [] e n h = ap (λ (b : Bool). if b then Some Opens else None) h
text_after lines (b ∷ before) l after (x ∷ xs) e n h =
    let o = ends_apart b (concat_of before) e in
    (ap (λ (z : Bool). if z then Some Opens else None) (none_ends b o.0), text_after lines before l after xs o.1 (omega (arith, n)) h)
text_after lines _ l after _ e n h = absurd (omega (arith, n))

-- a text that leaves a `(` and what follows ends there
pub text_ends : (lines : ℕ) (at : Place) (t rest : List ℕ) (xs : List Char) → EndsOnce at (t ++ 40 ∷ rest) → after_tokens (t ++ 40 ∷ rest) ≡ 40 ∷ rest → length xs ≡ length t
    → EndsAfter lines (InText (events_by_point at (t ++ 40 ∷ rest))) xs Opens
text_ends lines at t rest xs ends left n =
    let after : ends.rest ≡ 40 ∷ rest = ends.rest_is ∙ left in
    let whole : length (t ++ 40 ∷ rest) ≡ length (ends.prefix ++ ends.rest) = ap (length {A = ℕ}) ends.text_is in
    let same : length (ends.rest) ≡ length (40 ∷ rest) = ap (length {A = ℕ}) after in
    let long : length ends.before ≡ length xs = omega (arith, whole, same, length-append t (40 ∷ rest), length-append ends.prefix ends.rest, ends.one_each, n) in
    let notes : ends.how ≡ text_end.Notes = by ends.how ends.leaves after in
    subst (λ (lists : List (List TextEvent)). EndsAfter lines (InText lists) xs Opens) (sym ends.events_are)
    (text_after lines ends.before (ends.last ++ text_out.Ended ends.how ∷ []) (no_events_each ends.rest) xs ends.none_before long
    (ap (λ (how : TextEnd). list_any is_text_end (ends.last ++ text_out.Ended how ∷ [])) notes ∙ text_ended ends.last))
  where
    by : (how : TextEnd) → Leaves how ends.rest → ends.rest ≡ 40 ∷ rest → how ≡ text_end.Notes
    by text_end.Notes h e = refl
    by text_end.Finished h e = absurd (let f = sym h ∙ e in cc)
    by (text_end.Cut p) h e = absurd (let f = sym h ∙ e in cc)

-- ---- snippets

next_none : (events : List NoteEvent) → ends_of events ≡ [] → (list_any is_next events ≡ false) × (list_any is_close events ≡ false)
next_none [] e = (refl, refl)
next_none (note_out.Kept x ∷ events) e = next_none events e
next_none (note_out.Found f ∷ events) e = next_none events e
next_none (note_out.Ended how n ∷ events) e = absurd (cc)

-- the mark of an end that is emitted
abbrev pub mark_of : ℕ → ℕ → Place → NoteEnd → Option Mark
mark_of lines line opened note_end.Next = Some (Next (next_line lines line) opened)
mark_of lines line opened note_end.Close = Some Closes
mark_of lines line opened (note_end.Cut p) = None

one_mark : (lines line : ℕ) (opened : Place) (how : NoteEnd) (n : ℕ) (events : List NoteEvent) → ends_of events ≡ (how, n) ∷ []
    → (if list_any is_next events then Some (Next (next_line lines line) opened) else if list_any is_close events then Some Closes else None) ≡ mark_of lines line opened how
one_mark lines line opened how n [] e = absurd (cc)
one_mark lines line opened how n (note_out.Kept x ∷ events) e = one_mark lines line opened how n events e
one_mark lines line opened how n (note_out.Found f ∷ events) e = one_mark lines line opened how n events e
one_mark lines line opened how n (note_out.Ended end m ∷ events) e = grind (arith, next_none)

-- the lists before have no end, and that of the mark has one
pub snippet_ends : (lines line : ℕ) (opened : Place) (mark : Mark) (lists : List (List NoteEvent)) (xs : List Char) (how : NoteEnd) (n : ℕ) → mark_of lines line opened how ≡ Some mark
    → ends_of (concat_of (take (length xs) lists)) ≡ [] → ends_of (concat_of (take (suc (length xs)) lists)) ≡ (how, n) ∷ [] → EndsAfter lines (InNotes line opened lists) xs mark
snippet_ends lines line opened mark (l ∷ lists) [] how n m e f = one_mark lines line opened how n l (sym (ap ends_of (append-nil l)) ∙ f) ∙ m
snippet_ends lines line opened mark (l ∷ lists) (x ∷ xs) how n m e f =
    let o = both_empty (ends_of l) (ends_of (concat_of (take (length xs) lists))) (sym (ends_append l (concat_of (take (length xs) lists))) ∙ e) in
    let none = next_none l o.0 in
    let later : ends_of (concat_of (take (suc (length xs)) lists)) ≡ (how, n) ∷ [] =
    sym (ap (λ (z : List (NoteEnd × ℕ)). z ++ ends_of (concat_of (take (suc (length xs)) lists))) o.0) ∙ sym (ends_append l (concat_of (take (suc (length xs)) lists))) ∙ f in
    (rw (none.0, none.1) refl, snippet_ends lines line opened mark lists xs how n m o.1 later)
snippet_ends lines line opened mark _ _ how n m e f = absurd (cc)
