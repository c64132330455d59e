-- At a point at most one syllable ends, and nothing follows its `)`.
use Rattle.std.proofs.Common.{◌≡◌, ℕ, ◌-◌, Bool, true, List, [], ◌∷◌, ◌++◌, map, length, refl, sym, ap, ◌∙◌, Some, arith}
use Rattle.std.proofs.Math.Bool.{or-false}
use Rattle.std.proofs.lemmas.Option.{same_Some}
use native.Mathlib.Numerals.{unary_clauses}
use Rattle.std.specs.List.{list_any, slice_get}
use Rattle.gabc_places.specs.BoundedList.{BoundedList, extended_by}
use Rattle.gabc_places.specs.declared.place.Place.{Place}
use Rattle.gabc_text.specs.declared.text_event.TextEvent.{TextEvent}
use Rattle.gabc_notes.specs.declared.stage.NoteEvent.{NoteEvent}
use Rattle.gabc_body.specs.declared.events.BodyEvent.TheVariants.{Text}
use Rattle.gabc_notes.specs.Ends.{is_ended}
use Rattle.gabc_text.specs.End.{is_end}
use Rattle.gabc_body.specs.Events.{is_text_end, is_close, is_next, note_event}
use Rattle.gabc_body.specs.Syllable.{closes}
use Rattle.gabc_score.specs.machine.PartPushes.{EndsLast, ClosesLast}
use Rattle.gabc_places.specs.declared.place.Char.{Char}
use Rattle.gabc_score.specs.declared.body_stage.BodyPart.{BodyPart}
use Rattle.gabc_body.specs.declared.events.BodyEvent.{BodyEvent}
use Rattle.gabc_score.specs.machine.PartSteps.{IsBounded, PartSteps}
use Rattle.gabc_score.specs.machine.PartSteps as step

pub ends_last : {O : Type 0} (ends : O → Bool) (es : List O) → ((before after : List O) (x : O) → es ≡ before ++ x ∷ after → ends x ≡ true → after ≡ []) → EndsLast ends es
ends_last ends [] h = tt
ends_last ends (e ∷ es) h = (h [] es e refl, ends_last ends es (λ before after x k. h (e ∷ before) after x (ap (λ ys. e ∷ ys) k)))

-- so it is if a push to an empty room stops at an end
pub pushed_last : {O R : Type 0} (ends stops : O → Bool) → ((x : O) → ends x ≡ true → stops x ≡ true) → (old new : BoundedList O) → old.items ≡ [] → new.limit ≡ old.limit
    → ((before after : List O) (x : O) → new ≡ extended_by old (before ++ x ∷ after) → stops x ≡ true → (after ≡ []) × R) → EndsLast ends new.items
pushed_last ends stops imp old new none limit stop = grind (arith, ends_last)

-- so the last event says whether one ends a part so
pub last_emits_so : {O : Type 0} (ends : O → Bool) (es : List O) (x : O) → EndsLast ends es → slice_get es (length es - 1) ≡ Some x → list_any ends es ≡ ends x
last_emits_so ends [] x h k = absurd (cc)
last_emits_so ends (e ∷ []) x h k = or-false (ends e) ∙ ap ends (same_Some e x k)
last_emits_so ends (e ∷ f ∷ es) x h k = grind (arith, last_emits_so ends (f ∷ es) x h.1 (simp unary_clauses (simp unary_clauses at k)))

pub close_ends : (x : NoteEvent) → is_close x ≡ true → is_ended x ≡ true
close_ends x h = grind arith

-- so does the `|`
pub next_ends : (x : NoteEvent) → is_next x ≡ true → is_ended x ≡ true
next_ends x e = grind arith

pub text_end_ends : (x : TextEvent) → is_text_end x ≡ true → is_end x ≡ true
text_end_ends x h = grind arith

close_is : (line : ℕ) (opened : Place) (x : NoteEvent) → closes (note_event line opened x) ≡ is_close x
close_is line opened x = grind arith

pub notes_close_last : (line : ℕ) (opened : Place) (es : List NoteEvent) → EndsLast is_close es → ClosesLast (map (note_event line opened) es)
notes_close_last line opened [] h = tt
notes_close_last line opened (e ∷ es) h = (λ c. ap (map (note_event line opened)) (h.0 (sym (close_is line opened e) ∙ c)), notes_close_last line opened es h.1)

pub texts_close_last : (es : List TextEvent) → ClosesLast (map (λ (o : TextEvent). Text o) es)
texts_close_last [] = tt
texts_close_last (e ∷ es) = (λ c. absurd (cc), texts_close_last es)

pub closes_last : {lines macros : ℕ} {x : Char} {before after : BodyPart} {now : List BodyEvent} (s : PartSteps lines macros x before now after) → IsBounded s → ClosesLast now
closes_last (step.in_front h) k = tt
closes_last (step.leaves_front h s) k = closes_last s k
closes_last (step.text_goes {es = es} h e) k = texts_close_last es
closes_last (step.text_ends {es = es} h e b) k = texts_close_last es
closes_last (step.snippet_goes {line} {opened} {es = es} s n c) k = notes_close_last line opened es k.once
closes_last (step.snippet_next {line} {opened} {es = es} s n b) k = notes_close_last line opened es k.once
closes_last (step.snippet_closes {line} {opened} {es = es} s n c) k = notes_close_last line opened es k.once
