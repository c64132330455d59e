-- What a part emits of a character, and the part after it.
use Rattle.std.proofs.Common.{◌≡◌, ◌≤◌, ◌==◌, ℕ, Bool, true, false, if◌then◌else◌, List, ◌∷◌, map, length, refl, ◌∙◌, arith}
use Rattle.std.proofs.lemmas.Bool.{eq-eqb, ne_eqb}
use Rattle.std.proofs.lemmas.List.{length-map}
use Rattle.std.specs.List.{list_any}
use Rattle.gabc_places.specs.declared.place.Char.{Char}
use Rattle.gabc_places.specs.declared.place.Place.{Place}
use Rattle.gabc_text.specs.declared.stage.TextStage.{TextStage}
use Rattle.gabc_text.specs.declared.text_event.TextEvent.{TextEvent}
use Rattle.gabc_text.specs.TextStage.{fresh_stage}
use Rattle.gabc_notes.specs.declared.stage.NoteEvent.{NoteEvent}
use Rattle.gabc_score.specs.declared.body_stage.BodyPart.{BodyPart}
use Rattle.gabc_score.specs.declared.body_stage.BodyPart.TheVariants as part
use Rattle.gabc_body.specs.declared.events.BodyEvent.{BodyEvent}
use Rattle.gabc_body.specs.declared.events.BodyEvent.TheVariants as event
use Rattle.gabc_score.specs.witness.BodyStage.{BodyStageState, part_with, running_events_left, texts_by_stage}
use Rattle.gabc_body.specs.Events.{PartAhead, InComment, events_from, events_in, after_mark, is_next, is_close, is_text_end, note_event, next_line, part_after_character, snippet_from, text_from}
use Rattle.gabc_body.specs.witness.TextEvents.{text_events}
use Rattle.gabc_score.specs.machine.PartPushes.{Emits}
use Rattle.gabc_score.specs.machine.PartSteps.{IsBounded, PartSteps, SnippetSteps, TakesChar}
use Rattle.gabc_score.specs.machine.PartSteps as step
use Rattle.gabc_text.specs.witness.Steps as text

-- the part after a character, by whether the snippet ended at a `|`, at a `)`, or not
abbrev part_then : ℕ → ℕ → ℕ → Place → Place → (List Char → PartAhead) → Bool → Bool → List Char → PartAhead
part_then lines macros line opened at goes next close xs =
    if next then snippet_from lines macros (next_line lines line) opened xs else
    if close then text_from texts_by_stage (after_mark at) xs else
    goes xs

module _ (lines macros : ℕ) (x : Char) where
  -- what is emitted of the characters, the first of which stands in this part
  abbrev pub left : BodyPart → List Char → List (List BodyEvent)
  left b xs = events_from texts_by_stage lines macros (part_with b xs) xs

  text_emits : (s t : TextStage) (es : List TextEvent) → text.Steps s x es t → (next : List Char → PartAhead) → ((xs : List Char) → next xs ≡ (if list_any is_text_end es then snippet_from lines macros 0 x.place xs else part_with (part.Text t) xs))
      → (xs : List Char) → left (part.Text s) (x ∷ xs) ≡ text_events es ∷ events_from texts_by_stage lines macros (next xs) xs
  text_emits s t es h next n xs = grind arith

  snippet_emits : {line : ℕ} {opened : Place} {b after : BodyPart} {es : List NoteEvent} → SnippetSteps x line opened b es after → (next : List Char → PartAhead)
      → ((xs : List Char) → next xs ≡ part_then lines macros line opened x.place (part_with after) (list_any is_next es) (list_any is_close es) xs)
      → (xs : List Char) → left b (x ∷ xs) ≡ map (note_event line opened) es ∷ events_from texts_by_stage lines macros (next xs) xs
  snippet_emits (step.in_gabc {opened} {es = es} h) next n xs = grind arith
  snippet_emits (step.in_nabc {line} {opened} {es = es} h) next n xs = grind arith

  in_comment : (b : Bool) → (x.c == 10) ≡ b → (xs : List Char) → left part.Comment (x ∷ xs)
      ≡ events_in (if b then part_with (part.Text (fresh_stage x.place)) (x ∷ xs) else InComment)
      ∷ events_from texts_by_stage lines macros (part_after_character texts_by_stage lines macros (if b then part_with (part.Text (fresh_stage x.place)) (x ∷ xs) else InComment) x xs) xs
  in_comment b e xs = rw e refl

few_notes : (line : ℕ) (opened : Place) (es : List NoteEvent) → length es ≤ 3 → length (map (note_event line opened) es) ≤ 8
few_notes line opened es few = rw (length-map es (note_event line opened)) (omega (arith, few))

pub part_emits : {lines macros : ℕ} {x : Char} {before after : BodyPart} {now : List BodyEvent} → PartSteps lines macros x before now after → (xs : List Char) → left lines macros x before (x ∷ xs) ≡ now ∷ left lines macros x after xs
part_emits {lines} {macros} {x} (step.in_front h) = in_comment lines macros x false (ne_eqb x.c 10 h)
part_emits {lines} {macros} {x} (step.leaves_front h s) = λ xs. in_comment lines macros x true (eq-eqb x.c 10 h) xs ∙ part_emits s xs
part_emits {lines} {macros} {x} (step.text_goes {s} {t} {es} h e) = grind (arith, text_emits)
part_emits {lines} {macros} {x} (step.text_ends {s} {t} {es} {after} h e b) = grind (arith, text_emits)
part_emits {lines} {macros} {x} (step.snippet_goes {after = after} s n c) = snippet_emits lines macros x s (part_with after) (λ xs. rw (n, c) refl)
part_emits {lines} {macros} {x} (step.snippet_next {after = after} s n b) = snippet_emits lines macros x s (part_with after) (λ xs. rw n (b.reads xs))
part_emits {lines} {macros} {x} (step.snippet_closes s n c) = snippet_emits lines macros x s (part_with (part.Text (fresh_stage (after_mark x.place)))) (λ xs. rw (n, c) refl)

pub few_events : {lines macros : ℕ} {x : Char} {before after : BodyPart} {now : List BodyEvent} (s : PartSteps lines macros x before now after) → IsBounded s → length now ≤ 8
few_events (step.in_front h) k = omega arith
few_events (step.leaves_front h s) k = few_events s k
few_events (step.text_goes {es = es} h e) k = rw (length-map es (λ (o : TextEvent). event.Text o)) k.few
few_events (step.text_ends {es = es} h e b) k = rw (length-map es (λ (o : TextEvent). event.Text o)) k.few
few_events (step.snippet_goes {line} {opened} {es = es} s n c) k = few_notes line opened es k.few
few_events (step.snippet_next {line} {opened} {es = es} s n b) k = few_notes line opened es k.few
few_events (step.snippet_closes {line} {opened} {es = es} s n c) k = few_notes line opened es k.few

-- so it is with a stage of a body
pub stage_emits : (old : BodyStageState) {new : BodyStageState} {x : Char} → new ≡ record old { part = new.part; events = new.events } → TakesChar old.nabc_lines old.macros x old.part new.events new.part
    → Emits (running_events_left old) (running_events_left new) x 8 new.events
stage_emits old same s = grind (arith, few_events, part_emits)
