-- After a stop or the end a stage gives nothing.
use Rattle.std.proofs.Common.{◌≡◌, true, List, [], ◌∷◌, ◌++◌, map, Option, Some, None, refl, sym, ap, subst, ◌∙◌, arith}
use Rattle.std.proofs.lemmas.List.{append_cancel_left}
use Rattle.gabc_places.specs.BoundedList.{BoundedList, extended_by}
use Rattle.gabc_places.specs.StageLaw.{concat_of, silence, EmitsNothing, StopsAtEnd}
use Rattle.gabc_places.proofs.PushesAreOne.{joined_silence}
use Rattle.gabc_places.proofs.NothingAfterAnEnd.{both_empty}
use Rattle.gabc_places.specs.declared.code.Code.{Code}
use Rattle.gabc_places.specs.declared.code.Fault.{Fault}
use Rattle.gabc_places.specs.declared.limits.Limits.{Limits}
use Rattle.gabc_places.specs.declared.place.Char.{Char}
use Rattle.gabc_headers.specs.declared.head_event.HeadEvent.{HeadEvent}
use Rattle.gabc_headers.specs.declared.head_event.HeadEvent.TheVariants as head_event
use Rattle.gabc_body.specs.declared.events.BodyEvent.{BodyEvent}
use Rattle.gabc_score.specs.declared.score_event.BorrowedSyllable.{BorrowedSyllable}
use Rattle.gabc_score.specs.declared.score_event.BorrowedSyllable.TheVariants.{First, Second}
use Rattle.gabc_score.specs.declared.score_event.ScoreEvent.{ScoreEvent}
use Rattle.gabc_score.specs.declared.score_machine.ScoreMachine.{ScoreMachine}
use Rattle.gabc_score.specs.declared.score_machine.ScorePart.{ScorePart}
use Rattle.gabc_score.specs.declared.score_machine.ScorePart.TheVariants as score_part
use Rattle.gabc_body.specs.Body.{fault_at}
use Rattle.gabc_score.specs.witness.BodyStage.{BodyStageState, texts_by_stage}
use Rattle.gabc_body.specs.Events.{InComment, events_from}
use Rattle.gabc_body.specs.NoteBeforeClef.{found_first}
use Rattle.gabc_body.specs.ScoreEvents.{ScoreOutput, Found, Stop, Syllable, End, findings_now, characters_in}
use Rattle.gabc_score.specs.ScoreStage.{events_borrowed, events_of, is_last_event}
use Rattle.gabc_score.specs.witness.ScoreStage.{left_of}
use Rattle.gabc_body.specs.witness.BodyBuilder.{with_all, code_in}
use Rattle.gabc_score.specs.machine.ScoreStage.{HeldScore, placed_after, score_past, end_outputs_by, left_by, body_left, fresh_score, score_left, outputs_left}
use Rattle.gabc_score.specs.machine.ScoreMachine.{held_score, shown}
use Rattle.gabc_body.proofs.score_events.NothingAfterTheEnd.{Ends, silent, then_end, last_ends}

-- ---- what is left ends at its first stop or end

module _ (limits : Limits) where
  end_ends : (s : HeldScore) (now : List BodyEvent) (fault : Option Fault) (outputs : List ScoreOutput) → outputs ≡ [] → Ends (end_outputs_by s now fault ++ outputs)
  end_ends s now (Some fault) outputs e = last_ends [] (placed_after s.is_preceded s.gathered.made) (Stop fault) outputs e
  end_ends s now None outputs e = last_ends _ _ End outputs e

  by_code : (code : Option Code) (s : HeldScore) (x : Char) (now : List BodyEvent) (xs : List HeadEvent) (later : List (List ScoreOutput)) → Ends (concat_of later) → Ends (concat_of (left_by code s x now xs later))
  by_code (Some code) s x now xs later h = last_ends [] (placed_after s.is_preceded s.gathered.made) (Stop (fault_at x.place code)) (concat_of (silence xs)) (joined_silence xs)
  by_code None s x now xs later h = then_end (findings_now now ++ found_first s.gathered.first_kind (with_all s.gathered now).first_kind x.place) _ (concat_of later) h

  body_ends : (s : HeldScore) (lists : List (List BodyEvent)) (xs : List HeadEvent) → Ends (concat_of (body_left limits s lists xs))
  body_ends s lists [] = then_end [] (placed_after s.is_preceded s.gathered.made) [] tt
  body_ends s (now ∷ lists) (head_event.Body x ∷ xs) = by_code (code_in limits (with_all s.gathered now)) s x now xs _ (body_ends (score_past s x now) lists xs)
  body_ends s [] (head_event.Body x ∷ xs) = silent _ (joined_silence (head_event.Body x ∷ xs))
  body_ends s lists (head_event.End ∷ xs) = grind (arith, end_ends, joined_silence)
  body_ends s lists (head_event.Stop fault ∷ xs) = last_ends [] (placed_after s.is_preceded s.gathered.made) (Stop fault) (concat_of (silence xs)) (joined_silence xs)
  body_ends s lists (head_event.Found f ∷ xs) = (λ l. absurd (cc), body_ends s lists xs)
  body_ends s lists (head_event.Heads lines macros canonical ∷ xs) = body_ends s lists xs

  score_ends : (xs : List HeadEvent) → Ends (concat_of (score_left limits xs))
  score_ends [] = tt
  score_ends (head_event.Heads lines macros canonical ∷ xs) = body_ends (fresh_score limits canonical) (events_from texts_by_stage lines macros InComment (characters_in xs)) xs
  score_ends (head_event.Found f ∷ xs) = (λ l. absurd (cc), score_ends xs)
  score_ends (head_event.Body x ∷ xs) = score_ends xs
  score_ends (_ ∷ xs) = (λ l. joined_silence xs, silent _ (joined_silence xs))

  left_ends : (part : ScorePart) (s : HeldScore) (body : BodyStageState) (xs : List HeadEvent) → Ends (concat_of (outputs_left limits part s body xs))
  left_ends part s body xs = grind (arith, score_ends, body_ends, silent, joined_silence)

pub machine_ends : (m : ScoreMachine) (xs : List HeadEvent) → Ends (concat_of (left_of (shown m) xs))
machine_ends m xs = left_ends m.limits m.part (held_score m) m.body xs

-- ---- the same of events

last_event : (l : BorrowedSyllable) (outputs later : List ScoreOutput) (before rest : List ScoreEvent) (e : ScoreEvent) → Ends (outputs ++ later) → events_borrowed l outputs ≡ before ++ e ∷ rest → is_last_event e ≡ true
    → (rest ≡ []) × (later ≡ [])
last_event l [] later [] rest e h k t = absurd (cc)
last_event l [] later (p ∷ before) rest e h k t = absurd (cc)
last_event l (Found f ∷ outputs) later [] rest e h k t = absurd (cc)
last_event l (Syllable s ∷ outputs) later [] rest e h k t = absurd (cc)
last_event l (Syllable s ∷ outputs) later (p ∷ before) rest e h k t = let r : events_borrowed Second outputs ≡ before ++ e ∷ rest = cc in last_event Second outputs later before rest e h.1 r t
last_event l (_ ∷ outputs) later [] rest e h k t =
    let n = both_empty outputs later (h.0 refl) in let r : events_borrowed l outputs ≡ rest = cc in (sym r ∙ ap (events_borrowed l) n.0, n.1)
last_event l (_ ∷ outputs) later (p ∷ before) rest e h k t = let r : events_borrowed l outputs ≡ before ++ e ∷ rest = cc in last_event l outputs later before rest e h.1 r t

-- no outputs are no events
pub no_events : (lists : List (List ScoreOutput)) → concat_of lists ≡ [] → concat_of (map (λ outputs. events_of outputs) lists) ≡ []
no_events [] e = refl
no_events (outputs ∷ lists) e = let n = both_empty outputs (concat_of lists) e in ap (λ os. events_of os ++ concat_of (map (λ outputs. events_of outputs) lists)) n.0 ∙ no_events lists n.1

added : (old new : BoundedList ScoreEvent) (xs ys : List ScoreEvent) → new ≡ extended_by old xs → new ≡ extended_by old ys → xs ≡ ys
added old new xs ys e h = append_cancel_left old.items xs ys (ap (λ (r : BoundedList ScoreEvent). r.items) (sym e ∙ h))

pub stops : (m : ScoreMachine) (x : HeadEvent) (outputs : List ScoreOutput) (after : List HeadEvent → List (List ScoreOutput)) (old new : BoundedList ScoreEvent)
    → ((xs : List HeadEvent) → left_of (shown m) (x ∷ xs) ≡ outputs ∷ after xs) → new ≡ extended_by old (events_of outputs)
    → StopsAtEnd is_last_event (λ (xs : List HeadEvent). map (λ outputs. events_of outputs) (after xs)) old new
stops m x outputs after old new law e before rest o h t =
    let events = added old new (events_of outputs) (before ++ o ∷ rest) e h in
    let each : (xs : List HeadEvent) → (rest ≡ []) × (concat_of (after xs) ≡ []) = λ xs. last_event First outputs (concat_of (after xs)) before rest o (subst (λ lists. Ends (concat_of lists)) (law xs) (machine_ends m (x ∷ xs))) events t in
    ((each []).0, λ xs. no_events (after xs) (each xs).1)

pub stops_last : (m : ScoreMachine) (outputs : List ScoreOutput) (after : List HeadEvent → List (List ScoreEvent)) (old new : BoundedList ScoreEvent)
    → left_of (shown m) [] ≡ outputs ∷ [] → new ≡ extended_by old (events_of outputs) → EmitsNothing after → StopsAtEnd is_last_event after old new
stops_last m outputs after old new law e none before rest o h t =
    let events = added old new (events_of outputs) (before ++ o ∷ rest) e h in
    ((last_event First outputs [] before rest o (subst (λ lists. Ends (concat_of lists)) law (machine_ends m [])) events t).0, none)

-- after its last event a machine gives nothing
pub over_is_silent : (m : ScoreMachine) → m.part ≡ score_part.Over → EmitsNothing (λ (xs : List HeadEvent). map (λ outputs. events_of outputs) (left_of (shown m) xs))
over_is_silent m e xs = no_events (left_of (shown m) xs) (ap (λ part. concat_of (outputs_left m.limits part (shown m).held m.body xs)) e ∙ joined_silence xs)
