-- The memory of a machine over a score stays reserved at a character and at the end.
use Rattle.std.proofs.Common.{◌≡◌, ◌≤◌, List, refl, ap, ◌∙◌, arith}
use Rattle.gabc_places.specs.BoundedList.{BoundedList}
use Rattle.gabc_places.specs.declared.code.Finding.{Finding}
use Rattle.gabc_body.specs.Body.{has_text}
use Rattle.gabc_body.specs.declared.events.BodyEvent.{BodyEvent}
use Rattle.gabc_score.specs.declared.score_machine.ScoreMachine.{ScoreMachine}
use Rattle.gabc_score.specs.declared.score_machine.ScorePart.{ScorePart}
use Rattle.gabc_body.specs.witness.BodyBuilder.{with_all, with_found}
use Rattle.gabc_body.specs.witness.Gatherer.{Gathered, with_last, with_no_notes, with_syllable}
use Rattle.gabc_score.specs.machine.ScoreMachine.{IsScoreAt, KeepsMemory}
use Rattle.gabc_score.proofs.score_events.EventsStayWithinBounds.{limit_stays}
use Rattle.std.proofs.lemmas.Bool.{cond_both}

-- wherever a machine stands, it keeps its memory
pub keeps : (m : ScoreMachine) (p : ScorePart) → IsScoreAt p m → KeepsMemory m
keeps m p h = grind arith

-- the events of a point leave the limit of the slots as it was
pub limit_past : (g freed new : Gathered) (now : List BodyEvent) → freed ≡ g → new ≡ with_all freed now → new.limit ≡ g.limit
limit_past g freed new now e f = ap (λ (k : Gathered). k.limit) f ∙ (limit_stays freed now ∙ ap (λ (k : Gathered). k.limit) e)

-- and so does a last text
pub limit_last : (g : Gathered) → (with_last g).limit ≡ g.limit
limit_last g = cond_both (has_text g.builder.view) (with_syllable (with_no_notes g)) g (λ (k : Gathered). k.limit ≡ g.limit) (λ e. refl) (λ e. refl)

-- the room for what is found stays as it was
pub room_past : (old new : BoundedList Finding) (now : List BodyEvent) → new ≡ with_found old now → 9 ≤ old.limit → 9 ≤ new.limit
room_past old new now e l = let same : new.limit ≡ old.limit = ap (λ (r : BoundedList Finding). r.limit) e in omega arith
