-- After a stop a stage of scores gives nothing.
use Rattle.std.proofs.Common.{◌≡◌, List, [], ◌∷◌, arith}
use Rattle.gabc_places.specs.StageLaw.{concat_of}
use Rattle.gabc_places.specs.declared.code.Fault.{Fault}
use Rattle.gabc_places.specs.declared.limits.Limits.{Limits}
use Rattle.gabc_places.proofs.PushesAreOne.{joined_silence}
use Rattle.gabc_headers.specs.declared.head_event.HeadEvent.{HeadEvent}
use Rattle.gabc_headers.specs.declared.head_event.HeadEvent.TheVariants as head_event
use Rattle.gabc_score.specs.witness.BodyStage.{BodyStageState}
use Rattle.gabc_score.specs.declared.score_machine.ScorePart.{ScorePart}
use Rattle.gabc_score.specs.witness.ScoreStage.{ScoreStageState, left_of}
use Rattle.gabc_score.specs.machine.ScoreStage.{HeldScore, outputs_left}

by_part : (limits : Limits) (part : ScorePart) (s : HeldScore) (body : BodyStageState) (fault : Fault) (later : List HeadEvent)
    → concat_of (outputs_left limits part s body (head_event.Stop fault ∷ later)) ≡ concat_of (outputs_left limits part s body (head_event.Stop fault ∷ []))
by_part limits part s body fault later = grind (arith, joined_silence)

pub nothing_after : (s : ScoreStageState) (fault : Fault) (later : List HeadEvent) → concat_of (left_of s (head_event.Stop fault ∷ later)) ≡ concat_of (left_of s (head_event.Stop fault ∷ []))
nothing_after s fault later = by_part s.limits s.part s.held s.body fault later
