-- If the inputs of a stage just cease, each syllable that it gives is the pending one.
use Rattle.std.proofs.Common.{◌≡◌, ◌≤◌, List, [], length, Some, arith}
use Rattle.std.proofs.lemmas.List.Elements.{All-nil}
use Rattle.std.specs.List.{All}
use Rattle.gabc_places.specs.StageLaw.{concat_of}
use Rattle.gabc_places.specs.declared.limits.Limits.{Limits}
use Rattle.gabc_score.specs.declared.score_machine.ScorePart.{ScorePart}
use Rattle.gabc_score.specs.declared.score_machine.ScorePart.TheVariants as score_part
use Rattle.gabc_body.specs.ScoreEvents.{syllables_in}
use Rattle.gabc_score.specs.ScoreReports.{held_in_body, held_of}
use Rattle.gabc_body.specs.Syllable.{UnplacedSyllable, PlacedSyllable}
use Rattle.gabc_score.specs.machine.ScoreStage.{HeldScore, outputs_left}
use Rattle.gabc_score.specs.witness.BodyStage.{BodyStageState}
use Rattle.gabc_score.specs.witness.IsReachable.{IsReachable}
use Rattle.gabc_score.specs.witness.ScoreStage.{ScoreStageState, left_of}

abbrev AreHeld : ScorePart → List UnplacedSyllable → List PlacedSyllable → Type 0
AreHeld part made syllables = All (λ (p : PlacedSyllable). held_in_body part made ≡ Some p.made) syllables

by_part : (limits : Limits) (part : ScorePart) (h : HeldScore) (body : BodyStageState) → (part ≡ score_part.Body → length h.gathered.made ≤ 1)
    → AreHeld part h.gathered.made (syllables_in (concat_of (outputs_left limits part h body [])))
by_part limits part h body few = grind (arith, All-nil)

pub given_is_held : (s : ScoreStageState) → IsReachable s → All (λ (p : PlacedSyllable). held_of s ≡ Some p.made) (syllables_in (concat_of (left_of s [])))
given_is_held s may = grind (arith, by_part)
