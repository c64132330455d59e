-- In the headers a score passes on what is found and what stops them.
use Rattle.std.proofs.Common.{◌≡◌, List, [], ◌∷◌, arith}
use Rattle.gabc_headers.specs.declared.head_event.HeadEvent.{HeadEvent}
use Rattle.gabc_score.specs.declared.score_machine.ScorePart.TheVariants as score_part
use Rattle.gabc_body.specs.ScoreEvents.{ScoreOutput}
use Rattle.gabc_score.specs.witness.ScoreStage.{ScoreStageState, left_of}
use Rattle.gregorio.specs.machine.InStep.{given_in_heads}

pub passed_in_heads : (s : ScoreStageState) (x : HeadEvent) (outputs : List ScoreOutput) (later : List (List ScoreOutput)) → s.part ≡ score_part.Heads → left_of s (x ∷ []) ≡ outputs ∷ later → outputs ≡ given_in_heads x
passed_in_heads s x outputs later heads law = grind arith
