-- A machine between two syllables stays there, however its slots are used.
use Rattle.std.proofs.Common.{◌≡◌, false, arith}
use Rattle.gabc_places.specs.declared.place.Place.{Place}
use Rattle.gabc_score.specs.declared.score_machine.ScoreMachine.{ScoreMachine}
use Rattle.gabc_score.specs.machine.Run.{IsBetweenSyllables}
use Rattle.gabc_score.specs.machine.ScoreMachine.{IsInBody}
use Rattle.gabc_score.specs.machine.SlotPair.{SlotPairState, is_made}

module _ (m : ScoreMachine) (pair : SlotPairState) (gathered : pair.gathered ≡ m.pair.gathered) (contexts : pair.contexts ≡ m.pair.contexts) (used : is_made pair.used ≡ false) where
  -- it rests
  moved_rests : IsInBody m → IsInBody (record m { pair = pair })
  moved_rests rests = grind arith

  pub moved_stands : (at : Place) → IsBetweenSyllables m at → IsBetweenSyllables (record m { pair = pair }) at
  moved_stands at stands = grind (arith, moved_rests)
