-- What stands before the pending text of a state is within its limits, and its texts are read.
use Rattle.std.proofs.Common.{◌≡◌, ◌≢◌, ◌-◌, [], length, arith}
use Rattle.gabc_places.specs.declared.limits.Limits.{Limits}
use Rattle.gabc_score.specs.ReportedWithin.{AreCountsWithin}
use Rattle.gregorio_state.specs.Conditions.{AreScoreFields}
use Rattle.gregorio_state.specs.Fields.{ScoreFields, StateFields}
use Rattle.gregorio.specs.SavedState.{IsHeldRead, IsKeptRead, IsScoreRead}

-- the counts before the held text are those of headers within the limits
pub counts_within : (s : StateFields) (f : ScoreFields) → AreScoreFields s f → (limits : Limits) → s.input_limit ≡ limits.input → AreCountsWithin limits f.nabc_lines f.macros (f.canonical - length f.held)
counts_within s f fields limits is = grind arith

-- both texts are read under one stage's limits, which are those of the state
pub score_is_read : (f : ScoreFields) (limits one two : Limits) → one ≡ limits → two ≡ one → (f.held ≢ [] → IsHeldRead one f) → IsKeptRead two f → IsScoreRead limits f
score_is_read f limits one two same kept_same held kept = grind arith
