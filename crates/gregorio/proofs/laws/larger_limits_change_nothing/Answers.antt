use Rattle.gregorio.proofs.LargerLimitsChangeNothing.{same_outcome}
use Rattle.gregorio.proofs.laws.larger_limits_change_nothing.Goals as goal

pub returns : goal.returns
returns c = same_outcome (record {
  scalars = c.texts_are_scalars_within_the_limit.ensures.scalars;
  short = c.texts_are_scalars_within_the_limit.ensures.short;
  emitted = c.a_score_says_what_is_kept.ensures.score;
}) c.larger_limits_change_no_score.ensures
