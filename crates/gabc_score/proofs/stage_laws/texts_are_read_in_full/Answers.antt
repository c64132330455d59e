use Rattle.gabc_score.proofs.score_events.TextsAreReadInFull.{text_below, text_alike}
use Rattle.gabc_score.proofs.stage_laws.texts_are_read_in_full.Goals as goal

pub returns-clause-counts : goal.returns-clause-counts
returns-clause-counts c limits ending t few = text_below limits ending t few c.canonical_lines_are_within_the_limits.ensures

pub returns-clause-outputs : goal.returns-clause-outputs
returns-clause-outputs c limits ending t few = text_alike limits ending t few c.a_fresh_stage_emits_the_events_by_point.ensures.events
