use Rattle.std.proofs.Common.{◌∙◌, ap}
use Rattle.gabc_text.specs.BuiltText.{with_events, empty_text, kept_in}
use Rattle.gabc_text.proofs.events.EventsByPointAreEvents.{points_joined}
use Rattle.gabc_text.proofs.events.EventsBuildText.{events_whole, kept_whole}
use Rattle.gabc_text.proofs.laws.events_build_the_text.Goals as goal

pub returns-clause-events : goal.returns-clause-events
returns-clause-events c at t = ap (with_events empty_text) (points_joined at t) ∙ events_whole at t

pub returns-clause-kept : goal.returns-clause-kept
returns-clause-kept c at t = ap kept_in (points_joined at t) ∙ kept_whole at t
