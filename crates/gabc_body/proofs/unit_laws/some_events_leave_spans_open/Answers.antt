use Rattle.gabc_body.proofs.syllables_of_units.OpenSpans.{opened, leaves_open}
use Rattle.gabc_body.proofs.unit_laws.some_events_leave_spans_open.Goals as goal

pub returns : goal.returns
returns c spans = record { before = opened spans; leaves = leaves_open spans }
