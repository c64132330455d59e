use Rattle.gabc_nabc.proofs.by_kept.NabcFates.{all_events_are}
use Rattle.gabc_nabc.proofs.laws.nabc_events_are_by_kept.Goals as goal

pub returns : goal.returns
returns c = all_events_are
