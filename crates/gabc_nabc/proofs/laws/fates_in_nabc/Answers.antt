use Rattle.gabc_nabc.proofs.by_kept.NabcFates.{ends_with_it, opens_with_it, kept_at_no_end}
use Rattle.gabc_nabc.proofs.laws.fates_in_nabc.Goals as goal

pub returns : goal.returns
returns c = record { ends = ends_with_it; opens = opens_with_it; kept = kept_at_no_end }
