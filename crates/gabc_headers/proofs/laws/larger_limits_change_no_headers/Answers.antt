use Rattle.gabc_headers.proofs.stops.LargerLimits.{same_heads, long_inside}
use Rattle.gabc_headers.proofs.laws.larger_limits_change_no_headers.Goals as goal

pub returns-clause-same : goal.returns-clause-same
returns-clause-same c limits larger t no_less input other = same_heads limits larger t no_less input other

pub returns-clause-inside : goal.returns-clause-inside
returns-clause-inside c limits t stop e long = long_inside limits t stop e long
