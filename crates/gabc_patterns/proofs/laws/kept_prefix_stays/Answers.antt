use Rattle.gabc_patterns.proofs.FunctionsMeetRelations.{keep_prefix}
use Rattle.gabc_patterns.proofs.laws.kept_prefix_stays.Goals as goal

pub returns : goal.returns
returns g c = λ rows. keep_prefix rows
