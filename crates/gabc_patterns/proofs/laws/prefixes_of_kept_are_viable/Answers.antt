use Rattle.std.proofs.Common.{[], subst}
use Rattle.gabc_patterns.specs.LongestItems.{IsViable}
use Rattle.gabc_patterns.proofs.KeptTextIsKeptAgain.{viable_prefix, keeps_viable, nothing_viable}
use Rattle.gabc_patterns.proofs.laws.prefixes_of_kept_are_viable.Goals as goal

pub returns : goal.returns
returns g c = λ rows t all prefix rest h e. viable_prefix rows prefix rest (subst (IsViable rows) e (keeps_viable rows [] t all (nothing_viable rows) h))
