use Rattle.gabc_patterns.specs.LongestItems.{IsItem}
use Rattle.gabc_patterns.proofs.LongestPrefixIsOne.{one_longest}
use Rattle.gabc_patterns.proofs.laws.longest_is_one.Goals as goal

pub returns : goal.returns
returns g c = λ rows a b x y e l k. one_longest (IsItem rows) a b x y e l k
