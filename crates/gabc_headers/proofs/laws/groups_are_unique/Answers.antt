use Rattle.gabc_headers.proofs.groups.GroupsAreUnique.{one_cutting}
use Rattle.gabc_headers.proofs.laws.groups_are_unique.Goals as goal

pub returns : goal.returns
returns c = one_cutting
