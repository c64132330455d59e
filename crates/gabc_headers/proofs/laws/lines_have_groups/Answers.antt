use Rattle.gabc_headers.proofs.groups.GroupsAreUnique.{some_groups}
use Rattle.gabc_headers.proofs.laws.lines_have_groups.Goals as goal

pub returns : goal.returns
returns c = some_groups
