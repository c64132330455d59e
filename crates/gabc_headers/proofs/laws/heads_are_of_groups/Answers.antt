use Rattle.gabc_headers.proofs.groups.HeadsAreOfGroups.{heads_are, one_reading}
use Rattle.gabc_headers.proofs.laws.heads_are_of_groups.Goals as goal

pub returns-clause-are : goal.returns-clause-are
returns-clause-are c = heads_are

pub returns-clause-one : goal.returns-clause-one
returns-clause-one c = one_reading
