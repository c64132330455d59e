use Rattle.gabc_headers.proofs.groups.GroupsTellParts.{groups_tell}
use Rattle.gabc_headers.proofs.laws.groups_give_parts.Goals as goal

pub returns : goal.returns
returns c = λ ls gs k n h. groups_tell gs k n ls h
