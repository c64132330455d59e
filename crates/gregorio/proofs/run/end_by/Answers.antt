use Rattle.std.proofs.Common.{rules}
use Rattle.gregorio.proofs.run.end_by.Goals as goal

pub returns-in-Broken : goal.returns-in-Broken
returns-in-Broken c = search rules
