use Rattle.std.proofs.Common.{rules}
use Rattle.std.proofs.lemmas.Grind.{common_steps}
use Rattle.std.proofs.lemmas.Str.{encodes-chars}
use Rattle.gabc_write.proofs.dump.put_header.Goals as goal

pub returns : goal.returns
returns g c = rw (encodes-chars c.args.name.now c.utf8.name, encodes-chars c.args.value.now c.utf8.value) (search (rules, common_steps))
