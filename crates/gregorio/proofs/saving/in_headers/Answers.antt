use Rattle.std.proofs.Common.{ap, sym}
use Rattle.std.proofs.lemmas.Str.{encodes-chars}
use Rattle.gregorio_state.specs.Fields.{InHeaders}
use Rattle.gregorio.proofs.saving.in_headers.Goals as goal

pub returns : goal.returns
returns c = ap InHeaders (sym (encodes-chars c.args.headers.now c.utf8.headers))
