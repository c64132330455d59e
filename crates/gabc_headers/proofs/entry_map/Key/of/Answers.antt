use Rattle.std.proofs.Common.{refl, sym, ◌∙◌}
use Rattle.gabc_headers.proofs.entries.TextsAsBytes.{annotation-chars}
use Rattle.gabc_headers.proofs.entry_map.Key.of.Goals as goal

pub returns-then-eq : goal.returns-then-eq
returns-then-eq c = (refl, annotation-chars c.args.name.now c.utf8.name ∙ sym c.if-eq.ensures)

pub returns : goal.returns
returns c = (c.in-Ok.ensures.ok, annotation-chars c.args.name.now c.utf8.name ∙ sym c.if-eq.ensures)
