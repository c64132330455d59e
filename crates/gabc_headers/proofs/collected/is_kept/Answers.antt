use Rattle.std.proofs.Common.{refl, sym, ◌∙◌}
use Rattle.gabc_headers.proofs.entries.TextsAsBytes.{nabc_lines-chars}
use Rattle.gabc_headers.proofs.entries.ValuesOfNabcLines.{in_range-chars}
use Rattle.gabc_headers.proofs.collected.is_kept.Goals as goal

pub returns-then-ne : goal.returns-then-ne
returns-then-ne c = rw (nabc_lines-chars c.args.name.now c.utf8.name, ← c.ne.ensures, c.if-ne.true) refl

pub returns-else-ne : goal.returns-else-ne
returns-else-ne c = rw (nabc_lines-chars c.args.name.now c.utf8.name, ← c.ne.ensures, c.if-ne.false) (c.contains.ensures.value ∙ sym (in_range-chars c.args.value.now c.utf8.value))
