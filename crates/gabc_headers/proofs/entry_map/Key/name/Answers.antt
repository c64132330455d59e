use Rattle.std.proofs.Common.{ap, sym, ◌∙◌}
use Rattle.gabc_headers.specs.declared.entry_map.Key.{Key}
use Rattle.gabc_headers.specs.Entries.{key_name}
use Rattle.gabc_headers.proofs.entries.TextsAsBytes.{chars-annotation}
use Rattle.gabc_headers.proofs.entry_map.Key.name.Goals as goal

pub returns-in-Annotation : goal.returns-in-Annotation
returns-in-Annotation c = chars-annotation ∙ sym (ap (λ (k : Key). key_name k) c.in-Annotation.is)
