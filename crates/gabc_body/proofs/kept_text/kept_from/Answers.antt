use Rattle.std.proofs.Common.{arith}
use Rattle.gabc_body.proofs.SnippetsAsKept.{text_as_kept}
use Rattle.gabc_body.proofs.kept_text.kept_from.Goals as goal

pub returns-then-text-notes : goal.returns-then-text-notes
returns-then-text-notes c = grind (arith, text_as_kept)
