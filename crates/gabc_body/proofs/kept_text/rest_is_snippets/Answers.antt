use Rattle.std.proofs.Common.{arith}
use Rattle.gabc_body.proofs.SnippetsAsKept.{next_as_kept}
use Rattle.gabc_body.proofs.kept_text.rest_is_snippets.Goals as goal

pub loop-snippet-preserved : goal.loop-snippet-preserved
loop-snippet-preserved c rest = grind (arith, next_as_kept)
