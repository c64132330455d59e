use Rattle.std.proofs.Common.{arith}
use Rattle.gabc_text.proofs.printing.TagsOfStyleSets.{none_listed}
use Rattle.gabc_text.proofs.printing.RunsOfKeptBytes.{first_after}
use Rattle.gabc_text.proofs.printing.TextIsOneSpan.{one_span}
use Rattle.gabc_text.proofs.canonical.text_span.Goals as goal

pub returns-then-whole-pieces-clause-text : goal.returns-then-whole-pieces-clause-text
returns-then-whole-pieces-clause-text c = grind (arith, first_after, none_listed, one_span)
