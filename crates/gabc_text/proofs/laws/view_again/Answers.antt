use Rattle.std.proofs.Common.{arith}
use Rattle.gabc_text.proofs.printing.ViewForwardIsViewBackward.{facts_again}
use Rattle.gabc_text.proofs.printing.PrintedTextHasNoErrors.{no_errors}
use Rattle.gabc_text.proofs.printing.PrintedTextIsKept.{printed_kept}
use Rattle.gabc_text.proofs.printing.PrintedTextEndsBeforeNotes.{printed_ends}
use Rattle.gabc_text.proofs.printing.PrintedViewIsReadAgain.{printed_is, printed_again}
use Rattle.gabc_text.proofs.laws.view_again.Goals as goal

pub returns : goal.returns
returns c = grind (arith, printed_is, facts_again, no_errors, printed_ends, printed_kept, printed_again)
