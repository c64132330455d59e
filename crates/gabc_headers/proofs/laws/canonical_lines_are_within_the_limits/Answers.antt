use Rattle.gabc_headers.proofs.printing.PrintedBookIsReadAgain.{book_is_short}
use Rattle.gabc_headers.proofs.laws.canonical_lines_are_within_the_limits.Goals as goal

pub returns : goal.returns
returns c = book_is_short
