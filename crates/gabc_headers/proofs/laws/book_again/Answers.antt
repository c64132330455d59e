use Rattle.gabc_headers.proofs.printing.PrintedBookIsReadAgain.{book_read, book_ends}
use Rattle.gabc_headers.proofs.laws.book_again.Goals as goal

pub returns-clause-read : goal.returns-clause-read
returns-clause-read c limits larger t more heads no_less ok = book_read limits larger t more heads no_less ok

pub returns-clause-ends : goal.returns-clause-ends
returns-clause-ends c limits t more heads ok = book_ends limits t more heads ok
