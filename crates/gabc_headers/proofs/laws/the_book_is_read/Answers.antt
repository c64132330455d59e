use Rattle.gabc_headers.proofs.prefixes.BookIsRead.{book_is_read}
use Rattle.gabc_headers.proofs.laws.the_book_is_read.Goals as goal
use Rattle.gabc_places.proofs.decoding.PlainTextsAreReadAgain.{all_scalars}

pub returns : goal.returns
returns c limits hasher t heads fault u h = book_is_read limits hasher t heads fault (all_scalars t u) h
