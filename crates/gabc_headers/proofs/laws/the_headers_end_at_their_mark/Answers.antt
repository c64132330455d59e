use Rattle.gabc_headers.proofs.PrefixHasTheSameHeaders.{len_again, heads_again}
use Rattle.gabc_headers.proofs.laws.the_headers_end_at_their_mark.Goals as goal

pub returns-clause-length : goal.returns-clause-length
returns-clause-length c = len_again

pub returns-clause-book : goal.returns-clause-book
returns-clause-book c = heads_again
