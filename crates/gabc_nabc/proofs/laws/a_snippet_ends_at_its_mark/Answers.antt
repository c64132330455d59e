use Rattle.gabc_nabc.proofs.order.FindingsLieWithin.{ends_at_mark, cut_at_most}
use Rattle.gabc_nabc.proofs.laws.a_snippet_ends_at_its_mark.Goals as goal

pub returns : goal.returns
returns c = record { mark = ends_at_mark; last = cut_at_most }
