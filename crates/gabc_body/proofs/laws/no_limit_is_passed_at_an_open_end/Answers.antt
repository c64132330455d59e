use Rattle.gabc_body.proofs.stopped_scores.NothingIsKeptAtTheEnd.{none_at_end}
use Rattle.gabc_body.proofs.laws.no_limit_is_passed_at_an_open_end.Goals as goal

pub returns : goal.returns
returns c limits head lines macros = none_at_end c.a_text_ends_once.ensures lines macros limits head
