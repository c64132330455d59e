use Rattle.gabc_score.proofs.score_events.HeadersMayCome.{headers_come}
use Rattle.gabc_score.proofs.stage_laws.headers_may_come.Goals as goal

pub returns : goal.returns
returns c limits t x next =
    let numbers = c.the_numbers_of_headers_are_in_range.ensures in
    headers_come limits next c.canonical_lines_are_within_the_limits.ensures numbers.lines numbers.macros numbers.mark t x
