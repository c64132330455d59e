use Rattle.std.proofs.Common.{arith}
use Rattle.gabc_headers.proofs.canonical_form.NumbersAreInRange.{lines_in_range, macros_in_range, mark_is_counted}
use Rattle.gabc_headers.proofs.laws.the_numbers_of_headers_are_in_range.Goals as goal

pub returns : goal.returns
returns c = grind (arith, lines_in_range, macros_in_range, mark_is_counted)
