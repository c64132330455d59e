use Rattle.std.proofs.Common.{arith}
use Rattle.gabc_text.proofs.printing.RegularTextIsPrinted.{says_alone, nothing_found, regular_ends, regular_kept, regular_printed, regular_canonical}
use Rattle.gabc_text.proofs.laws.a_regular_text_is_printed_as_it_stands.Goals as goal

pub returns : goal.returns
returns c = grind (arith, says_alone, nothing_found, regular_ends, regular_kept, regular_printed, regular_canonical)
