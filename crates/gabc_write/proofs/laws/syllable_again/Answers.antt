use Rattle.std.proofs.Common.{arith}
use Rattle.gabc_write.proofs.reading_again.PrintedSyllableIsOneUnit.{is_one_unit}
use Rattle.gabc_write.proofs.reading_again.CanonicalTextIsPrintedSyllable.{is_printed}
use Rattle.gabc_write.proofs.laws.syllable_again.Goals as goal

pub returns-clause-read : goal.returns-clause-read
returns-clause-read c lines macros at t snippets rest h = grind (arith, is_one_unit)

pub returns-clause-printed : goal.returns-clause-printed
returns-clause-printed c lines u m h single =
    is_printed c.view_again.ensures.printed c.spans_stand_for_the_view.ensures.bytes c.a_syllable_holds_its_parts.ensures.bytes lines u m h single
