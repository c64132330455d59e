use Rattle.gabc_write.proofs.reading_again.PrintedBodyIsItsUnits.{body_is_units}
use Rattle.gabc_write.proofs.reading_again.CanonicalTextsArePrinted.{first_text_begins, are_printed}
use Rattle.gabc_write.proofs.laws.body_again.Goals as goal

pub returns : goal.returns
returns c = record {
  first = first_text_begins c.a_kept_text_is_read_again.ensures.begins;
  printed = λ lines units syllables h first single. are_printed lines (λ u m k few. c.syllable_again.ensures.printed lines u m k few) units syllables h first single;
  read = λ lines macros at facts h first. body_is_units c.a_text_ends_once.ensures lines macros (λ p t snippets rest k. c.syllable_again.ensures.read lines macros p t snippets rest k) at facts h first;
}
