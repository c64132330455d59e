use Rattle.gabc_write.proofs.reading_again.SyllableIsReadFromItsText.{read_from_its_text}
use Rattle.gabc_write.proofs.laws.a_syllable_is_read_from_its_own_text.Goals as goal

pub returns : goal.returns
returns c lines macros first m h short =
    read_from_its_text c.spans_stand_for_the_view.ensures.starts c.spans_stand_for_the_view.ensures.centre c.canonical_is_printed.ensures c.a_syllable_holds_its_parts.ensures.bytes c.findings_lie_within.ensures.warnings
    c.syllable_again.ensures.read c.syllable_again.ensures.printed c.a_unit_gives_one_syllable.ensures.given c.a_unit_gives_one_syllable.ensures.warns c.a_line_feed_begins_a_word.ensures lines macros first m h short
