use Rattle.gabc_score.proofs.regular_syllables.RegularSyllablePasses.{made_of, through, alone}
use Rattle.gabc_body.proofs.syllables_of_units.OpenSpans.{opened, leaves_open}
use Rattle.gabc_score.proofs.regular_laws.a_regular_syllable_goes_through.Goals as goal

pub returns : goal.returns
returns c lines macros at r spans h fits small =
    let s = c.a_regular_syllable_makes_its_spelling.ensures lines macros at r (opened spans) h small (leaves_open spans).nothing in
    let text = c.a_regular_text_is_printed_as_it_stands.ensures.kept in
    let with_gap = c.blanks_before_a_regular_text_begin_a_word.ensures.kept in
    let stage = λ (xs : _). c.a_stage_reads_a_regular_syllable_as_it_stands.ensures lines macros at r xs h fits in (
      s.one.made,
      record {
        made = made_of lines macros at r h fits spans s text with_gap c.a_regular_text_is_printed_as_it_stands.ensures.says c.blanks_before_a_regular_text_begin_a_word.ensures.says;
        through = λ limits held between sounded are room. through lines macros at r h fits spans s text with_gap stage limits held between sounded are room;
        alone = λ limits held between sounded none are room. alone lines macros at r h fits spans s text with_gap stage limits held between sounded are room none;
      },
    )
