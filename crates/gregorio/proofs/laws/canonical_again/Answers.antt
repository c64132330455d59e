use Rattle.std.proofs.Common.{arith}
use Rattle.gregorio.proofs.OutputIsCompiledAgain.{compiled_again, output_short}
use Rattle.gregorio.proofs.laws.canonical_again.Goals as goal

pub returns-clause-again : goal.returns-clause-again
returns-clause-again c limits larger ending bytes no_less =
    compiled_again c.texts_are_plain.ensures c.texts_are_scalars_within_the_limit.ensures.scalars c.texts_are_scalars_within_the_limit.ensures.short c.score_again.ensures
    c.snippets_stand_between_characters.ensures c.syllables_that_say_the_same_have_one_dump.ensures (record {
      scalars = c.texts_are_scalars_within_the_limit.ensures.scalars;
      short = c.texts_are_scalars_within_the_limit.ensures.short;
      emitted = c.a_score_says_what_is_kept.ensures.score;
    })
    limits larger ending bytes no_less

-- limits are no less than themselves
pub returns-clause-short : goal.returns-clause-short
returns-clause-short c limits ending bytes =
    output_short c.texts_are_plain.ensures c.texts_are_scalars_within_the_limit.ensures.scalars c.texts_are_scalars_within_the_limit.ensures.short c.score_again.ensures
    c.snippets_stand_between_characters.ensures c.syllables_that_say_the_same_have_one_dump.ensures (record {
      scalars = c.texts_are_scalars_within_the_limit.ensures.scalars;
      short = c.texts_are_scalars_within_the_limit.ensures.short;
      emitted = c.a_score_says_what_is_kept.ensures.score;
    })
    limits limits ending bytes (record { header = omega arith; syllable = omega arith; input = omega arith })
