use Rattle.gregorio.proofs.StoppedRunMatchesItsPrefix.{has_front}
use Rattle.gregorio.proofs.laws.a_stopped_run_writes_what_its_prefix_writes.Goals as goal

pub returns-clause-prefix : goal.returns-clause-prefix
returns-clause-prefix c = λ limits ending bytes book stopped headed.
    has_front c.a_prefix_of_a_text_is_read_of_a_prefix_of_its_bytes.ensures c.texts_are_scalars_within_the_limit.ensures.short c.a_body_has_one_cutting.ensures.one
    c.whole_prefixes_are_first_characters.ensures c.the_syllables_are_those_of_the_units.ensures.stop c.a_stopped_score_is_that_of_its_prefix.ensures
    (record {
      scalars = c.texts_are_scalars_within_the_limit.ensures.scalars;
      short = c.texts_are_scalars_within_the_limit.ensures.short;
      emitted = c.a_score_says_what_is_kept.ensures.score;
    })
    limits ending bytes book stopped headed
