use Rattle.gregorio.proofs.pieces.StatesAreRead.{score_is_read}
use Rattle.gregorio.proofs.pieces.StatesAreWhole.{score_in_body}
use Rattle.gregorio.proofs.engine_laws.texts_of_a_score_are_read.Goals as goal

pub what_is_held_may_be_held_by_its_text-requires : goal.what_is_held_may_be_held_by_its_text-requires
what_is_held_may_be_held_by_its_text-requires c = record { runs = score_in_body c.args.score.now c.requires.body }

pub returns : goal.returns
returns c force =
    let s = c.args.score.now in
    score_is_read force s c.requires.body (c.what_is_read_can_be_read_again.ensures (score_in_body s c.requires.body)) c.a_comment_in_front_can_be_read_in_a_text.ensures
    c.what_is_reported_is_kept_again.ensures.again c.what_is_reported_is_kept_again.ensures.short c.what_is_held_may_be_held_by_its_text.ensures c.requires.texts.0 c.requires.texts.1
