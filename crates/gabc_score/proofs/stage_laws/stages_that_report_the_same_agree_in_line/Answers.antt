use Rattle.gabc_score.proofs.resuming.StatesAgree.{states_agree_in_line}
use Rattle.gabc_score.proofs.stage_laws.stages_that_report_the_same_agree_in_line.Goals as goal

pub returns : goal.returns
returns c =
    let comment = c.a_comment_before_a_text_counts_for_nothing.ensures in
    states_agree_in_line c.laws_of_stages.ensures.again
    (record { stays = comment.stays; goes_on = c.what_is_open_stays_open_elsewhere.ensures.comment; on = comment.on; begins = comment.text; ends = comment.end })
    c.stages_that_report_the_same_agree.ensures (λ s stands runs front. (c.in_front_nothing_is_read.ensures s stands runs front).none_held)
