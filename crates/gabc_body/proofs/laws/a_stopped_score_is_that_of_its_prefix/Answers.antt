use Rattle.std.proofs.Common.{sym, ◌∙◌}
use Rattle.gabc_body.specs.SyllablesOfUnits.{whole_prefix}
use Rattle.gabc_body.specs.declared.ending.InputEnding.TheVariants.{Whole}
use Rattle.gabc_body.proofs.score_events.PlainScores.{alike}
use Rattle.gabc_body.proofs.stopped_scores.ScoreOfThePrefix.{prefix_again}
use Rattle.gabc_body.proofs.laws.a_stopped_score_is_that_of_its_prefix.Goals as goal

pub returns : goal.returns
returns c limits ending t book cut n short b h stands some =
    let a = alike limits ending t in
    let o = alike limits Whole (whole_prefix t cut n) in
    let p = prefix_again c.a_text_ends_once.ensures c.events_build_the_text.ensures.events c.spans_stand_for_the_view.ensures.view c.events_by_point_are_the_events.ensures.joined
    c.a_fresh_stage_emits_the_events_by_point.ensures.events c.events_need_nothing_after.ensures.prefix c.what_follows_emits_nothing.ensures.prefix c.what_follows_emits_nothing-2.ensures.prefix
    c.the_body_follows_the_mark.ensures c.the_headers_end_at_their_mark.ensures.length c.the_headers_end_at_their_mark.ensures.book
    limits ending t cut n short book (sym a.book ∙ b) h stands (λ w. some (w.0, a.fault ∙ w.1)) in
    (o.book ∙ p.0 ∙ sym a.book, (o.syllables ∙ p.1.0 ∙ sym a.syllables, o.fault ∙ p.1.1))
