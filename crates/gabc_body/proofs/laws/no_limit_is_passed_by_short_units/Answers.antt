use Rattle.std.proofs.Common.{sym, ◌∙◌}
use Rattle.gabc_body.specs.declared.ending.InputEnding.TheVariants.{Whole}
use Rattle.gabc_body.proofs.score_events.PlainScores.{alike}
use Rattle.gabc_body.proofs.within_limits.NoLimitIsPassed.{no_limit_is_passed}
use Rattle.gabc_body.proofs.laws.no_limit_is_passed_by_short_units.Goals as goal

pub returns : goal.returns
returns c limits t book cut units last short b h is end kept within =
    let a = alike limits Whole t in
    a.fault
    ∙ no_limit_is_passed c.a_text_ends_once.ensures c.events_build_the_text.ensures.events c.spans_stand_for_the_view.ensures.view c.events_by_point_are_the_events.ensures.joined limits t book cut units last short (sym a.book ∙ b) h is end kept within
