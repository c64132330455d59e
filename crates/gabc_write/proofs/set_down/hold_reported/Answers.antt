use Rattle.std.proofs.Common.{◌≡◌, ◌==◌}
use Rattle.gabc_body.specs.SpansPast.{FollowsSpans}
use Rattle.gabc_body.specs.Syllable.{UnplacedSyllable, unplaced_of}
use Rattle.gabc_score.specs.ReportedWithin.{IsHeldWithin, written_after}
use Rattle.gabc_body.specs.UnitRead.{HoldsSomeUnit}
use Rattle.gabc_write.specs.SetDown.{MayBeHeldByItsText}
use Rattle.gabc_write.specs.SyllableRead.{IsReadWhereItStands}
use Rattle.gabc_write.proofs.reading_again.StageHoldsAgain.{begins_with_one, is_held, some_held, told_before}
use Rattle.gabc_write.proofs.set_down.hold_reported.Goals as goal

pub returns-clause-holds : goal.returns-clause-holds
returns-clause-holds c =
    let told = c.args.told.now in
    let m : UnplacedSyllable = unplaced_of c.in-Some.field-0.now in
    let is = c.in-Some.ensures in
    is_held told c.args.stage.now c.requires.text.runs c.requires.stands m is
    (some_held (IsHeldWithin told.limits told.before) _ m is c.requires.text.within.held) c.args.held.now
    (some_held (λ (n : UnplacedSyllable). c.args.held.now ≡ written_after told.before n) _ m is c.requires.text.is) c.utf8.held
    (some_held (MayBeHeldByItsText told.limits (told_before told)) _ m is c.what_is_held_may_be_held_by_its_text.ensures) c.hold_again.result c.hold_again.ensures.refused

pub returns-clause-begins : goal.returns-clause-begins
returns-clause-begins c =
    let told = c.args.told.now in
    let m : UnplacedSyllable = unplaced_of c.in-Some.field-0.now in
    let is = c.in-Some.ensures in
    begins_with_one told c.args.stage.now c.requires.text.runs c.requires.stands m is
    (some_held (IsHeldWithin told.limits told.before) _ m is c.requires.text.within.held) c.args.held.now
    (some_held (λ (n : UnplacedSyllable). c.args.held.now ≡ written_after told.before n) _ m is c.requires.text.is) c.utf8.held
    (some_held (IsReadWhereItStands told.body.nabc_lines told.body.macros) _ m is (c.what_is_held_is_read_from_its_own_text.ensures told c.a_stage_is_reachable.ensures) (told.before.syllables == 0))
    c.a_syllable_is_read_by_kept.ensures c.snippets_of_a_unit_stand_between_characters.ensures c.hold_again.new.self
    (some_held (FollowsSpans told.before.spans) _ m is (c.spans_of_what_is_held_follow.ensures told c.a_stage_is_reachable.ensures))
    (some_held (HoldsSomeUnit told.body.nabc_lines) _ m is (c.what_is_held_holds_a_unit.ensures told c.a_stage_is_reachable.ensures)) (c.hold_again.ensures.held (returns-clause-holds c))
