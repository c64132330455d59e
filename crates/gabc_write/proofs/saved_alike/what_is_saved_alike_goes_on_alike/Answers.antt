use Rattle.gabc_score.specs.witness.IsReachable.{IsReachable}
use Rattle.gabc_score.specs.witness.ScoreStage.{ScoreStageState}
use Rattle.gabc_write.proofs.reading_again.SyllablesOfOneTextAreEquivalent.{IsKnown, goes_on_in_line, hold_alike}
use Rattle.gabc_write.proofs.saved_alike.what_is_saved_alike_goes_on_alike.Goals as goal

pub returns : goal.returns
returns c = λ one other stands too saved.
    let known : (s : ScoreStageState) → IsReachable s → IsKnown s = λ s h. record {
      own = c.what_is_held_is_read_from_its_own_text.ensures s h;
      spans = c.spans_of_what_is_held_follow.ensures s h;
      holds = c.what_is_held_holds_a_unit.ensures s h;
    } in
    let held = hold_alike c.a_syllable_is_read_by_kept.ensures c.some_events_leave_spans_open.ensures c.snippets_of_a_unit_stand_between_characters.ensures one other saved.runs saved.before (known one stands) (known other too)
    (c.what_is_reported_is_within_the_limits.ensures one stands saved.runs).held (c.what_is_held_is_a_text.ensures one stands saved.told) saved.text in
    goes_on_in_line one other saved held.0 held.1 (c.stages_that_report_the_same_agree_in_line.ensures one other stands too)
