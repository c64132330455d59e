use Rattle.std.proofs.Common.{◌≡◌, ◌≤◌, [], false, length}
use denote.Text.{Utf8}
use denote.Shadow.{shadow}
use Rattle.std.specs.Str.{chars}
use Rattle.gabc_places.specs.StageLaw.{concat_of}
use Rattle.gabc_text.specs.TextStage.{fresh_stage}
use Rattle.gabc_text.proofs.machine.EventsStepByStep.{stepwise, stepwise_left}
use Rattle.gabc_text.specs.machine.BuiltText.{built_text_of}
use Rattle.gabc_text.specs.BuiltText.{with_events, empty_text}
use Rattle.gabc_text.proofs.whole.text_whole.Given as goal

abbrev pub invariant-loop-c : goal.invariant-loop-c
invariant-loop-c l = record {
  utf8 : shadow (Utf8 l.rest);
  running : l.stage.ended ≡ false;
  events_same : with_events (built_text_of l.builder) (concat_of (stepwise l.stage (chars l.rest))) ≡ with_events empty_text (concat_of (stepwise (fresh_stage l.fn.at) (chars l.fn.body)));
  left : stepwise_left l.stage (chars l.rest) ≡ stepwise_left (fresh_stage l.fn.at) (chars l.fn.body);
  shorter : length l.rest ≤ length l.fn.body;
  empty : l.room ≡ record { items = []; limit = 8 };
}

abbrev pub decreases-loop-c : goal.decreases-loop-c
decreases-loop-c l = length l.rest
