use Rattle.std.proofs.Common.{ap, ◌∙◌}
use Rattle.gabc_text.specs.declared.stage.TextStage.{TextStage}
use Rattle.gabc_text.proofs.EndedStages.{finish_ended, finish_stays}
use Rattle.gabc_text.proofs.PiecesFollowCharacters.{finish_is_paid}
use Rattle.gabc_text.proofs.machine.EventsLeftAreThoseAhead.{finish_ends}
use Rattle.gabc_text.proofs.NothingAfterTheEnd.{is_done, finish_stops, finish_is_over}
use Rattle.gabc_text.proofs.stage.TextStageStage.finish.Goals as goal

pub returns : goal.returns
returns c = record {
  ends = finish_ends c.args.self.now c.args.out.now c.stop.new.out c.stop.ensures.out c.stop.ensures.few;
  end = finish_stops c.args.self.now c.stop.new.self c.args.out.now c.stop.new.out c.stop.ensures.stage c.stop.ensures.out;
  over = finish_is_over c.args.self.now c.stop.new.self c.stop.ensures.stage;
  pieces = finish_is_paid c.args.self.now c.args.out.now c.stop.new.out c.stop.ensures.out;
  done = ap (λ (x : TextStage). x.ended) c.stop.ensures.stage ∙ is_done c.args.self.now;
  stays = finish_stays c.args.self.now c.stop.new.self c.stop.ensures.stage;
  ended = finish_ended c.args.self.now c.stop.new.self c.stop.ensures.stage;
}
