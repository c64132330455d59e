use Rattle.std.proofs.Common.{◌∷◌, List, ap, sym, ◌∙◌, drop, length}
use Rattle.gabc_text.specs.Events.{codes_of}
use Rattle.gabc_text.specs.declared.text_event.TextEvent.{TextEvent}
use Rattle.gabc_text.specs.witness.EventsLeft.{events_left}
use Rattle.gabc_text.specs.machine.TextStage.{events_of_push}
use Rattle.gabc_text.proofs.resuming.StagesKeep.{push_keeps}
use Rattle.gabc_text.proofs.PiecesFollowCharacters.{in_room, push_is_paid}
use Rattle.gabc_text.proofs.machine.EventsLeftAreThoseAhead.{push_emits}
use Rattle.gabc_text.proofs.EndedStages.{push_ended, push_ends, push_next, push_stays}
use Rattle.gabc_text.proofs.NothingAfterTheEnd.{push_stops}
use Rattle.gabc_text.proofs.stage.TextStageStage.push.Goals as goal

pub returns : goal.returns
returns c = record {
  events = push_emits c.args.self.now c.take.new.self c.args.input c.args.out.now c.take.new.out c.take.ensures.stage c.take.ensures.out c.take.ensures.few;
  end = push_stops c.args.self.now c.args.input.c c.take.new.self c.args.out.now c.take.new.out c.take.ensures.stage c.take.ensures.out;
  pieces = push_is_paid c.args.self.now c.args.input.c c.take.new.self c.args.out.now c.take.new.out c.take.ensures.stage c.take.ensures.out;
  steps =
      let st = c.args.self.now in
      let next = c.take.new.self in
      let x = c.args.input.c in
      let out = c.args.out.now in
      let is = c.take.ensures.stage in
      let pushed = push_emits st next c.args.input out c.take.new.out is c.take.ensures.out c.take.ensures.few in
      let mine = in_room out c.take.new.out (events_of_push st x) c.take.ensures.out in record {
        emits = λ xs.
            pushed.law xs
            ∙ ap (λ (events : List TextEvent). events ∷ events_left next (codes_of xs)) (sym (in_room out c.take.new.out pushed.events pushed.out));
        keeps = push_keeps st next x (drop (length out.items) c.take.new.out.items) is mine;
      };
  stays = push_stays c.args.self.now c.take.new.self c.args.input.c c.take.ensures.stage;
  ended = push_ended c.args.self.now c.take.new.self c.args.input.c c.take.ensures.stage;
  ends =
      push_ends c.args.self.now c.take.new.self c.args.input.c (drop (length c.args.out.now.items) c.take.new.out.items) c.take.ensures.stage
      (in_room c.args.out.now c.take.new.out (events_of_push c.args.self.now c.args.input.c) c.take.ensures.out);
  next = push_next c.args.self.now c.take.new.self c.args.input.c c.take.ensures.stage;
}
