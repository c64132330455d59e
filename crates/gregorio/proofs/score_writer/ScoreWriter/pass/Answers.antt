use Rattle.std.proofs.Common.{ap, sym, subst, arith}
use Rattle.gabc_places.specs.BoundedList.{BoundedList}
use Rattle.gabc_score.specs.declared.score_event.ScoreEvent.{ScoreEvent}
use Rattle.gregorio.specs.machine.ScoreWriter.{ScoreWriterState}
use Rattle.gregorio.proofs.AnEventIsWritten.{event_is_taken, event_keeps_room, room_for_event, silent_after}
use Rattle.gregorio.proofs.pieces.ClefsOfSounds.{clef_past}
use Rattle.gregorio.specs.machine.InStep.{PassesOn}
use Rattle.gregorio.proofs.score_writer.ScoreWriter.pass.Goals as goal

pub write_events-requires : goal.write_events-requires
write_events-requires c =
    let i = c.self.inside in
    room_for_event i.score c.push.new.self i.writer c.args.self.now c.self.view_is c.args.event i.events c.clear.new.self c.push.new.out c.clear.ensures c.slice.result.now c.slice.ensures c.push.ensures.step c.push.ensures.end
    c.requires

pub returns-clause-takes : goal.returns-clause-takes
returns-clause-takes c =
    let i = c.self.inside in
    event_is_taken i.score c.push.new.self i.writer c.args.self.now c.self.view_is c.args.event i.events c.clear.new.self c.push.new.out c.clear.ensures c.slice.result.now c.slice.ensures c.push.ensures.step c.push.ensures.end
    c.write_events.new.writer c.write_events.ensures.writes

pub returns-clause-room : goal.returns-clause-room
returns-clause-room c =
    let i = c.self.inside in
    event_keeps_room i.score c.push.new.self i.writer c.args.self.now c.self.view_is c.args.event i.events c.clear.new.self c.push.new.out c.clear.ensures c.slice.result.now c.slice.ensures c.push.ensures.step c.push.ensures.end
    c.write_events.new.writer c.write_events.ensures.writes c.write_events.ensures.room

pub invariant_of-self : goal.invariant_of-self
invariant_of-self c =
    let i = c.self.inside in
    let given = ap (λ (r : BoundedList ScoreEvent). r.limit) c.push.ensures.step.emitted.events in
    let cleared = ap (λ (r : BoundedList ScoreEvent). r.limit) c.clear.ensures in
    record {
      room = omega (arith, c.self.invariant.room, given, cleared);
      silent = silent_after i.score c.push.new.self i.writer c.args.self.now c.self.view_is c.args.event i.events c.clear.new.self c.push.new.out c.clear.ensures c.slice.result.now c.slice.ensures c.push.ensures.step c.push.ensures.end
          c.write_events.new.writer c.write_events.ensures.writes c.self.invariant.silent;
      clef = clef_past c.where_nothing_sounds_the_clef_stays.ensures i.score i.writer.written c.args.event (record { score = c.push.new.self; writer = c.write_events.new.writer })
          (subst (λ (s : ScoreWriterState). PassesOn s.score s.writer.written c.args.event (record { score = c.push.new.self; writer = c.write_events.new.writer })) (sym c.self.view_is)
          (event_is_taken i.score c.push.new.self i.writer c.args.self.now c.self.view_is c.args.event i.events c.clear.new.self c.push.new.out c.clear.ensures c.slice.result.now c.slice.ensures c.push.ensures.step c.push.ensures.end
          c.write_events.new.writer c.write_events.ensures.writes).passes)
          c.self.invariant.clef;
    }
