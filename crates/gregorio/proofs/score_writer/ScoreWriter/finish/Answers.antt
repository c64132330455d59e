use Rattle.std.proofs.Common.{ap, ◌∙◌, arith}
use Rattle.gregorio.specs.machine.RunWriter.{past_end}
use Rattle.gregorio.proofs.AnEventIsWritten.{last_is_steady, last_is_written, room_for_end, room_for_last}
use Rattle.gregorio.proofs.OutputsOfEvents.{nothing_left}
use Rattle.gregorio.proofs.pieces.WriterKeepsPaceWithScore.{force_ended}
use Rattle.gregorio.proofs.score_writer.ScoreWriter.finish.Goals as goal

pub write_events-requires : goal.write_events-requires
write_events-requires c =
    let i = c.self.inside in
    room_for_last i.score c.finish.new.self i.writer c.args.self.now c.self.view_is i.events c.clear.new.self c.finish.new.out c.clear.ensures c.slice.result.now c.slice.ensures c.finish.ensures.step c.finish.ensures.end c.requires.room

pub cease-requires : goal.cease-requires
cease-requires c =
    let i = c.self.inside in
    room_for_end i.score c.finish.new.self i.writer c.args.self.now c.self.view_is i.events c.clear.new.self c.finish.new.out c.clear.ensures c.slice.result.now c.slice.ensures c.finish.ensures.step c.finish.ensures.end c.requires.room
    c.write_events.new.writer c.write_events.ensures.writes c.write_events.ensures.room

pub returns-clause-writes : goal.returns-clause-writes
returns-clause-writes c =
    let i = c.self.inside in
    last_is_written i.score c.finish.new.self i.writer c.args.self.now c.self.view_is i.events c.clear.new.self c.finish.new.out c.clear.ensures c.slice.result.now c.slice.ensures c.finish.ensures.step c.finish.ensures.end c.requires.room
    c.cease.new.self c.cease.result (c.cease.ensures.writes ∙ ap past_end c.write_events.ensures.writes) c.cease.ensures.ended

pub returns-clause-steady : goal.returns-clause-steady
returns-clause-steady c =
    let i = c.self.inside in
    last_is_steady i.score c.finish.new.self i.writer c.args.self.now c.self.view_is i.events c.clear.new.self c.finish.new.out c.clear.ensures c.slice.result.now c.slice.ensures c.finish.ensures.step c.finish.ensures.end c.requires.room
    c.cease.new.self (c.cease.ensures.writes ∙ ap past_end c.write_events.ensures.writes)

pub returns-clause-over : goal.returns-clause-over
returns-clause-over c = record { ended = c.cease.ensures.ended; silent = λ xs. nothing_left c.finish.new.self xs c.finish.ensures.over }

pub invariant_of-self : goal.invariant_of-self
invariant_of-self c = grind (arith, nothing_left)

pub returns-clause-force : goal.returns-clause-force
returns-clause-force c = grind (arith, force_ended)
