use Rattle.std.proofs.Common.{inl, arith}
use Rattle.gregorio.proofs.pieces.NothingIsKeptBack.{no_fault_is_kept_back, prompt_further, took_some}
use Rattle.gregorio.proofs.pieces.PiecesAreTaken.{next_byte, takes_more, takes_none}
use Rattle.gregorio.proofs.pieces.RoomIsLeft.{leaves_room}
use Rattle.gregorio.proofs.engine.Engine.feed.Goals.{else-loop-count-test, then-loop-count-test+else-nothing_waits}
use Rattle.gregorio.proofs.engine.Engine.feed.Goals as goal

pub loop-count-init : goal.loop-count-init
loop-count-init c = grind (arith, takes_none)

pub take-requires : goal.take-requires
take-requires c = record { room = leaves_room c.loop-count.self (c.nothing_waits.ensures.waits c.if-nothing_waits.true) }

pub loop-count-preserved : goal.loop-count-preserved
loop-count-preserved c =
    let i = c.loop-count.invariant in
    let now = c.loop-count.self in
    let count = c.loop-count.count in
    let more = c.loop-count-test.true in
    record {
      within = omega (arith, more);
      takes = takes_more c.args.self.now now c.take.new.self c.args.piece.now count 1 i.takes (next_byte now c.take.new.self c.args.piece.now count more c.take.ensures.takes);
      begun = inl (omega arith);
      stops = λ something.
          prompt_further c.args.self.now now c.args.piece.now count 1 i.takes.brings c.requires.waits
          (c.nothing_waits.ensures.waits c.if-nothing_waits.true) (omega arith) i.takes.format c.take.ensures.prompt;
    }

pub returns-clause-takes : goal.returns-clause-takes
returns-clause-takes c = grind (arith, took_some)

pub returns-clause-stops : goal.returns-clause-stops
returns-clause-stops c = c.loop-count.invariant.stops

pub returns-clause-fault : goal.returns-clause-fault
returns-clause-fault c = grind (arith, no_fault_is_kept_back)

pub returns-clause-hasher : goal.returns-clause-hasher
returns-clause-hasher c = c.loop-count.invariant.takes.hasher

pub returns-then-is_over-clause-takes : goal.returns-then-is_over-clause-takes
returns-then-is_over-clause-takes c = c.is_over.ensures.takes c.if-is_over.true c.args.piece.now

pub returns-then-is_over-clause-stops : goal.returns-then-is_over-clause-stops
returns-then-is_over-clause-stops c = λ something. absurd (something c.requires.waits)

pub returns-then-is_over-clause-fault : goal.returns-then-is_over-clause-fault
returns-then-is_over-clause-fault c = λ runs something. absurd (something c.requires.waits)
