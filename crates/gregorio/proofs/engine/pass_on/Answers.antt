use Rattle.std.proofs.Common.{false, ◌+◌, List, [], ◌++◌, ◌∙◌, drop, subst, sym, append-nil, arith}
use Rattle.std.proofs.Math.ListN.{drop_of_length-le}
use Rattle.gabc_headers.specs.declared.head_event.HeadEvent.{HeadEvent as HeadItem}
use Rattle.gregorio.specs.machine.ScoreWriter.{FitsEvents}
use Rattle.gregorio.proofs.pieces.EventsAreWritten.{room_left, room_now, takes_left}
use Rattle.gregorio.proofs.engine.pass_on.Goals as goal

pub push-requires-clause-room : goal.push-requires-clause-room
push-requires-clause-room c =
    let room : FitsEvents c.args.writer.now false (c.args.from_heads.now ++ []) = subst (λ (events : List HeadItem). FitsEvents c.args.writer.now false events) (sym (append-nil c.args.from_heads.now)) c.requires.room in
    room_now c.args.from_heads.now c.loop-event.event-index _ c.loop-event-test.true c.loop-event.writer
    (subst (λ (events : List HeadItem). FitsEvents c.loop-event.writer false events) (append-nil (drop c.loop-event.event-index c.args.from_heads.now)) (c.loop-event.invariant.room false [] room))

pub returns-clause-takes : goal.returns-clause-takes
returns-clause-takes c = grind (arith, drop_of_length-le)

pub loop-event-preserved : goal.loop-event-preserved
loop-event-preserved c =
    let i = c.loop-event.invariant in
    let events = c.args.from_heads.now in
    let n = c.loop-event.event-index in
    let within = c.loop-event-test.true in
    let old = c.loop-event.writer in
    record {
      takes = λ last all. i.takes last (takes_left events n _ within c.args.heads.now.book old c.push.new.self last c.push.ensures.takes all);
      room = λ ends more r. c.push.ensures.room ends (drop (n + 1) events ++ more) (room_left events n _ within old ends more (i.room ends more r));
      limits = c.push.ensures.takes.passes.tells.limits ∙ i.limits;
    }
