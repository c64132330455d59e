use Rattle.std.proofs.Common.{length-drop, take_all, arith, rules}
use Rattle.gregorio.specs.declared.source_ending.SourceEnding.{SourceEnding}
use Rattle.gregorio.specs.Run.{used}
use Rattle.gregorio.specs.machine.Compile.{StreamsAreCut}
use Rattle.gregorio.proofs.PiecesAreSent.{all_after, fed_nothing, front_is_cut, front_is_sent, nothing_waits_after}
use Rattle.gregorio.proofs.run.feed_piece.Goals as goal

pub loop-count-init : goal.loop-count-init
loop-count-init g c = grind (arith, fed_nothing)

pub loop-count-preserved : goal.loop-count-preserved
loop-count-preserved g c = grind (arith, all_after, length-drop, nothing_waits_after, front_is_sent)

pub returns-in_err-send_waiting-clause-cut : goal.returns-in_err-send_waiting-clause-cut
returns-in_err-send_waiting-clause-cut g c =
    let i = c.loop-count.invariant in
    let cut : (ending : SourceEnding) → StreamsAreCut (used g.O.Sink.written g.O.Sink.calls c.args.out.now c.send_waiting.new.out) (used g.M.Sink.written g.M.Sink.calls c.args.messages.now c.send_waiting.new.messages) c.args.engine.now ending c.args.piece.now =
    λ ending. front_is_cut g.O.Sink.written g.O.Sink.calls g.M.Sink.written g.M.Sink.calls _ c.loop-count.out _ _ c.loop-count.messages _ _ _ c.fill-count.new.self c.args.piece.now _ c.loop-count.count c.fill-count.result ending
    (all_after c.loop-count.count c.args.piece.now) i.fed i.waits c.fill-count.ensures.takes c.in_err-send_waiting.ensures.cut in
    search (rules, cut)

pub returns-clause-fed : goal.returns-clause-fed
returns-clause-fed g c = grind (arith, take_all)
