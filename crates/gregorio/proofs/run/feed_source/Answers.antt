use Rattle.std.proofs.Common.{◌+◌, ◌≤◌, ℕ, List, take, length, length-take, ap, arith, rules}
use Rattle.gabc_places.specs.Calls.{Calls}
use Rattle.gregorio.specs.Run.{used}
use Rattle.gregorio.specs.machine.Compile.{IsFedInPart}
use Rattle.gabc_places.proofs.CallsInTime.{failed, read_some}
use Rattle.gregorio.proofs.PiecesAreSent.{all_broken, from_nothing, from_more, in_part, on_err_any}
use Rattle.gregorio.proofs.run.feed_source.Goals as goal

pub loop-taken-init : goal.loop-taken-init
loop-taken-init g c = grind (arith, from_nothing)

pub returns-in_err-feed_piece-in-Ok-clause-cut : goal.returns-in_err-feed_piece-in-Ok-clause-cut
returns-in_err-feed_piece-in-Ok-clause-cut g c =
    let piece : List ℕ = take c.in-Ok.n c.read.new.buf in
    let size : c.loop-taken.taken + length piece ≤ c.args.limit + 1 = search (rules, length-take c.in-Ok.n c.read.new.buf) in
    let some = read_some c.in-Ok.n _ (g.S.Source.calls c.loop-taken.source) (g.S.Source.calls c.read.new.self) (first_of (omega arith, omega (arith, c.in-Ok.n-test), search (rules, c.in-Ok.n-test))) c.in-Ok.ensures.calls in
    let cut : IsFedInPart c.args.limit (used g.S.Source.remaining g.S.Source.calls c.args.source.now c.read.new.self) (used g.O.Sink.written g.O.Sink.calls c.args.out.now c.feed_piece.new.out) (used g.M.Sink.written g.M.Sink.calls c.args.messages.now c.feed_piece.new.messages) c.args.engine.now =
    in_part g.O.Sink.written g.O.Sink.calls g.M.Sink.written g.M.Sink.calls g.S.Source.remaining g.S.Source.calls _ _ c.loop-taken.source _ _ c.loop-taken.out _ _ c.loop-taken.messages _ _ c.loop-taken.engine piece c.loop-taken.taken c.loop-taken.invariant.fed (c.in-Ok.ensures.bytes.0) some (ap (λ (k : Calls). k.made) c.in-Ok.ensures.calls) (search (rules, length-take c.in-Ok.n c.read.new.buf)) size c.in_err-feed_piece-in-Ok.ensures.cut in
    on_err_any c.from_residual.result cut

pub returns-in-Err-clause-fed : goal.returns-in-Err-clause-fed
returns-in-Err-clause-fed g c = grind (arith, all_broken, failed)

pub loop-taken-preserved : goal.loop-taken-preserved
loop-taken-preserved g c = grind (arith, length-take, read_some, from_more)
