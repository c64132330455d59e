use Rattle.std.proofs.Common.{◌≡◌, ◌∙◌, ℕ, List, [], drop, subst, arith}
use Rattle.std.proofs.lemmas.Grind.{common_steps}
use Rattle.gregorio.specs.Streams.{TakeTheSame, joined}
use Rattle.gregorio.specs.witness.Engine.{streams_left}
use Rattle.gregorio.proofs.in_pieces.an_input_may_come_in_pieces.Goals as goal

pub loop-piece-preserved : goal.loop-piece-preserved
loop-piece-preserved g c = record {
  waits = c.feed_all.ensures.waits;
  job = λ job limits runs. c.feed_all.ensures.job job limits (c.loop-piece.invariant.job job limits runs);
  hasher = c.feed_all.ensures.hasher ∙ c.loop-piece.invariant.hasher;
  put = grind (arith, common_steps);
}

pub returns : goal.returns
returns g c =
    let i = c.loop-piece.invariant in
    let none : joined (drop c.loop-piece.piece-index c.args.pieces.now) ≡ [] = grind (arith, common_steps) in
    let put = subst (λ (l : List ℕ). TakeTheSame g.O.Put.taken g.M.Put.taken c.args.out.now c.args.messages.now (streams_left c.args.engine.now c.args.ending (joined c.args.pieces.now)) c.loop-piece.out c.loop-piece.messages (streams_left c.loop-piece.engine c.args.ending l)) none i.put in
    record {
      out = c.end_by.ensures.out ∙ put.output;
      messages = c.end_by.ensures.messages ∙ put.lines;
      ends = c.end_by.ensures.ends ∙ put.status;
      fault = c.end_by.ensures.fault ∙ put.fault;
      job = λ job limits runs. c.end_by.ensures.job job limits (i.job job limits runs);
      waits = c.end_by.ensures.waits;
      over = c.end_by.ensures.over;
      last = c.end_by.ensures.last;
      hasher = c.end_by.ensures.hasher ∙ i.hasher;
    }
