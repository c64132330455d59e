use Rattle.std.proofs.Common.{List, [], ℕ, append-nil, ◌∙◌, subst}
use Rattle.gregorio.specs.declared.source_ending.SourceEnding.TheVariants.{Whole}
use Rattle.gregorio.specs.Streams.{TakeTheSame}
use Rattle.gregorio.specs.witness.Engine.{streams_left}
use Rattle.gregorio.proofs.engine.Engine.run_over.Goals as goal

pub returns : goal.returns
returns g c =
    let put = subst (λ (l : List ℕ). TakeTheSame g.O.Put.taken g.M.Put.taken c.args.out.now c.args.messages.now (streams_left c.args.self.now Whole l) c.feed_all.new.out c.feed_all.new.messages (streams_left c.feed_all.new.self Whole [])) (append-nil c.args.input.now) (c.feed_all.ensures.put Whole []) in
    record {
      out = c.end_by.ensures.out ∙ put.output;
      messages = c.end_by.ensures.messages ∙ put.lines;
      ends = c.end_by.ensures.ends ∙ put.status;
      fault = c.end_by.ensures.fault ∙ put.fault;
      job = λ job limits runs. c.end_by.ensures.job job limits (c.feed_all.ensures.job job limits runs);
      waits = c.end_by.ensures.waits;
      over = c.end_by.ensures.over;
      last = c.end_by.ensures.last;
      hasher = c.end_by.ensures.hasher ∙ c.feed_all.ensures.hasher;
    }
