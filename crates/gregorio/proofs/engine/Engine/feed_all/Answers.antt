use Rattle.std.proofs.Common.{◌∙◌, ap, length-drop, arith}
use Rattle.std.proofs.lemmas.List.{drop_all}
use Rattle.gregorio.specs.witness.Engine.{EngineState}
use Rattle.gregorio.proofs.InputsArePut.{left_past, more_taken, nothing_taken, runs_where_taken, still_over}
use Rattle.gregorio.proofs.PiecesAreSent.{all_after, nothing_waits_after, taken_from}
use Rattle.gregorio.proofs.engine.Engine.feed_all.Goals as goal

pub loop-count-init : goal.loop-count-init
loop-count-init g c = grind (arith, nothing_taken)

pub loop-count-preserved : goal.loop-count-preserved
loop-count-preserved g c =
    let forgets = c.put_waiting.ensures.forgets in
    record {
      within = grind (arith, length-drop);
      waits = nothing_waits_after c.fill-count.new.self c.put_waiting.new.engine forgets;
      job = λ job limits runs. runs_where_taken c.fill-count.new.self c.put_waiting.new.engine job limits forgets (c.fill-count.ensures.takes.job job limits (c.loop-count.invariant.job job limits runs));
      over = λ over. still_over c.args.self.now c.loop-count.self c.fill-count.new.self c.put_waiting.new.engine (c.loop-count.invariant.over over) over c.loop-count.invariant.waits (λ o. (c.fill-count.ensures.takes.over o).1) forgets;
      hasher = ap (λ (e : EngineState). e.heads.hasher) forgets ∙ (c.fill-count.ensures.hasher ∙ c.loop-count.invariant.hasher);
      put = λ ending more. grind (arith, all_after, taken_from, left_past, length-drop, more_taken);
    }

pub returns-clause-put : goal.returns-clause-put
returns-clause-put g c ending more = grind (arith, drop_all)
