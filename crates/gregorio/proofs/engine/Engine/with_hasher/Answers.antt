use Rattle.std.proofs.Common.{◌≡◌, ◌∙◌, sym, ap, arith}
use Rattle.gabc_headers.specs.witness.HeadEvents.{HeaderStageState, fresh_stage}
use Rattle.gabc_places.specs.BoundedList.{BoundedList}
use Rattle.gregorio.specs.machine.ScoreWriter.{fresh_writer}
use Rattle.gregorio.specs.witness.Engine.{EngineState}
use Rattle.gregorio.proofs.EngineBegins.{begins}
use Rattle.gregorio.proofs.engine.Engine.with_hasher.Goals as goal

pub returns-in-Ok-clause-all : goal.returns-in-Ok-clause-all
returns-in-Ok-clause-all c =
    let w = c.in-Ok.writer in
    let engine : EngineState = record {
      decoder = c.new.result;
      heads = c.in_ok-heads.heads;
      score = w.score;
      written = w.writer.written;
      output = w.writer.out.items;
      messages = w.writer.messages.items;
    } in
    c.what_begins_is_written_whole.ensures c.args.job.now c.args.limits engine (record {
      known = c.new.ensures.known;
      at_end = c.new.ensures.at_end;
      heads = c.in_ok-heads.ensures.fresh ∙ ap (fresh_stage c.args.limits) (sym (ap (λ (h : HeaderStageState). h.hasher) c.in_ok-heads.ensures.fresh));
      score = c.in-Ok.ensures.score;
      written = c.in-Ok.ensures.fresh;
    })

pub invariant_of-result : goal.invariant_of-result
invariant_of-result c =
    let two : c.in_ok-from_heads.from_heads.limit ≡ 2 = ap (λ (r : BoundedList _). r.limit) c.in_ok-from_heads.ensures in
    begins (fresh_writer c.args.job.now) c.args.limits c.new.result c.in_ok-heads.heads c.in_ok-from_heads.from_heads c.in-Ok.writer c.a_held_text_grows.ensures.begins (omega (arith, two)) c.new.ensures.fresh
    (c.in_ok-heads.ensures.fresh ∙ ap (fresh_stage c.args.limits) (sym (ap (λ (h : HeaderStageState). h.hasher) c.in_ok-heads.ensures.fresh))) c.in-Ok.ensures.fresh c.in-Ok.ensures.limits c.in-Ok.ensures.part c.in-Ok.ensures.reserved
