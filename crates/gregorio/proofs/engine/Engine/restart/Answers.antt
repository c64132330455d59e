use Rattle.std.proofs.Common.{◌≡◌, ap, sym, ◌∙◌}
use Rattle.gabc_places.specs.declared.limits.Limits.{Limits}
use Rattle.gabc_headers.specs.witness.HeadEvents.{HeaderStageState, fresh_stage}
use Rattle.gabc_body.specs.ScoreEvents.{score_outputs}
use Rattle.gabc_score.specs.witness.BodyStage.{texts_by_stage}
use Rattle.gabc_score.specs.witness.ScoreStage.{ScoreStageState}
use Rattle.gregorio.specs.Outcome.{outcome_of}
use Rattle.gregorio.specs.Streams.{streams_of_outcome}
use Rattle.gregorio.specs.witness.Engine.{EngineState}
use Rattle.gregorio.specs.machine.ScoreWriter.{begun_again, fresh_writer}
use Rattle.gregorio.proofs.EngineBegins.{begins, begun_of}
use Rattle.gregorio.proofs.pieces.BytesAreTaken.{still_reserved}
use Rattle.gregorio.proofs.engine.Engine.restart.Goals as goal

pub invariant_of-self : goal.invariant_of-self
invariant_of-self c =
    let w = c.self.inside.writer in
    let limits : c.limits.result ≡ w.score.limits = c.limits.ensures ∙ ap (λ (s : ScoreStageState). s.limits) c.score.ensures in
    let heads : c.restart.new.self ≡ fresh_stage c.limits.result c.restart.new.self.hasher = c.restart.ensures ∙ ap (λ (l : Limits). fresh_stage l c.self.inside.heads.hasher) (c.self.invariant.together.limits ∙ sym limits) ∙ ap (fresh_stage c.limits.result) (sym (ap (λ (h : HeaderStageState). h.hasher) c.restart.ensures)) in
    begins w.writer.written c.limits.result c.new-self-inside.result c.restart.new.self c.self.inside.from_heads c.restart-2.new.self c.a_held_text_grows.ensures.begins c.self.invariant.few
    c.new-self-inside.ensures.fresh heads c.restart-2.ensures.fresh (c.restart-2.ensures.steady.limits ∙ sym limits) c.restart-2.ensures.part
    (still_reserved w c.restart-2.new.self c.restart-2.ensures.steady c.self.invariant.reserved)

pub returns-clause-all : goal.returns-clause-all
returns-clause-all c job limits runs bytes ending =
    let w = c.self.inside.writer in
    let new = c.restart-2.new.self in
    let own : c.limits.result ≡ w.score.limits = c.limits.ensures ∙ ap (λ (s : ScoreStageState). s.limits) c.score.ensures in
    let same : c.limits.result ≡ limits = own ∙ (ap (λ (s : EngineState). s.score.limits) c.self.view_is ∙ runs.limits_are) in
    let heads : c.restart.new.self ≡ fresh_stage c.limits.result c.restart.new.self.hasher = c.restart.ensures ∙ ap (λ (l : Limits). fresh_stage l c.self.inside.heads.hasher) (c.self.invariant.together.limits ∙ sym own) ∙ ap (fresh_stage c.limits.result) (sym (ap (λ (h : HeaderStageState). h.hasher) c.restart.ensures)) in
    let written : new.writer.written ≡ fresh_writer job = c.restart-2.ensures.fresh ∙ (ap (λ (s : EngineState). begun_again s.written) c.self.view_is ∙ begun_of job limits c.args.self.now runs) in
    let engine : EngineState = record {
      decoder = c.new-self-inside.result;
      heads = c.restart.new.self;
      score = new.score;
      written = new.writer.written;
      output = new.writer.out.items;
      messages = new.writer.messages.items;
    } in
    c.what_begins_is_written_whole.ensures job c.limits.result engine (record {
      known = c.new-self-inside.ensures.known;
      at_end = c.new-self-inside.ensures.at_end;
      heads = heads;
      score = λ xs below. c.restart-2.ensures.score xs below ∙ ap (λ (l : Limits). score_outputs texts_by_stage l xs) (sym own);
      written = written;
    }) bytes ending
    ∙ ap (λ (l : Limits). streams_of_outcome job (outcome_of l ending bytes)) same
