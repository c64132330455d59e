use Rattle.std.proofs.Common.{[], refl, ap, sym, subst, ◌++◌, ◌∙◌}
use Rattle.gregorio_jobs.specs.declared.job.Format.{Format}
use Rattle.gregorio.specs.declared.source_ending.SourceEnding.TheVariants.{Broken}
use Rattle.gregorio.specs.Engine.{IsPrompt, fault_of}
use Rattle.gregorio.specs.witness.Engine.{EngineState, streams_left}
use Rattle.gregorio_c.proofs.StepsOfRuns.{goes_on_so, stopped}
use Rattle.gregorio_c.proofs.steps.fed_by.Goals as goal

pub returns-then-running : goal.returns-then-running
returns-then-running c =
    let engine = c.feed_piece.new.engine in
    goes_on_so c.args.job.now c.args.limits (λ ending more. streams_left c.args.engine.now ending more) c.args.piece.now _ refl (record {
      rest = λ ending more. streams_left engine ending more;
      stands = c.in_ok-state.ensures;
      law = c.in_ok-texts.ensures.gathers;
      prompt = subst (λ (f : Format). IsPrompt f (streams_left engine Broken [])) (c.in_ok-texts.ensures.job c.args.job.now c.args.limits c.requires.job).format c.in_ok-texts.ensures.prompt;
    })

pub returns : goal.returns
returns c =
    let engine = c.feed_piece.new.engine in
    stopped c.args.job.now c.args.limits (λ ending more. streams_left c.args.engine.now ending more) (λ ending more. streams_left engine ending more) c.args.piece.now c.last_by.result c.end-status.result (fault_of c.end-status.new.self)
    c.in_ok-texts.texts.output.items c.in_ok-texts.texts.messages.items c.last_by.ensures c.in_ok-texts.ensures.gathers
    (λ more ending. ap (λ (e : EngineState). streams_left e ending more) (sym (c.end-status.ensures.again (sym c.running.ensures ∙ c.if-running.false))) ∙ c.end-status.ensures.last more ending)
    (c.a_run_ends_by_its_input.ensures c.args.engine.now c.requires.runs Broken (c.args.piece.now ++ []))
