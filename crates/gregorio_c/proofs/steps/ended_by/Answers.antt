use Rattle.std.proofs.Common.{ℕ, List, [], ◌++◌, ap, sym, ◌∙◌}
use Rattle.gregorio.specs.Engine.{fault_of}
use Rattle.gregorio.specs.Streams.{after_bytes, ended_with}
use Rattle.gregorio.specs.witness.Engine.{streams_left}
use Rattle.gregorio_c.proofs.StepsOfRuns.{ended}
use Rattle.gregorio_c.proofs.steps.ended_by.Goals as goal

pub returns : goal.returns
returns c =
    let engine = c.end_engine-status.new.engine in
    let status = c.end_engine-status.result in
    let fault = fault_of engine in
    let output = c.gather.new.texts.output.items in
    let lines = c.gather.new.texts.messages.items in
    let out = c.in_ok-gather.ensures.output ∙ ap (λ (bytes : List ℕ). bytes ++ engine.output) c.no_texts-texts.ensures.output in
    let told = c.in_ok-gather.ensures.messages ∙ ap (λ (bytes : List ℕ). bytes ++ engine.messages) c.no_texts-texts.ensures.messages in
    ended c.args.ending (λ ending more. streams_left c.args.engine.now ending more) c.last_by.result status fault output lines c.last_by.ensures
    (c.end_engine-status.ensures
    ∙ (ap (λ (bytes : List ℕ). after_bytes bytes engine.messages (ended_with status fault)) (sym out) ∙ ap (λ (bytes : List ℕ). after_bytes output bytes (ended_with status fault)) (sym told)))
    (c.a_run_ends_by_its_input.ensures c.args.engine.now c.requires.runs c.args.ending [])
