use Rattle.std.proofs.Common.{◌∙◌, ap, length, refl, subst}
use Rattle.gregorio.specs.declared.source_ending.SourceEnding.TheVariants.{Whole}
use Rattle.gregorio.specs.Outcome.{outcome_of}
use Rattle.gregorio.specs.Streams.{Streams}
use Rattle.gregorio_jobs.specs.Status.{code_of}
use Rattle.gregorio_c.specs.Answers.{IsPut}
use Rattle.gregorio_c.proofs.compiled.compile.Goals as goal

pub returns-clause-answered : goal.returns-clause-answered
returns-clause-answered c =
    let run = c.in_ok-run.run' in
    let usual = c.in_ok-run.ensures.usual in
    let written = c.in_ok-run.ensures.written in
    let lengths = c.lengths-written.ensures c.args.request run.limits c.args.score.now written in
    let put = c.in_ok-write_texts.ensures in
    record {
      outcome = outcome_of usual.usual Whole c.args.score.now;
      of = record { limits = usual.usual; usual = usual.is_usual; is = refl };
      output = subst (λ (s : Streams). IsPut s.output c.args.output.now c.write_texts.new.output) usual.same put.output;
      output_length = lengths.output ∙ ap (λ (s : Streams). length s.output) usual.same;
      messages = subst (λ (s : Streams). IsPut s.messages c.args.messages.now c.write_texts.new.messages) usual.same put.messages;
      messages_length = lengths.messages ∙ ap (λ (s : Streams). length s.messages) usual.same;
      ends = c.from.ensures ∙ c.code.ensures ∙ ap code_of (written.status ∙ ap (λ (s : Streams). s.status) usual.same);
    }
