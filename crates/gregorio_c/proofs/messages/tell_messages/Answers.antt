use Rattle.std.proofs.Common.{◌≡◌, ◌∙◌, ap, length, sym, subst, arith}
use Rattle.gabc_places.specs.Filling.{filled}
use Rattle.gregorio.specs.declared.outcome.Outcome.{Outcome}
use Rattle.gregorio.specs.Outcome.{status_of}
use Rattle.gregorio_jobs.specs.Status.{code_of}
use Rattle.gregorio_c.specs.Answers.{IsPut}
use Rattle.gregorio_c.specs.Messages.{messages_by}
use Rattle.gregorio_c.proofs.messages.tell_messages.Goals as goal

pub returns-clause-answered : goal.returns-clause-answered
returns-clause-answered c =
    let all = c.args.all_warnings in
    let found = c.in_ok-outcome.ensures in
    let outcome = found.outcome in
    let same : messages_by all c.in_ok-outcome.outcome.score ≡ messages_by all outcome.score = ap (λ (o : Outcome). messages_by all o.score) found.is in
    let count : c.fill-len.result ≡ length (messages_by all outcome.score) = omega (arith, c.fill-len.ensures.count, c.if-len.false, ap length same) in
    record {
      outcome = outcome;
      of = found.of;
      messages = subst (λ new. IsPut (messages_by all outcome.score) c.args.messages.now new) (sym (c.fill.ensures.buf ∙ ap (filled c.args.messages.now c.start_of-start.result) same)) (c.start_of-start.ensures (messages_by all outcome.score) (sym count));
      counted = count;
      ends = c.from.ensures ∙ c.code.ensures ∙ ap code_of (c.status.ensures ∙ ap status_of found.is);
    }
