use Rattle.std.proofs.Common.{◌⊎◌, [], inl, inr, sym, subst, arith}
use Rattle.gabc_places.specs.declared.limits.Limits.{Limits}
use Rattle.gregorio_c.specs.StepAnswers.{EndAnswer, IsReason, used}
use Rattle.gregorio_c.specs.Steps.{job_of}
use Rattle.gregorio_c.specs.declared.request.Request.{Request}
use Rattle.gregorio_c.proofs.NoBufferIsHandedOut.{without_a_state}
use Rattle.gregorio_c.proofs.NoStepIsRefused.{ended}
use Rattle.gregorio_c.proofs.NumbersAskOnce.{for_any}
use Rattle.gregorio_c.proofs.pieces.end_so.Goals as goal

pub returns-in-Ok-clause-unchanged : goal.returns-in-Ok-clause-unchanged
returns-in-Ok-clause-unchanged c = grind (arith, ended)

pub returns-in-Ok-clause-answered : goal.returns-in-Ok-clause-answered
returns-in-Ok-clause-answered c =
    let asked = c.in-Some.asked in
    let output = used c.args.output.now c.hand_out.new.output in
    let messages = used c.args.messages.now c.hand_out.new.messages in
    for_any c.args.format c.args.flags c.args.options.now asked.request asked.limits c.in-Some.ensures.asked
    (λ (request : Request) (limits : Limits). IsReason (job_of request) limits c.args.before.now c.hand_out.result
    ⊎ EndAnswer (job_of request) limits c.args.ending c.args.before.now output messages c.lengths.result c.hand_out.result)
    (inr (record {
      made = c.in-Ok.made;
      ends = c.in-Ok.ensures.ends;
      lengths_are = c.lengths.ensures;
      handed = without_a_state c.in-Ok.made (used [] []) output messages c.hand_out.result c.hand_out.new.state c.hand_out.ensures;
    }))

pub returns-in-Err-clause-answered : goal.returns-in-Err-clause-answered
returns-in-Err-clause-answered c =
    let asked = c.in-Some.asked in
    let result = c.number_of_refusal.result in
    for_any c.args.format c.args.flags c.args.options.now asked.request asked.limits c.in-Some.ensures.asked
    (λ (request : Request) (limits : Limits). IsReason (job_of request) limits c.args.before.now result
    ⊎ EndAnswer (job_of request) limits c.args.ending c.args.before.now (used c.args.output.now c.args.output.now) (used c.args.messages.now c.args.messages.now) c.args.lengths.now result)
    (inl (subst (IsReason (job_of asked.request) asked.limits c.args.before.now) (sym c.number_of_refusal.ensures) c.in-Err.ensures.reason))
