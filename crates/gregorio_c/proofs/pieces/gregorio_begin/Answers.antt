use Rattle.std.proofs.Common.{◌≡◌, ◌⊎◌, [], inr}
use Rattle.gabc_places.specs.declared.limits.Limits.{Limits}
use Rattle.gregorio_c.specs.StepAnswers.{BeginAnswer, used}
use Rattle.gregorio_c.specs.Steps.{job_of}
use Rattle.gregorio_c.specs.declared.request.Request.{Request}
use Rattle.gregorio_c.proofs.NoBufferIsHandedOut.{without_texts}
use Rattle.gregorio_c.proofs.NumbersAskOnce.{for_any}
use Rattle.gregorio_c.proofs.pieces.gregorio_begin.Goals as goal

pub returns-in-Ok-clause-answered : goal.returns-in-Ok-clause-answered
returns-in-Ok-clause-answered c =
    let asked = c.in-Some.asked in
    let state = used c.args.state.now c.hand_out.new.state in
    for_any c.args.format c.args.flags c.args.options.now asked.request asked.limits c.in-Some.ensures.asked
    (λ (request : Request) (limits : Limits). (c.hand_out.result ≡ 5) ⊎ BeginAnswer (job_of request) limits state c.step.result c.hand_out.result)
    (inr (record {
      made = c.in-Ok.made;
      begins = c.in-Ok.ensures.begins;
      lengths = c.step.ensures;
      handed = without_texts c.in-Ok.made state (used [] []) (used [] []) c.hand_out.result c.hand_out.new.output c.hand_out.new.messages c.hand_out.ensures;
    }))
