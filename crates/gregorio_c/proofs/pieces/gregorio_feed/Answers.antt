use Rattle.std.proofs.Common.{◌⊎◌, ℕ, List, inl, inr, sym, subst}
use Rattle.gabc_places.specs.declared.limits.Limits.{Limits}
use Rattle.gregorio_c.specs.StepAnswers.{FeedAnswer, IsReason, used}
use Rattle.gregorio_c.specs.Steps.{Feeds, job_of}
use Rattle.gregorio_c.specs.declared.request.Request.{Request}
use Rattle.gregorio_c.proofs.NoStepIsRefused.{fed}
use Rattle.gregorio_c.proofs.NumbersAskOnce.{for_any}
use Rattle.gregorio_c.proofs.pieces.gregorio_feed.Goals as goal

pub returns-in-Ok-clause-refused : goal.returns-in-Ok-clause-refused
returns-in-Ok-clause-refused c = λ three.
    let asked = c.in-Some.asked in
    absurd (fed (job_of asked.request) asked.limits c.in-Ok.made (used c.args.state.now c.hand_out.new.state) (used c.args.output.now c.hand_out.new.output) (used c.args.messages.now c.hand_out.new.messages) c.hand_out.result c.hand_out.ensures
    c.front-before.result.now c.args.piece.now c.in-Ok.ensures.feeds (inl three))

pub returns-in-Ok-clause-unchanged : goal.returns-in-Ok-clause-unchanged
returns-in-Ok-clause-unchanged c = λ refused.
    let asked = c.in-Some.asked in
    absurd (fed (job_of asked.request) asked.limits c.in-Ok.made (used c.args.state.now c.hand_out.new.state) (used c.args.output.now c.hand_out.new.output) (used c.args.messages.now c.hand_out.new.messages) c.hand_out.result c.hand_out.ensures
    c.front-before.result.now c.args.piece.now c.in-Ok.ensures.feeds refused)

pub returns-in-Ok-clause-answered : goal.returns-in-Ok-clause-answered
returns-in-Ok-clause-answered c =
    let asked = c.in-Some.asked in
    let state = used c.args.state.now c.hand_out.new.state in
    let output = used c.args.output.now c.hand_out.new.output in
    let messages = used c.args.messages.now c.hand_out.new.messages in
    let before = c.front-before.ensures in
    for_any c.args.format c.args.flags c.args.options.now asked.request asked.limits c.in-Some.ensures.asked
    (λ (request : Request) (limits : Limits). IsReason (job_of request) limits _ c.hand_out.result
    ⊎ FeedAnswer (job_of request) limits _ c.args.piece.now state output messages c.step.result c.hand_out.result)
    (inr (record {
      made = c.in-Ok.made;
      feeds = subst (λ (bytes : List ℕ). Feeds (job_of asked.request) asked.limits bytes c.args.piece.now c.in-Ok.made) before c.in-Ok.ensures.feeds;
      lengths = c.step.ensures;
      handed = c.hand_out.ensures;
    }))

pub returns-in-Err-clause-answered : goal.returns-in-Err-clause-answered
returns-in-Err-clause-answered c =
    let asked = c.in-Some.asked in
    let result = c.number_of_refusal.result in
    for_any c.args.format c.args.flags c.args.options.now asked.request asked.limits c.in-Some.ensures.asked
    (λ (request : Request) (limits : Limits). IsReason (job_of request) limits _ result
    ⊎ FeedAnswer (job_of request) limits _ c.args.piece.now (used c.args.state.now c.args.state.now) (used c.args.output.now c.args.output.now) (used c.args.messages.now c.args.messages.now) c.args.step.now result)
    (inl (subst (λ (bytes : List ℕ). IsReason (job_of asked.request) asked.limits bytes result) c.front-before.ensures
    (subst (IsReason (job_of asked.request) asked.limits c.front-before.result.now) (sym c.number_of_refusal.ensures) c.in-Err.ensures.reason)))
