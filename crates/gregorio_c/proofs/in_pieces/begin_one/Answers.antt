use Rattle.std.proofs.Common.{rules}
use Rattle.std.proofs.lemmas.Bool.{false≢true}
use Rattle.gregorio_c.specs.StepAnswers.{used}
use Rattle.gregorio_c.specs.Steps.{job_of}
use Rattle.gregorio_c.proofs.PiecesArePut.{begin_fails, begun}
use Rattle.gregorio_c.proofs.in_pieces.begin_one.Goals as goal

pub returns-clause-begun : goal.returns-clause-begun
returns-clause-begun c = λ request limits asks.
    let call = c.gregorio_begin-number in
    begun (job_of request) limits (used c.args.state.now call.new.state) call.new.step call.result (λ nothing. false≢true (c.if-writes_nothing.ensures.1 nothing)) (call.ensures.answered request limits asks)

pub returns-then-writes_nothing-clause-error : goal.returns-then-writes_nothing-clause-error
returns-then-writes_nothing-clause-error c = λ request limits asks.
    let call = c.gregorio_begin-number in
    begin_fails (job_of request) limits (used c.args.state.now call.new.state) call.new.step call.result (c.if-writes_nothing.ensures.0 (search rules)) (call.ensures.answered request limits asks)
