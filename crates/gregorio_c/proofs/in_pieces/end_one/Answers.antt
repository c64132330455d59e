use Rattle.std.proofs.Common.{rules, ℕ, List, ap, ◌∙◌}
use Rattle.std.proofs.lemmas.Bool.{false≢true}
use Rattle.gregorio_c.specs.StepAnswers.{used}
use Rattle.gregorio_c.specs.Steps.{job_of}
use Rattle.gregorio_c.proofs.PiecesArePut.{end_fails, end_put}
use Rattle.gregorio_c.proofs.in_pieces.end_one.Goals as goal

pub returns-clause-ended : goal.returns-clause-ended
returns-clause-ended g c = λ request limits asks left stands.
    let call = c.end_by-number in
    end_put (job_of request) limits c.args.state.now left stands c.bytes_are_of_one_state.ensures c.args.ending (used c.args.output.now call.new.output) (used c.args.messages.now call.new.messages) call.new.lengths call.result
    g.O.Put.taken g.M.Put.taken c.args.out.now c.put.new.self c.args.lines.now c.put-2.new.self (λ nothing. false≢true (c.if-writes_nothing.ensures.1 nothing)) (call.ensures request limits asks)
    (c.put.ensures ∙ ap (λ (bytes : List ℕ). g.O.Put.taken c.args.out.now bytes) c.front.ensures)
    (c.put-2.ensures ∙ ap (λ (bytes : List ℕ). g.M.Put.taken c.args.lines.now bytes) c.front-2.ensures)

pub returns-then-writes_nothing-clause-error : goal.returns-then-writes_nothing-clause-error
returns-then-writes_nothing-clause-error g c = λ request limits asks left stands.
    let call = c.end_by-number in
    end_fails (job_of request) limits c.args.state.now left stands c.bytes_are_of_one_state.ensures c.args.ending (used c.args.output.now call.new.output) (used c.args.messages.now call.new.messages) call.new.lengths call.result
    (c.if-writes_nothing.ensures.0 (search rules)) (call.ensures request limits asks)
