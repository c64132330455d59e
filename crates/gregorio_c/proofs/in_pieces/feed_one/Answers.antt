use Rattle.std.proofs.Common.{rules, ℕ, List, take, ap, sym, subst, ◌∙◌}
use Rattle.std.proofs.lemmas.Bool.{false≢true}
use Rattle.gregorio_c.specs.StepAnswers.{used}
use Rattle.gregorio_c.specs.Steps.{job_of}
use Rattle.gregorio_c.specs.declared.in_pieces.Fed.{Fed}
use Rattle.gregorio_c.specs.machine.InPieces.{PutsFed}
use Rattle.gregorio_c.proofs.PiecesArePut.{Once, feed_fails, feed_put}
use Rattle.gregorio_c.proofs.in_pieces.feed_one.Goals as goal

pub returns-clause-fed : goal.returns-clause-fed
returns-clause-fed g c = λ request limits asks left stands.
    let call = c.gregorio_feed-number in
    let before = take c.args.len c.args.state.now in
    let once = subst Once c.front.ensures c.bytes_are_of_one_state.ensures in
    subst (λ (fed : Fed). PutsFed g.O.Put.taken g.M.Put.taken (job_of request) limits left c.args.piece.now c.args.out.now c.args.lines.now call.new.state c.put.new.self c.put-2.new.self fed) (sym c.fed_by.ensures)
    (feed_put (job_of request) limits before left stands once c.args.piece.now (used c.args.state.now call.new.state) (used c.args.output.now call.new.output) (used c.args.messages.now call.new.messages) call.new.step call.result
    g.O.Put.taken g.M.Put.taken c.args.out.now c.put.new.self c.args.lines.now c.put-2.new.self (λ nothing. false≢true (c.if-writes_nothing.ensures.1 nothing)) (call.ensures.answered request limits asks)
    (c.put.ensures ∙ ap (λ (bytes : List ℕ). g.O.Put.taken c.args.out.now bytes) c.front-2.ensures)
    (c.put-2.ensures ∙ ap (λ (bytes : List ℕ). g.M.Put.taken c.args.lines.now bytes) c.front-3.ensures))

pub returns-then-writes_nothing-clause-error : goal.returns-then-writes_nothing-clause-error
returns-then-writes_nothing-clause-error g c = λ request limits asks left stands.
    let call = c.gregorio_feed-number in
    let before = take c.args.len c.args.state.now in
    let once = subst Once c.front.ensures c.bytes_are_of_one_state.ensures in
    feed_fails (job_of request) limits before left stands once c.args.piece.now (used c.args.state.now call.new.state) (used c.args.output.now call.new.output) (used c.args.messages.now call.new.messages) call.new.step call.result
    (c.if-writes_nothing.ensures.0 (search rules)) (call.ensures.answered request limits asks)
