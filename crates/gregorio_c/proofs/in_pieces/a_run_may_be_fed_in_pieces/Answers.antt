use Rattle.std.proofs.Common.{ℕ, List, take, sym, subst, arith}
use Rattle.gregorio.specs.witness.StandsFor.{StandsFor}
use Rattle.gregorio_c.specs.Steps.{job_of, run_of}
use Rattle.gregorio_c.proofs.PiecesArePut.{end_of_pieces, if_ok, next_put, nothing_put, over_put}
use Rattle.gregorio_c.proofs.in_pieces.a_run_may_be_fed_in_pieces.Goals as goal

pub loop-piece-init : goal.loop-piece-init
loop-piece-init g c = grind (arith, nothing_put)

pub returns-in-Err-clause-error : goal.returns-in-Err-clause-error
returns-in-Err-clause-error g c = λ request limits asks.
    let so_far = c.loop-piece.invariant request limits asks in
    c.in-Err.ensures.error request limits asks so_far.rest so_far.stands

pub loop-piece-preserved : goal.loop-piece-preserved
loop-piece-preserved g c = λ request limits asks.
    let l = c.loop-piece in
    let so_far = l.invariant request limits asks in
    next_put g.O.Put.taken g.M.Put.taken (job_of request) limits (λ ending bytes. run_of (job_of request) limits ending bytes) c.args.pieces.now l.piece-index c.args.out.now l.out c.feed_one.new.out
    c.args.lines.now l.lines c.feed_one.new.lines (take l.len l.state) g.met.O.Put.taken_both g.met.M.Put.taken_both so_far _ c.feed_one.new.state (omega (arith, c.loop-piece-test.true)) c.in-Ok.fed
    (c.in-Ok.ensures.fed request limits asks so_far.rest so_far.stands) c.in-On.next c.in-On.is

pub returns-in-Over-clause-written : goal.returns-in-Over-clause-written
returns-in-Over-clause-written g c = λ request limits asks.
    let l = c.loop-piece in
    let so_far = l.invariant request limits asks in
    over_put g.O.Put.taken g.M.Put.taken (job_of request) limits (λ ending bytes. run_of (job_of request) limits ending bytes) c.args.pieces.now l.piece-index c.args.out.now l.out c.feed_one.new.out
    c.args.lines.now l.lines c.feed_one.new.lines (take l.len l.state) g.met.O.Put.taken_both g.met.M.Put.taken_both so_far _ c.feed_one.new.state (omega (arith, c.loop-piece-test.true)) c.in-Ok.fed
    (c.in-Ok.ensures.fed request limits asks so_far.rest so_far.stands) c.in-Over.number c.in-Over.is c.args.ending

pub returns-clause-written : goal.returns-clause-written
returns-clause-written g c = λ request limits asks.
    let l = c.loop-piece in
    let so_far = l.invariant request limits asks in
    let stands = subst (λ (bytes : List ℕ). StandsFor (job_of request) limits bytes so_far.rest) (sym c.front.ensures) so_far.stands in
    if_ok c.end_one.result (c.end_one.ensures.ended request limits asks so_far.rest stands)
    (λ number last.
    end_of_pieces g.O.Put.taken g.M.Put.taken (job_of request) limits (λ ending bytes. run_of (job_of request) limits ending bytes) c.args.pieces.now l.piece-index c.args.out.now l.out c.end_one.new.out
    c.args.lines.now l.lines c.end_one.new.lines (take l.len l.state) g.met.O.Put.taken_both g.met.M.Put.taken_both so_far (omega (arith, c.loop-piece-test.false)) c.args.ending number last)

pub returns-clause-error : goal.returns-clause-error
returns-clause-error g c = λ request limits asks.
    let so_far = c.loop-piece.invariant request limits asks in
    c.end_one.ensures.error request limits asks so_far.rest (subst (λ (bytes : List ℕ). StandsFor (job_of request) limits bytes so_far.rest) (sym c.front.ensures) so_far.stands)
