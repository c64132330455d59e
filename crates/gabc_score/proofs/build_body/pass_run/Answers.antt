use Rattle.std.proofs.Common.{◌++◌, [], take, take-append-drop, refl, sym, ap, ◌∙◌, arith}
use Rattle.gabc_score.specs.machine.ScoreMachine.{shown}
use Rattle.gabc_score.proofs.regular_syllables.BytesOfRegularSyllables.{split_boundary, split_utf8}
use Rattle.gabc_score.proofs.score_events.RunsAreCollected.{run_passes}
use Rattle.gabc_score.proofs.build_body.pass_run.Goals as goal

pub returns-then-not-takes_runs-clause-passes : goal.returns-then-not-takes_runs-clause-passes
returns-then-not-takes_runs-clause-passes g c = record {
  syllables = [];
  taken = sym (g.met.C.Give.given_none c.args.taker.now);
  law = λ ending. refl;
  line = omega arith;
  column = omega arith;
  shorter = omega arith;
}

pub split_at-requires : goal.split_at-requires
split_at-requires g c = split_boundary c.args.text.now c.take_run-run.result.bytes c.utf8.text c.take_run-run.ensures.front.within

pub returns-clause-passes : goal.returns-clause-passes
returns-clause-passes g c =
    let text = c.args.text.now in
    let n = c.take_run-run.result.bytes in
    let front = c.take_run-run.ensures.front in
    run_passes g.C.Give.given (shown c.args.machine.now) c.args.place.now text (shown c.take_run-run.new.self) c.take_run-run.result.next (take n text) c.split_at.result.1.now c.args.taker.now c.take_run-run.new.out
    (split_utf8 text n c.utf8.text front.within) (sym (take-append-drop n text) ∙ ap (λ r. take n text ++ r) (sym c.split_at.ensures.back)) front.next c.take_run-run.ensures.runs
