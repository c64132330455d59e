use Rattle.std.proofs.Common.{◌-◌, Some, refl, arith}
use Rattle.gabc_tree.proofs.LinesByBytes.{marks_back, marks_all}
use Rattle.gabc_tree.proofs.header_lines.first_mark.Goals as goal

pub loop-at-preserved-then-run-least : goal.loop-at-preserved-then-run-least
loop-at-preserved-then-run-least c =
    rw (c.bare_with-bare.ensures, c.run_with-run.ensures)
    (marks_back c.args.row.now c.args.least c.loop-at.at (c.loop-at.at - 1) c.loop-at.found (Some (c.loop-at.at - 1)) c.loop-at.bare c.loop-at.run (omega arith) (omega arith) c.requires c.loop-at.invariant
    (λ _. refl) (λ few. absurd (omega (arith, few, c.if-run-least.true, c.run_with-run.ensures))))

pub loop-at-preserved : goal.loop-at-preserved
loop-at-preserved c =
    rw (c.bare_with-bare.ensures, c.run_with-run.ensures)
    (marks_back c.args.row.now c.args.least c.loop-at.at (c.loop-at.at - 1) c.loop-at.found c.loop-at.found c.loop-at.bare c.loop-at.run (omega arith) (omega arith) c.requires c.loop-at.invariant
    (λ much. absurd (omega (arith, much, c.if-run-least.false, c.run_with-run.ensures))) (λ _. refl))

pub returns-clause-within : goal.returns-clause-within
returns-clause-within c = marks_all c.args.row.now c.args.least c.loop-at.at c.loop-at.found c.loop-at.bare c.loop-at.run c.loop-at.invariant c.loop-at-test.false
