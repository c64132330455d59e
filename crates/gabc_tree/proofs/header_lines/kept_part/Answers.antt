use Rattle.gabc_tree.specs.machine.HeaderLines.{is_last}
use Rattle.gabc_tree.proofs.LinesByBytes.{kept_all}
use Rattle.gabc_tree.proofs.header_lines.kept_part.Goals as goal

pub returns-clause-kept : goal.returns-clause-kept
returns-clause-kept c = kept_all (is_last c.args.of_value) c.args.part.now c.loop-at.at c.loop-at.len c.loop-at.invariant.kept c.loop-at-test.false
