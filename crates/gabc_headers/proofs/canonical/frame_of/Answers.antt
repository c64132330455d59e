use Rattle.std.proofs.Common.{sym, arith}
use Rattle.std.proofs.lemmas.Bool.Decides.{nat_tests}
use Rattle.gabc_headers.proofs.canonical_form.HeaderBytes.{empty_before, empty_after, some_before, some_after}
use Rattle.gabc_headers.proofs.canonical.frame_of.Goals as goal

pub returns-then-is_empty-clause-before : goal.returns-then-is_empty-clause-before
returns-then-is_empty-clause-before c = sym (empty_before _ c.args.value.now (grind (arith, nat_tests, c.is_empty.ensures, c.if-is_empty.true)))

pub returns-then-is_empty-clause-after : goal.returns-then-is_empty-clause-after
returns-then-is_empty-clause-after c = sym (empty_after _ c.args.value.now (grind (arith, nat_tests, c.is_empty.ensures, c.if-is_empty.true)))

pub returns-then-wants_own_lines-clause-before : goal.returns-then-wants_own_lines-clause-before
returns-then-wants_own_lines-clause-before c = grind (arith, some_before)

pub returns-then-wants_own_lines-clause-after : goal.returns-then-wants_own_lines-clause-after
returns-then-wants_own_lines-clause-after c = grind (arith, some_after)

pub returns-else-wants_own_lines-clause-before : goal.returns-else-wants_own_lines-clause-before
returns-else-wants_own_lines-clause-before c = grind (arith, some_before)

pub returns-else-wants_own_lines-clause-after : goal.returns-else-wants_own_lines-clause-after
returns-else-wants_own_lines-clause-after c = grind (arith, some_after)
