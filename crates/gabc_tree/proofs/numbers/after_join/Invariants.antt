use Rattle.std.proofs.Common.{◌≡◌, drop}
use Rattle.gabc_tree.specs.Numbers.{after_join}
use Rattle.gabc_tree.proofs.numbers.after_join.Given as goal

abbrev pub invariant-loop-i : goal.invariant-loop-i
invariant-loop-i l = after_join l.text ≡ after_join (drop l.i l.text)
