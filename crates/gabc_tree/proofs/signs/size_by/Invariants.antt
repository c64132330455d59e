use Rattle.std.proofs.Common.{◌≡◌, drop}
use Rattle.gabc_tree.specs.Signs.{size_by, size_after}
use Rattle.gabc_tree.proofs.signs.size_by.Given as goal

abbrev pub invariant-loop-digit : goal.invariant-loop-digit
invariant-loop-digit l = size_by l.digits ≡ size_after l.size (drop l.digit-index l.digits)
