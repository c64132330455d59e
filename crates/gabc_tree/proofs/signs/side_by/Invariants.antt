use Rattle.std.proofs.Common.{◌≡◌, drop}
use Rattle.gabc_tree.specs.Signs.{side_by, side_after}
use Rattle.gabc_tree.proofs.signs.side_by.Given as goal

abbrev pub invariant-loop-digit : goal.invariant-loop-digit
invariant-loop-digit l = side_by l.digits ≡ side_after l.side (drop l.digit-index l.digits)
