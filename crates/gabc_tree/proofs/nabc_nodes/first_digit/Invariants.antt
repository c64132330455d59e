use Rattle.std.proofs.Common.{◌≡◌, drop}
use Rattle.gabc_tree.specs.NabcNodes.{first_digit}
use Rattle.gabc_tree.proofs.nabc_nodes.first_digit.Given as goal

abbrev pub invariant-loop-byte : goal.invariant-loop-byte
invariant-loop-byte l = first_digit l.text ≡ first_digit (drop l.byte-index l.text)
