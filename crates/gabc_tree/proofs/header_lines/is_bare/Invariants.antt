use Rattle.std.proofs.Common.{◌≡◌, drop}
use Rattle.gabc_headers.specs.Lines.{is_bare}
use Rattle.gabc_tree.proofs.header_lines.is_bare.Given as goal

abbrev pub invariant-loop-byte : goal.invariant-loop-byte
invariant-loop-byte l = is_bare l.row ≡ is_bare (drop l.byte-index l.row)
