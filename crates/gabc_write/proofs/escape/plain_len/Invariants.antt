use Rattle.std.proofs.Common.{◌≡◌, ◌++◌, take, drop}
use Rattle.gabc_write.specs.DumpLines.{escaped}
use Rattle.gabc_write.proofs.escape.plain_len.Given as goal

-- what was looked at stands as it is
abbrev pub invariant-loop-i : goal.invariant-loop-i
invariant-loop-i l = escaped l.text ≡ take l.i l.text ++ escaped (drop l.i l.text)
