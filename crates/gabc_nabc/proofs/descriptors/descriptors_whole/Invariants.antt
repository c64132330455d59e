use Rattle.std.proofs.Common.{◌≡◌, ◌++◌}
use Rattle.gabc_nabc.specs.Parts.{parts_of}
use Rattle.gabc_nabc.proofs.descriptors.descriptors_whole.Given as goal

-- those that are gathered, and those to come
abbrev pub invariant-loop-part : goal.invariant-loop-part
invariant-loop-part l = parts_of l.kept ≡ l.parts ++ l.part-iterator
