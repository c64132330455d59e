use Rattle.std.specs.Prelude.{◌≤◌, max}
use Rattle.std.proofs.Common.{arith}
use Rattle.gabc_places.specs.declared.ghost_calls.Link.{Link}
use Rattle.gabc_places.specs.declared.ghost_calls.Link.TheVariants.{Start, Answer, Failure}
use Rattle.gabc_places.specs.declared.ghost_calls.GhostCalls.TheDeep.{deep-Link}
use Rattle.gabc_places.specs.GhostCalls.{calls_of}

-- fewer calls were made before a snapshot than after it
pub depth_le : (n : Link) → max (deep-Link n) 0 ≤ (calls_of n).made
depth_le Start = omega arith
depth_le (Answer before is_end) = omega arith
depth_le (Failure before) = omega arith
