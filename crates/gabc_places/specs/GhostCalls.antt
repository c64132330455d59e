use Rattle.gabc_places.specs.Calls.{Calls, no_calls, after_answer, after_failure}
use Rattle.gabc_places.specs.declared.ghost_calls.Link.{Link}
use Rattle.gabc_places.specs.declared.ghost_calls.Link.TheVariants.{Start, Answer, Failure}

-- the calls that a chain of snapshots stands for: one for each snapshot
abbrev pub calls_of : Link → Calls
calls_of Start = no_calls
calls_of (Answer before is_end) = after_answer is_end before.value
calls_of (Failure before) = after_failure before.value
