use Rattle.std.proofs.Common.{◌≡◌, ◌++◌, length}
use Rattle.gabc_draw.specs.Pitches.{shown_after}
use Rattle.gabc_draw.specs.machine.Desk.{bytes_of_group, shown_on}
use Rattle.gabc_draw.proofs.desk.Desk.add_all.Given as goal

-- with what is left, it will show all
abbrev pub invariant-loop-rest : goal.invariant-loop-rest
invariant-loop-rest l =
    shown_on l.self.groups.items l.self.group l.self.pending.items
    ++ shown_after (bytes_of_group l.self.group) l.rest
    ≡ shown_on l.initial.self.groups.items l.initial.self.group l.initial.self.pending.items
    ++ shown_after (bytes_of_group l.initial.self.group) l.nodes

abbrev pub decreases-loop-rest : goal.decreases-loop-rest
decreases-loop-rest l = length l.rest
