use Rattle.std.proofs.Common.{◌≡◌}
use Rattle.gabc_marks.specs.Heads.{shown_by_parts}
use Rattle.gabc_draw.specs.machine.Desk.{shown_by_groups}
use Rattle.gabc_draw.proofs.assemble.parts_of.Given as goal

-- the parts so far show what their groups show
abbrev pub invariant-loop-group : goal.invariant-loop-group
invariant-loop-group l = shown_by_parts l.parts.items ≡ shown_by_groups l.yielded
