use Rattle.std.proofs.Common.{◌≡◌}
use Rattle.gabc_draw.specs.machine.Desk.{shown_by_groups}
use Rattle.gabc_draw.proofs.desk.Desk.end_text.Given as goal

-- the further groups show nothing
abbrev pub invariant-loop-number : goal.invariant-loop-number
invariant-loop-number l = record {
  shown : shown_by_groups l.self.groups.items ≡ shown_by_groups l.initial.self.groups.items;
  group : l.self.group ≡ l.initial.self.group;
  pending : l.self.pending ≡ l.initial.self.pending;
}
