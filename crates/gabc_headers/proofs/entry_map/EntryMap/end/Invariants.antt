use Rattle.std.proofs.Common.{◌≡◌, IsCharBoundary, drop, max, take}
use Rattle.gabc_headers.specs.machine.EntryMap.{values_end}
use Rattle.gabc_headers.proofs.entries.TextsGoOn.{EndBy}
use Rattle.gabc_headers.proofs.entry_map.EntryMap.end.Given as goal

abbrev pub invariant-loop-index : goal.invariant-loop-index
invariant-loop-index l = record {
  last : IsCharBoundary l.text l.end;
  ends : EndBy l.end (take l.index l.self.0);
  far : max l.end (values_end (drop l.index l.self.0)) ≡ values_end l.self.0;
}
