use Rattle.std.proofs.Common.{◌≡◌, ◌<◌, ◌+◌, ◌-◌, ◌^◌, min, drop}
use Rattle.gabc_headers.specs.Canonical.{header_lines}
use Rattle.gabc_headers.specs.Entries.{spelled_entries}
use Rattle.gabc_headers.specs.Lines.{bytes_len}
use Rattle.gabc_headers.proofs.entry_map.EntryMap.canonical_len.Given as goal

abbrev pub invariant-loop-index : goal.invariant-loop-index
invariant-loop-index l = record {
  fits : l.counter < 2 ^ 64;
  sum : min (l.counter + bytes_len (header_lines (spelled_entries l.text (drop l.index l.self.0)))) (2 ^ 64 - 1) ≡ min (bytes_len (header_lines (spelled_entries l.text l.self.0))) (2 ^ 64 - 1);
}
