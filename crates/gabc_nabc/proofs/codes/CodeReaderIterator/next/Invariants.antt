use Rattle.std.proofs.Common.{◌≡◌, ◌≤◌}
use Rattle.gabc_nabc.specs.Codes.{codes_from}
use Rattle.gabc_nabc.proofs.codes.CodeReaderIterator.next.Given as goal

-- none of those before is one
abbrev pub invariant-loop-at : goal.invariant-loop-at
invariant-loop-at l = record {
  same : l.self-inside ≡ l.initial.self-inside;
  low : 1 ≤ l.at;
  ahead : codes_from l.initial.self-inside.text.now l.initial.self-inside.at ≡ codes_from l.initial.self-inside.text.now l.at;
}
