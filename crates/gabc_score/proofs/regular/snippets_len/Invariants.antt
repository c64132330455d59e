use Rattle.std.proofs.Common.{◌≡◌, length, ◌-◌}
use Rattle.gabc_score.specs.machine.RegularLen.{SnippetsBefore}
use Rattle.gabc_score.proofs.regular.snippets_len.Given as goal

abbrev pub invariant-loop-begun : goal.invariant-loop-begun
invariant-loop-begun l = record {
  same : l.bytes ≡ l.text;
  before : SnippetsBefore l.lines l.text l.begun l.line;
}

abbrev pub decreases-loop-begun : goal.decreases-loop-begun
decreases-loop-begun l = length l.bytes - l.begun
