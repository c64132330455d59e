use Rattle.std.proofs.Common.{◌≡◌, ◌≤◌, ◌++◌, None, drop}
use Rattle.gabc_text.specs.Canonical.{listed_styles, text_from, span_bytes}
use Rattle.gabc_text.specs.TextSpan.{GoOnAt}
use Rattle.gabc_text.specs.machine.Runs.{text_after_run}
use Rattle.gabc_text.proofs.canonical.joined_run.Given as goal

-- the run so far and what is after it are the same text, and the pieces go on after it if they all do
abbrev pub invariant-loop-index : goal.invariant-loop-index
invariant-loop-index l = record {
  text : span_bytes l.fn.kept l.span ++ text_from l.fn.centre l.fn.kept l.index (listed_styles l.fn.old) (drop l.index l.fn.pieces) ≡ text_after_run l.fn.centre l.fn.pieces l.fn.kept l.fn.old l.fn.run;
  ordered : l.span.from ≤ l.span.to;
  all : l.fn.centre ≡ None → GoOnAt l.fn.kept l.fn.old l.fn.run.span.to (drop l.fn.run.next l.fn.pieces) → GoOnAt l.fn.kept l.fn.old l.span.to (drop l.index l.fn.pieces);
}
