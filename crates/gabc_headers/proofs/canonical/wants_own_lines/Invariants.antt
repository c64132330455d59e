use Rattle.std.proofs.Common.{◌≡◌, ℕ, List, ◌++◌, ◌||◌}
use Rattle.gabc_headers.specs.Canonical.{wants_lines}
use Rattle.gabc_headers.specs.Lines.{lines}
use Rattle.gabc_headers.proofs.canonical_form.WantsLinesLeftToRight.{wants_from}
use Rattle.gabc_headers.proofs.canonical.wants_own_lines.Given as goal

-- what is known, and else what follows, decides as the whole does
abbrev pub invariant-loop-c : goal.invariant-loop-c
invariant-loop-c l = (rest : List ℕ) → wants_lines (lines (l.yielded ++ rest)) ≡ (l.wants || wants_from l.at_mark rest)
