use Rattle.std.proofs.Common.{◌≡◌, ◌≤◌, List, length}
use Rattle.gabc_places.specs.BoundedList.{extended_by}
use Rattle.gabc_places.specs.declared.place.Span.{Span}
use Rattle.gabc_neumes.specs.machine.Runs.{is_part}
use Rattle.gabc_neumes.proofs.runs_of_items.RunsOneByOne.{RunsSoFar}
use Rattle.gabc_neumes.proofs.runs.add_runs.Given as goal

abbrev pub invariant-loop-i : goal.invariant-loop-i
invariant-loop-i l =
    (spans : List Span) × RunsSoFar (is_part l.kind l.kept) l.items l.i l.from spans × (l.out ≡ extended_by l.initial.out spans) × (l.i ≤ length l.items)
