use Rattle.std.proofs.Common.{◌≡◌, ◌+◌, ◌*◌, length}
use Rattle.std.specs.Vec.Iter.{into_iter_items}
use Rattle.gabc_places.specs.BoundedList.{Fits, extended_by}
use Rattle.gabc_places.specs.StageLaw.{concat_of}
use Rattle.gabc_places.proofs.stage.drive.Given as goal

abbrev pub invariant-loop-input : goal.invariant-loop-input
invariant-loop-input g l = record {
  can : (goal.iterator-loop-input g).can_next l.input-iterator;
  ends : (goal.iterator-loop-input g).is_finite l.input-iterator;
  most : g.S.Stage.most_of l.stage ≡ g.S.Stage.most_of l.initial.stage;
  room : Fits l.out (g.S.Stage.most_of l.stage * (length (into_iter_items l.input-iterator) + 1));
  law : extended_by l.out (concat_of (g.S.Stage.rest l.stage (into_iter_items l.input-iterator))) ≡ extended_by l.initial.out (concat_of (g.S.Stage.rest l.initial.stage l.fn.inputs.items));
}
