use Rattle.std.proofs.Common.{◌≡◌, take}
use Rattle.gabc_places.specs.machine.StageLaw.{PushesAll}
use Rattle.gabc_places.specs.StageLaw.{StopsAtEnd}
use Rattle.gabc_places.proofs.chain.push_all.Given as goal

abbrev pub invariant-loop-input : goal.invariant-loop-input
invariant-loop-input g l = record {
  most : g.S.Stage.most_of l.stage ≡ g.S.Stage.most_of l.initial.stage;
  pushed : PushesAll (g.S.Stage.rest l.initial.stage) (g.S.Stage.rest l.stage) (take l.input-index l.inputs) (g.S.Stage.most_of l.initial.stage) l.initial.out l.out;
  end : StopsAtEnd g.S.Stage.is_end (g.S.Stage.rest l.stage) l.initial.out l.out;
}
