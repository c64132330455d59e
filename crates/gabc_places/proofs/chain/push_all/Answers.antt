use Rattle.std.proofs.Common.{rules}
use Rattle.std.proofs.lemmas.List.{take_more}
use Rattle.gabc_places.proofs.PushesAreOne.{emits_all-step}
use Rattle.gabc_places.proofs.NothingAfterAnEnd.{stops-pushed}
use Rattle.gabc_places.proofs.chain.push_all.Goals as goal

pub loop-input-preserved : goal.loop-input-preserved
loop-input-preserved g c = record {
  most = search rules;
  pushed =
      rw (take_more c.args.inputs.now c.loop-input.input-index c.input-item.result c.loop-input-test.true, ← c.input-item.is, ← c.loop-input.invariant.most)
      (emits_all-step _ _ _ _ _ _ _ _ _ (rw (← c.loop-input.invariant.most) at c.loop-input.invariant.pushed) c.push.ensures.events);
  end =
      stops-pushed g.S.Stage.is_end c.loop-input.invariant.pushed c.push.ensures.events c.loop-input.invariant.end c.push.ensures.end;
}
