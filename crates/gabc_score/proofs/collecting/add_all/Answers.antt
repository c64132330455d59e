use Rattle.std.proofs.Common.{◌+◌, take, take_all, refl, sym, ap, subst, ◌∙◌, arith}
use Rattle.gabc_score.specs.machine.Collected.{IsSaid, result_past_all}
use Rattle.gabc_score.proofs.score_events.OutputsAreCollected.{collected, past_more}
use Rattle.gabc_score.proofs.collecting.add_all.Goals as goal

pub loop-event-preserved : goal.loop-event-preserved
loop-event-preserved g c =
    let a = c.args.pair.now.first in
    let b = c.args.pair.now.second in
    let k = c.loop-event.event-index in
    let same = c.slice-event-items.ensures in
    record {
      past = λ first r said.
          subst (IsSaid g.C.Give.given first c.add.new.taker c.add.new.said.findings c.add.new.said.fault)
          (past_more a b r _ _ c.slice-event-items.result.now k _ c.loop-event-test.true (ap (λ es. result_past_all a b r (take k es)) (sym same)) refl ∙ ap (λ es. result_past_all a b r (take (k + 1) es)) same)
          (c.in_ok-add.ensures first (result_past_all a b r (take k c.args.out.now.items)) (c.loop-event.invariant.past first r said));
    }

pub returns-clause-result_is : goal.returns-clause-result_is
returns-clause-result_is g c outputs e l first r said = grind (arith, take_all, collected)
