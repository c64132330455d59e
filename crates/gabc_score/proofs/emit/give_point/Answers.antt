use Rattle.std.proofs.Common.{◌∙◌, ap, arith}
use Rattle.gabc_places.specs.BoundedList.{extended_by}
use Rattle.gabc_score.specs.machine.SlotPair.{lent_of}
use Rattle.gabc_score.proofs.score_events.FewAndShortAreLent.{few_lent}
use Rattle.gabc_score.proofs.score_events.OutputsOfLentSyllables.{now_emitted, then_more, found_events}
use Rattle.gabc_score.proofs.emit.give_point.Goals as goal

pub returns : goal.returns
returns c =
    let p = c.rotate-count.new.self in
    let n = c.rotate-count.result in
    let turn = c.rotate-count.ensures in
    record {
      gathered = turn.gathered;
      used = turn.used;
      contexts = turn.contexts;
      emitted = now_emitted c.args.found.now.items p.first p.second n _ turn.lends (let most = turn.most in omega (arith, most)) (let few = c.requires.few in omega (arith, few)) c.args.out.now c.give_lent.new.out
          (then_more c.args.out.now c.give_found.new.out c.give_lent.new.out (found_events c.args.found.now.items) (lent_of n)
          (c.give_found.ensures ∙ ap (λ fs. extended_by c.args.out.now (found_events fs)) c.slice.ensures) c.give_lent.ensures);
      few = let most = turn.most in let k = few_lent n p.first p.second _ turn.lends in omega (arith, most, k);
      found = c.clear.ensures;
    }
