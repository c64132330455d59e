use Rattle.std.proofs.Common.{◌≤◌, length, [], ◌∷◌, ◌++◌, ◌||◌, cond, ◌∙◌, refl, ap, arith}
use Rattle.gabc_places.specs.BoundedList.{extended_by}
use Rattle.gabc_places.specs.declared.code.Code.TheVariants.{W9, W11}
use Rattle.gabc_score.specs.declared.score_event.ScoreEvent.TheVariants as event
use Rattle.gabc_body.specs.ScoreEvents.{End}
use Rattle.gabc_score.specs.machine.SlotPair.{lent_of}
use Rattle.gabc_score.proofs.score_events.FewAndShortAreLent.{few_lent}
use Rattle.gabc_score.proofs.score_events.OutputsOfLentSyllables.{emitted, then_more, found_then, few_at_end, found_events}
use Rattle.gabc_score.proofs.emit.give_end.Goals as goal

only_one : length (event.End ∷ []) ≤ 1
only_one = omega arith

pub returns : goal.returns
returns c =
    let p = c.give_all-count.new.self in
    let n = c.give_all-count.result in
    let fs = c.args.found.now in
    let out = c.args.out.now in
    let g = c.args.pair.now.gathered in
    let is_open = g.eu || g.nlba in
    let w9 = cond c.args.has_last (record { place = c.args.at; code = W9 } ∷ []) [] in
    let w11 = cond is_open (record { place = c.args.at; code = W11 } ∷ []) [] in
    let found = found_then out c.give_found.new.out c.give_code.new.out c.give_code-2.new.out fs w9 w11 c.give_found.ensures c.give_code.ensures
    (c.give_code-2.ensures ∙ ap (λ b. extended_by c.give_code.new.out (found_events (cond b (record { place = c.args.at; code = W11 } ∷ []) []))) c.has_open.ensures) in
    record {
      limit = c.give_all-count.ensures.limit;
      emitted = emitted (fs ++ (w9 ++ w11)) (End ∷ []) (event.End ∷ []) refl (λ l. refl) p.first p.second n _ c.give_all-count.ensures.lends c.give_all-count.ensures.most
          (few_at_end fs _ _ c.args.has_last is_open c.requires.few) only_one out c.push.new.self
          (then_more out c.give_code-2.new.out c.push.new.self (found_events (fs ++ (w9 ++ w11))) (lent_of n ++ event.End ∷ []) found
          (then_more c.give_code-2.new.out c.give_lent.new.out c.push.new.self (lent_of n) (event.End ∷ []) c.give_lent.ensures c.push.ensures));
      few = let most = c.give_all-count.ensures.most in let n = few_lent c.give_all-count.result p.first p.second _ c.give_all-count.ensures.lends in omega (arith, most, n);
    }
