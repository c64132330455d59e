-- At a point at most one syllable more is whole.
use Rattle.std.proofs.Common.{◌≡◌, ℕ, ◌+◌, ◌-◌, ◌≤◌, Bool, List, [], ◌∷◌, take, drop, length, ap, arith, length-append, length-drop, length-take}
use Rattle.std.proofs.lemmas.List.{length-map}
use Rattle.gabc_score.specs.declared.preceding.Preceding.{Preceding}
use Rattle.gabc_body.specs.declared.events.BodyEvent.{BodyEvent}
use Rattle.gabc_score.specs.Before.{with_one, with_each, with_placed}
use Rattle.gabc_body.specs.Syllable.{UnplacedSyllable}
use Rattle.gabc_body.specs.witness.BodyBuilder.{with_all}
use Rattle.gabc_body.specs.witness.Gatherer.{Gathered}
use Rattle.gabc_score.specs.machine.PartPushes.{ClosesLast}
use Rattle.gabc_score.specs.machine.Preceded.{Contexts, after_headers}
use Rattle.gabc_score.specs.machine.ScoreStage.{placed_after, with_held}
use Rattle.gabc_score.proofs.score_events.WhatPrecedes.{same_or_closed}

few_each : (p : Preceding) (ms : List UnplacedSyllable) → (with_each p ms).syllables ≤ p.syllables + length ms
few_each p [] = omega arith
few_each p (m ∷ ms) = let h = few_each (with_one p m) ms in omega (arith, h)

one_more : (g : Gathered) (now : List BodyEvent) → ClosesLast now → length (with_all g now).made ≤ length g.made + 1
one_more g now last = grind (arith, same_or_closed, length-append)

passed : (p : Preceding) (is_preceded : Bool) (made : List UnplacedSyllable) → (with_placed p (take (length made - 1) (placed_after is_preceded made))).syllables + length (drop (length made - 1) made) ≤ p.syllables + length made
passed p is_preceded made = grind (arith, few_each, length-map, length-take, length-drop)

pub whole_past : (before after : Preceding) (is_preceded : Bool) (g h turned : Gathered) (now : List BodyEvent) → ClosesLast now → h ≡ with_all g now
    → after ≡ with_placed before (take (length h.made - 1) (placed_after is_preceded h.made)) → turned ≡ with_held h → after.syllables + length turned.made ≤ before.syllables + length g.made + 1
whole_past before after is_preceded g h turned now last is there turns =
    let few = one_more g now last in
    let all = ap (λ (k : Gathered). length k.made) is in
    let sum = passed before is_preceded h.made in
    let count = ap (λ (p : Preceding). p.syllables) there in
    let held = ap (λ (k : Gathered). length k.made) turns in
    omega (arith, few, all, sum, count, held)

pub none_whole : (b : Contexts) (head : ℕ) (g : Gathered) → b ≡ after_headers head → g.made ≡ [] → b.before.syllables + length g.made ≤ 0
none_whole b head g is none = let n = ap (λ (k : Contexts). k.before.syllables) is in let e = ap (λ (ms : List UnplacedSyllable). length ms) none in omega (arith, n, e)
