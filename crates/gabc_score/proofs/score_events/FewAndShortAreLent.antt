-- What is borrowed at a point is within the limits: syllables that were made without passing one.
use Rattle.std.proofs.lemmas.Bool.{or_parts}
use Rattle.std.proofs.Common.{◌≡◌, ℕ, ◌-◌, ◌≤◌, ◌<◌, ◌^◌, ◌||◌, min, not, nat_lt, Bool, false, List, [], ◌∷◌, ◌++◌, take, length, None, refl, sym, ap, subst, arith, length-take}
use Rattle.std.proofs.lemmas.Bool.Decides.{nat_tests}
use Rattle.std.specs.List.{All}
use Rattle.std.proofs.lemmas.List.Elements.{All-nil, All-cons, All-head, All-tail}
use Rattle.gabc_places.specs.declared.code.Finding.{Finding}
use Rattle.gabc_places.specs.declared.limits.Limits.{Limits}
use Rattle.gabc_body.specs.Canonical.{canonical, placed_syllables_by}
use Rattle.gabc_score.specs.NoNotes.{OnlyFirstHasNotes}
use Rattle.gabc_body.specs.ScoreEvents.{ScoreOutput, outputs_of, syllables_in}
use Rattle.gabc_score.specs.ScoreStage.{IsWithin, Lends}
use Rattle.gabc_body.specs.Syllable.{UnplacedSyllable, PlacedSyllable}
use Rattle.gabc_body.specs.declared.syllable.Position.{Position}
use Rattle.gabc_body.specs.witness.BodyBuilder.{code_in, end_fault}
use Rattle.gabc_places.specs.declared.place.Place.{Place}
use Rattle.gabc_body.specs.witness.Gatherer.{Gathered}
use Rattle.gabc_score.specs.machine.ScoreStage.{placed_after}
use Rattle.gabc_score.specs.machine.ScoreMachine.{IsShort}
use Rattle.gabc_body.proofs.score_events.WhatOutputsSay.{given_syllables}

-- ---- short syllables stay so

-- if it is not over the limit, a syllable is counted as short
pub counted : (limit len kept : ℕ) → limit < 2 ^ 32 → nat_lt limit kept ≡ false → nat_lt limit (min len (2 ^ 64 - 1)) ≡ false → (kept ≤ limit) × (len ≤ limit)
counted limit len kept h k e = (grind (arith, nat_tests), grind (arith, nat_tests))

pub either : (a b c : Bool) → (a || (b || c)) ≡ false → (a ≡ false) × ((b ≡ false) × (c ≡ false))
either a b c h = let e = or_parts a (b || c) h in (e.0, or_parts b c e.1)

pub without_start : (b : Bool) (m : UnplacedSyllable) → length (canonical false m) ≤ length (canonical b m)
without_start b m = grind arith

-- ---- what is borrowed

-- a short syllable is within the limits wherever it stands in its word
pub short_within : (limits : Limits) (p : Position) (m : UnplacedSyllable) → IsShort limits.syllable m → IsWithin limits (record { made = m; position = p })
short_within limits p m short = grind arith

pub placed_within : (limits : Limits) (first : Bool) (ms : List UnplacedSyllable) → All (IsShort limits.syllable) ms → All (IsWithin limits) (placed_syllables_by first ms)
placed_within limits first [] h = All-nil (IsWithin limits)
placed_within limits first (m ∷ ms) h =
    let short = All-head (IsShort limits.syllable) m ms h in
    All-cons (IsWithin limits) _ _ (short_within limits _ m short) (placed_within limits false ms (All-tail (IsShort limits.syllable) m ms h))

pub placed_count : (first : Bool) (ms : List UnplacedSyllable) → length (placed_syllables_by first ms) ≡ length ms
placed_count first [] = refl
placed_count first (m ∷ ms) = let e = placed_count false ms in omega (arith, e)

-- after one syllable there is none
pub one_at_most : (ss : List PlacedSyllable) → length ss ≤ 1 → OnlyFirstHasNotes ss
one_at_most ss few = grind (arith, All-nil)

-- these findings and syllables, and then a stop, the end or nothing
pub lends_these : (limits : Limits) (most : ℕ) (fs : List Finding) (ss : List PlacedSyllable) (tail : List ScoreOutput) → syllables_in tail ≡ [] → length ss ≤ most → OnlyFirstHasNotes ss → All (IsWithin limits) ss
    → Lends limits most (outputs_of fs ss ++ tail)
lends_these limits most fs ss tail none few later within =
    let e = given_syllables fs ss tail none in
    record { few = let n = ap length e in omega (arith, n, few); later = subst OnlyFirstHasNotes (sym e) later; within = subst (All (IsWithin limits)) (sym e) within }

-- no more are given than that number
pub few_lent : (n : ℕ) (first second : PlacedSyllable) (ss : List PlacedSyllable) → take n (first ∷ second ∷ []) ≡ ss → length ss ≤ n
few_lent n first second ss e = let h = length-take n (first ∷ second ∷ []) in let k = ap length e in grind (arith, nat_tests)

-- a syllable that was held is short
pub held_lends : (limits : Limits) (most : ℕ) (is_preceded : Bool) (held made : List UnplacedSyllable) (tail : List ScoreOutput) → syllables_in tail ≡ [] → held ≡ made → All (IsShort limits.syllable) made
    → length (placed_after is_preceded held) ≤ 1 → 1 ≤ most → Lends limits most (outputs_of [] (placed_after is_preceded held) ++ tail)
held_lends limits most is_preceded held made tail none e short few one =
    lends_these limits most [] (placed_after is_preceded held) tail none (omega (arith, few, one)) (one_at_most (placed_after is_preceded held) few) (placed_within limits (not is_preceded) held (subst (All (IsShort limits.syllable)) (sym e) short))

-- at an end without a fault no limit is passed
pub no_code : (limits : Limits) (at : Place) (g : Gathered) → end_fault limits at g ≡ None → code_in limits g ≡ None
no_code limits at g h = grind arith

-- nothing is borrowed
pub lends_none : (limits : Limits) (most : ℕ) (outputs : List ScoreOutput) → syllables_in outputs ≡ [] → Lends limits most outputs
lends_none limits most outputs e = record { few = let n = ap length e in omega (arith, n); later = subst OnlyFirstHasNotes (sym e) tt; within = subst (All (IsWithin limits)) (sym e) (All-nil (IsWithin limits)) }
