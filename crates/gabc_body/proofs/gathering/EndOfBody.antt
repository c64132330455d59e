-- The end of a body: the last text, the fault and the findings of the end.
use Rattle.std.proofs.lemmas.List.Folds.{list_any-append}
use Rattle.std.proofs.Common.{◌≡◌, ℕ, ◌+◌, ◌-◌, ◌<◌, ◌^◌, ◌||◌, nat_lt, Bool, true, false, cond, List, [], ◌∷◌, ◌++◌, Option, refl, sym, ap, ◌∙◌, arith}
use Rattle.std.specs.List.{list_any}
use Rattle.gabc_places.specs.declared.limits.Limits.{Limits}
use Rattle.gabc_places.specs.declared.place.Place.{Place}
use Rattle.gabc_body.specs.declared.events.BodyEvent.{BodyEvent}
use Rattle.gabc_body.specs.Syllable.{UnplacedSyllable, since_close, kept_of, is_eu, is_nlba, all_syllables}
use Rattle.gabc_body.specs.Canonical.{canonicals, canonical_bytes}
use Rattle.gabc_body.specs.Body.{is_longer, code_by, cut_of, last_syllable, all_units, fault_of_end}
use Rattle.gabc_body.specs.witness.Gatherer.{Gathered, with_syllable, with_no_notes, with_last}
use Rattle.gabc_body.specs.witness.BodyBuilder.{code_in, end_fault_by, end_fault}
use Rattle.gabc_body.proofs.gathering.BuilderHoldsDefinition.{gathered, over_by, made_is}
use Rattle.gabc_body.proofs.gathering.EventsOfOnePoint.{code_is, lt_total}

-- a kept text that is a syllable's counts there
over_shuffle : (a k c n : Bool) → n ≡ false → (n || ((a || (k || false)) || c)) ≡ (k || ((a || (k || false)) || c))
over_shuffle a k c n h = grind arith

pub none_longer : (limit : ℕ) → nat_lt limit 0 ≡ false
none_longer limit = grind arith

over_last : (limit : ℕ) (ms : List UnplacedSyllable) (m : UnplacedSyllable) → (is_longer limit [] || over_by limit (ms ++ m ∷ [])) ≡ (is_longer limit m.kept || over_by limit (ms ++ m ∷ []))
over_last limit ms m =
    let a = list_any-append (λ (n : UnplacedSyllable). is_longer limit n.kept) ms (m ∷ []) in
    let c = list_any (λ text. is_longer limit text) (canonicals true (ms ++ m ∷ [])) in
    ap (λ b. is_longer limit [] || (b || c)) a
    ∙ over_shuffle (list_any (λ (n : UnplacedSyllable). is_longer limit n.kept) ms) (is_longer limit m.kept) c (is_longer limit []) (none_longer limit)
    ∙ ap (λ b. is_longer limit m.kept || (b || c)) (sym a)

module _ (limits : Limits) (head : ℕ) (small : limits.syllable < 2 ^ 64 - 1) (low : limits.input < 2 ^ 64 - 1) (all : List BodyEvent) where
  abbrev holds : Gathered
  holds = gathered limits.syllable head all

  abbrev kept : List ℕ
  kept = kept_of (since_close all)

  abbrev units_by : Bool → List UnplacedSyllable
  units_by b = cond b (all_syllables all ++ last_syllable all ∷ []) (all_syllables all)

  abbrev last_by : Bool → Gathered
  last_by b = cond b (with_syllable (with_no_notes holds)) holds

  code_by_last : (b : Bool) → code_in limits (last_by b) ≡ code_by limits head (units_by b) kept
  code_by_last false = code_is limits head all low
  code_by_last true =
      let units = all_syllables all ++ last_syllable all ∷ [] in
      ap (code_in limits) (made_is limits.syllable head all small (last_syllable all))
      ∙ rw (over_last limits.syllable (all_syllables all) (last_syllable all), lt_total limits.input (head + canonical_bytes units) (2 ^ 64 - 1) low) refl

  pub made_by_last : (b : Bool) → (last_by b).made ≡ units_by b
  made_by_last b = grind arith

  pub cut_by_last : (b : Bool) → (last_by b).cut ≡ cut_of all
  cut_by_last b = grind arith

  pub open_by_last : (b : Bool) → ((last_by b).eu || (last_by b).nlba) ≡ (is_eu all || is_nlba all)
  open_by_last b = grind arith

  fault_by_cut : (at : Place) (g : Gathered) → code_in limits g ≡ code_by limits head (all_units all) kept → (o : Option Place) → end_fault_by limits at g o ≡ fault_of_end limits head at all o
  fault_by_cut at g h o = grind arith

  pub fault_is : (at : Place) → end_fault limits at (with_last holds) ≡ fault_of_end limits head at all (cut_of all)
  fault_is at = grind (arith, cut_by_last, fault_by_cut, code_by_last)
