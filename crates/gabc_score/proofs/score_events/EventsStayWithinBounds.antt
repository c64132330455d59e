-- What the events of a point leave within bounds.
use Rattle.std.proofs.lemmas.Bool.{or_parts, cond_both}
use Rattle.std.proofs.Common.{◌≡◌, ◌≤◌, ◌+◌, ◌-◌, Bool, false, cond, List, [], ◌∷◌, length, drop, Option, Some, None, refl, ◌∙◌, arith, length-append, suc}
use Rattle.gabc_places.specs.declared.code.Code.TheVariants.{F5, F7}
use Rattle.gabc_places.specs.declared.limits.Limits.{Limits}
use Rattle.gabc_places.specs.declared.code.Finding.{Finding}
use Rattle.gabc_places.specs.declared.place.Place.{Place}
use Rattle.gabc_places.specs.BoundedList.{BoundedList, extended_by}
use Rattle.gabc_notes.specs.declared.item.ItemKind.{ItemKind}
use Rattle.gabc_body.specs.declared.events.BodyEvent.{BodyEvent}
use Rattle.gabc_body.specs.Body.{is_none, events_onto, findings_with, findings_of}
use Rattle.gabc_body.specs.NoteBeforeClef.{is_first_note, found_first}
use Rattle.gabc_body.specs.witness.BodyBuilder.{with_all, with_found, code_in}
use Rattle.gabc_body.specs.Syllable.{UnplacedSyllable}
use Rattle.gabc_body.specs.witness.Gatherer.{Gathered, with_event}
use Rattle.gabc_score.specs.machine.ScoreStage.{with_held}

-- ---- no limit is passed

pub record IsWithinLimits (limits : Limits) (g : Gathered) : Type 0 where
  pub kept : length g.builder.kept ≤ g.limit
  pub over : g.over ≡ false
  pub file : is_none g.made ≡ false → g.total + 1 ≤ limits.input

neither : (a b : Bool) → cond a (Some F5) (cond b (Some F7) None) ≡ None → (a ≡ false) × (b ≡ false)
neither a b e = grind arith

pub is_within : (limits : Limits) (g : Gathered) → code_in limits g ≡ None → IsWithinLimits limits g
is_within limits g e = grind (arith, neither, or_parts)

pub none_passed : (limits : Limits) (g : Gathered) → IsWithinLimits limits g → code_in limits g ≡ None
none_passed limits g w = grind arith

-- if only the last syllable is held, one is held if any was made
pub last_stays : (ms : List UnplacedSyllable) → is_none (drop (length ms - 1) ms) ≡ is_none ms
last_stays [] = refl
last_stays (m ∷ []) = refl
last_stays (m ∷ n ∷ ms) = let less : length (m ∷ n ∷ ms) - 1 ≡ suc (length (n ∷ ms) - 1) = omega arith in rw less (last_stays (n ∷ ms))

-- and no limit is passed there
pub code_turned : (limits : Limits) (g : Gathered) → code_in limits g ≡ None → code_in limits (with_held g) ≡ None
code_turned limits g none = rw (last_stays g.made) none

-- ---- what events leave as it was

pub limit_with : (g : Gathered) (t : BodyEvent) → (with_event g t).limit ≡ g.limit
limit_with g t = grind arith

pub limit_stays : (g : Gathered) (now : List BodyEvent) → (with_all g now).limit ≡ g.limit
limit_stays g [] = refl
limit_stays g (t ∷ now) = limit_stays (with_event g t) now ∙ limit_with g t

found_one : (found : List Finding) (t : BodyEvent) → length (findings_with found t) ≤ length found + 1
found_one found t = grind (arith, length-append)

-- no more is found than is emitted
pub found_few : (now before : List BodyEvent) → length (findings_of (events_onto now before)) ≤ length (findings_of before) + length now
found_few [] before = omega arith
found_few (t ∷ now) before = let h = found_few now (t ∷ before) in let o = found_one (findings_of before) t in omega (arith, h, o)

pub few_found : (old new : BoundedList Finding) (now : List BodyEvent) → old.items ≡ [] → new ≡ with_found old now → length now ≤ 8 → length new.items ≤ 8
few_found old new now none e few = grind (arith, found_few)

-- a first note is one finding more at most
one_first : (was now : Option ItemKind) (place : Place) → length (found_first was now place) ≤ 1
one_first was now place = cond_both (is_first_note was now) _ [] (λ (fs : List Finding). length fs ≤ 1) (λ e. omega arith) (λ e. omega arith)

pub few_with_first : (found : BoundedList Finding) (new : BoundedList Finding) (was now : Option ItemKind) (place : Place) → new ≡ extended_by found (found_first was now place) → length found.items ≤ 8
    → length new.items ≤ 9
few_with_first found new was now place e few = grind (arith, one_first, length-append)
