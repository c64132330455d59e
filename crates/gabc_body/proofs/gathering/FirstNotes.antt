-- What a score emits beside its body, a note before any clef, changes nothing but what is found.
use Rattle.std.proofs.Common.{◌≡◌, ℕ, ◌^◌, ◌<◌, ◌+◌, ◌-◌, min, cond, List, [], ◌∷◌, ◌++◌, length, Option, Some, None, refl, sym, ap, ◌∙◌, arith}
use Rattle.gabc_places.specs.StageLaw.{concat_of}
use Rattle.gabc_places.specs.declared.code.Code.{Code}
use Rattle.gabc_places.specs.declared.code.Fault.{Fault}
use Rattle.gabc_places.specs.declared.code.Finding.{Finding}
use Rattle.gabc_places.specs.declared.limits.Limits.{Limits}
use Rattle.gabc_places.specs.declared.place.Char.{Char}
use Rattle.gabc_places.specs.declared.place.Place.{Place}
use Rattle.gabc_body.specs.Body.{events_onto, code_by, code_at, EventsToStop, stopped_events, events_to_stop, has_text, empty_snippet, result_by_fault, result_at_end, result_by, body_of}
use Rattle.gabc_body.specs.Canonical.{canonical_bytes, with_positions}
use Rattle.gabc_body.specs.NoteBeforeClef.{first_of, found_first, with_first, with_first_each}
use Rattle.gabc_body.specs.ScoreEvents.{findings_now}
use Rattle.gabc_body.specs.Syllable.{UnplacedSyllable}
use Rattle.gabc_body.specs.declared.body_result.BodyResult.{BodyResult}
use Rattle.gabc_body.specs.declared.ending.InputEnding.{InputEnding}
use Rattle.gabc_body.specs.declared.events.BodyEvent.{BodyEvent}
use Rattle.gabc_body.specs.witness.BodyBuilder.{with_all}
use Rattle.gabc_body.specs.witness.Gatherer.{Gathered}
use Rattle.gabc_body.proofs.gathering.BuilderHoldsDefinition.{gathered, gathered_step, over_by}
use Rattle.gabc_body.proofs.gathering.EventsOfOnePoint.{gathered_all}
use Rattle.gabc_body.proofs.gathering.EventsOfOnePoint.{found_on}
use Rattle.gabc_body.proofs.emitted.EventsOfSyllableParts.{onto_append}

-- ---- events of which the same is gathered

small : 0 < 2 ^ 64 - 1
small = omega arith

abbrev pub SaysSame : List BodyEvent → List BodyEvent → Type 0
SaysSame one other = gathered 0 0 one ≡ gathered 0 0 other

-- what is gathered under other limits
abbrev under : ℕ → ℕ → Gathered → Gathered
under limit head g = record g { limit = limit; total = min (head + canonical_bytes g.made) (2 ^ 64 - 1); over = over_by limit g.made }

pub same_gathered : (limit head : ℕ) (one other : List BodyEvent) → SaysSame one other → gathered limit head one ≡ gathered limit head other
same_gathered limit head one other e = ap (under limit head) e

pub same_code : (limits : Limits) (head : ℕ) (one other : List BodyEvent) → SaysSame one other → code_at limits head one ≡ code_at limits head other
same_code limits head one other e = ap (λ (g : Gathered). code_by limits head g.made g.builder.kept) e

same_on : (one other now : List BodyEvent) → SaysSame one other → SaysSame (events_onto now one) (events_onto now other)
same_on one other now e = sym (gathered_all 0 0 one small now) ∙ ap (λ (g : Gathered). with_all g now) e ∙ gathered_all 0 0 other small now

-- ---- a first note

pub says_with_first : (before now : List BodyEvent) (x : Char) → SaysSame (events_onto (with_first before x now) before) (events_onto now before)
says_with_first before now x = grind (arith, onto_append, gathered_step, small)

pub findings_with_first : (before now : List BodyEvent) (x : Char)
    → findings_now (with_first before x now) ≡ findings_now now ++ found_first (first_of before) (first_of (events_onto now before)) x.place
findings_with_first before now x = grind (arith, onto_append, found_on)

-- there are as many lists
pub first_each : (before : List BodyEvent) (xs : List Char) (lists : List (List BodyEvent)) → length lists ≡ length xs + 1 → length (with_first_each before xs lists) ≡ length xs + 1
first_each before [] lists e = e
first_each before (x ∷ xs) [] e = absurd (let f : 0 ≡ length (x ∷ xs) + 1 = e in omega (arith, f))
first_each before (x ∷ xs) (now ∷ lists) e =
    let next = events_onto (with_first before x now) before in
    let rest : length (with_first_each next xs lists) ≡ length xs + 1 = first_each next xs lists (omega (arith, e)) in
    omega (arith, rest)

-- ---- the stop

record SameStop (r s : EventsToStop) : Type 0 where
  before : SaysSame r.before s.before
  fault : r.fault ≡ s.fault
  all : SaysSame (events_onto r.last r.before) (events_onto s.last s.before)

module _ (limits : Limits) (head : ℕ) where
  same_stop : (one other : List BodyEvent) (xs : List Char) (lists : List (List BodyEvent)) → SaysSame one other
      → SameStop (events_to_stop limits head one xs (with_first_each one xs lists)) (events_to_stop limits head other xs lists)
  same_stop one other [] lists e = record { before = e; fault = refl; all = same_on one other (concat_of lists) e }
  same_stop one other (x ∷ xs) [] e = record { before = e; fault = refl; all = e }
  same_stop one other (x ∷ xs) (now ∷ lists) e =
      let next : SaysSame (events_onto (with_first one x now) one) (events_onto now other) = says_with_first one now x ∙ same_on one other now e in
      rw (same_code limits head (events_onto (with_first one x now) one) (events_onto now other) next)
      (by (code_at limits head (events_onto now other)) (same_stop (events_onto (with_first one x now) one) (events_onto now other) xs lists next))
    where
      by : (c : Option Code) {r s : EventsToStop} → SameStop r s → SameStop (stopped_events c x.place one r) (stopped_events c x.place other s)
      by None later = later
      by (Some c) later = record { before = e; fault = refl; all = e }

  -- ---- what the body says

  pub record SaysAlike (r s : BodyResult) : Type 0 where
    pub syllables : r.syllables ≡ s.syllables
    pub fault : r.fault ≡ s.fault

  abbrev units_in : Gathered → List UnplacedSyllable
  units_in g = cond (has_text g.builder.view) (g.made ++ record { text = g.builder.view; kept = g.builder.kept; snippets = empty_snippet g.builder.kept ∷ []; eu = g.eu; nlba = g.nlba } ∷ []) g.made

  module _ (found : List Finding) (at : Place) where
    stops_alike : (before other : List BodyEvent) → SaysSame before other → with_positions (gathered 0 0 before).made ≡ with_positions (gathered 0 0 other).made
    stops_alike before other e = ap (λ (g : Gathered). with_positions g.made) e

    ends_alike : (before all other more : List BodyEvent) → SaysSame before other → SaysSame all more → (o : Option Fault)
        → SaysAlike (result_by_fault found at before all o) (result_by_fault found at other more o)
    ends_alike before all other more e f (Some fault) = record { syllables = stops_alike before other e; fault = refl }
    ends_alike before all other more e f None = record { syllables = ap (λ (h : Gathered). with_positions (units_in h)) f; fault = refl }

    end_alike : (ending : InputEnding) (before all other more : List BodyEvent) → SaysSame before other → SaysSame all more
        → SaysAlike (result_at_end limits head found at ending before all) (result_at_end limits head found at ending other more)
    end_alike ending before all other more e f = grind (arith, ends_alike, stops_alike)

    read_alike : (ending : InputEnding) (r s : EventsToStop) → SameStop r s
        → SaysAlike (result_by limits head found at ending r.before r.last r.fault) (result_by limits head found at ending s.before s.last s.fault)
    read_alike ending r s h = grind (arith, stops_alike, end_alike)

    -- the syllables and the fault of a body are those without what is found beside it
    pub body_alike : (ending : InputEnding) (xs : List Char) (lists : List (List BodyEvent))
        → SaysAlike (body_of limits head found at ending xs (with_first_each [] xs lists)) (body_of limits head found at ending xs lists)
    body_alike ending xs lists = read_alike ending _ _ (same_stop [] [] xs lists refl)
