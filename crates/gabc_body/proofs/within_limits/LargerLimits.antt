-- Larger limits change nothing where neither the headers nor a syllable were too long.
use Rattle.std.proofs.Common.{◌≡◌, ℕ, ◌≤◌, ◌||◌, List, [], ◌∷◌, Bool, true, false, option_map, Option, Some, None, Result, Err, refl, ap, ◌∙◌, arith}
use Rattle.std.specs.List.{list_any}
use Rattle.gabc_places.specs.declared.code.Code.{Code}
use Rattle.gabc_places.specs.declared.code.Fault.{Fault}
use Rattle.gabc_places.specs.declared.code.Finding.{Finding}
use Rattle.gabc_places.specs.declared.limits.Limits.{Limits}
use Rattle.gabc_places.specs.declared.place.Char.{Char}
use Rattle.gabc_places.specs.declared.place.Place.{Place}
use Rattle.gabc_places.specs.LargerLimits.{AreNoLess}
use Rattle.gabc_headers.specs.declared.heads.Heads.{Heads}
use Rattle.gabc_headers.specs.declared.heads.HeadFault.{HeadFault}
use Rattle.gabc_headers.specs.Heads.{heads_of}
use Rattle.gabc_headers.specs.TooLong.{is_too_long, is_stopped_too_long}
use Rattle.gabc_body.specs.declared.ending.InputEnding.{InputEnding}
use Rattle.gabc_body.specs.declared.events.BodyEvent.{BodyEvent}
use Rattle.gabc_body.specs.Body.{is_longer, is_over, code_by, code_at, events_onto, fault_at, stopped_events, events_to_stop, fault_of_end, result_by_fault, result_at_end, body_of}
use Rattle.gabc_body.specs.Score.{head_fault_by}
use Rattle.gabc_body.specs.witness.EmittedScore.{emitted_score_by, emitted_score}
use Rattle.gabc_body.specs.Syllable.{UnplacedSyllable, since_close, kept_of, all_syllables}
use Rattle.gabc_body.proofs.within_limits.CodesOfLimits.{short_is, is_short}

-- ---- the limit of a syllable

-- bytes that are not longer than a limit are no longer than a larger one
shorter_still : (small large : ℕ) → small ≤ large → (bytes : List ℕ) → is_longer small bytes ≡ false → is_longer large bytes ≡ false
shorter_still small large h bytes e = let short = short_is small bytes e in is_short large bytes (omega (arith, h, short))

-- a disjunction that fails still fails where each part that failed does
or_still : (a b c d : Bool) → (a ≡ false → c ≡ false) → (b ≡ false → d ≡ false) → (a || b) ≡ false → (c || d) ≡ false
or_still a b c d f g h = grind arith

-- where no element passes a test, none passes another one that fails wherever the first fails
none_still : {X : Type 0} (test other : X → Bool) → ((x : X) → test x ≡ false → other x ≡ false) → (xs : List X) → list_any test xs ≡ false → list_any other xs ≡ false
none_still test other f [] h = refl
none_still test other f (x ∷ xs) h = or_still (test x) (list_any test xs) (other x) (list_any other xs) (f x) (none_still test other f xs) h

-- what is not over a limit is not over a larger one
within_still : (small large : ℕ) → small ≤ large → (made : List UnplacedSyllable) (kept : List ℕ) → is_over small made kept ≡ false → is_over large made kept ≡ false
within_still small large h made kept = grind (arith, or_still, shorter_still, none_still)

-- ---- bodies

module _ (limits larger : Limits) (less : AreNoLess limits larger) (input : limits.input ≡ larger.input) (head : ℕ) where
  -- which limit is passed, unless a syllable is too long
  code_still : (place : Place) (made : List UnplacedSyllable) (kept : List ℕ) (o : Option Code) → code_by limits head made kept ≡ o
      → is_stopped_too_long (option_map (fault_at place) o) ≡ false → code_by larger head made kept ≡ o
  code_still place made kept o e h = grind (arith, within_still)

  -- what was emitted before the stop, and the stop
  events_still : (before : List BodyEvent) (xs : List Char) (lists : List (List BodyEvent)) → is_stopped_too_long (events_to_stop limits head before xs lists).fault ≡ false
      → events_to_stop larger head before xs lists ≡ events_to_stop limits head before xs lists
  events_still before [] lists h = refl
  events_still before (x ∷ xs) [] h = refl
  events_still before (x ∷ xs) (now ∷ lists) h = by (code_at limits head all) refl (events_still all xs lists) h
    where
      all : List BodyEvent
      all = events_onto now before

      same : (o : Option Code) → code_at limits head all ≡ o → is_stopped_too_long (option_map (fault_at x.place) o) ≡ false → code_at larger head all ≡ o
      same = code_still x.place (all_syllables all) (kept_of (since_close all))

      by : (o : Option Code) → code_at limits head all ≡ o
          → (is_stopped_too_long (events_to_stop limits head all xs lists).fault ≡ false → events_to_stop larger head all xs lists ≡ events_to_stop limits head all xs lists)
          → is_stopped_too_long (stopped_events o x.place before (events_to_stop limits head all xs lists)).fault ≡ false
          → stopped_events (code_at larger head all) x.place before (events_to_stop larger head all xs lists) ≡ stopped_events o x.place before (events_to_stop limits head all xs lists)
      by (Some code) e later k = ap (λ o. stopped_events o x.place before (events_to_stop larger head all xs lists)) (same (Some code) e k)
      by None e later k = ap (λ o. stopped_events o x.place before (events_to_stop larger head all xs lists)) (same None e refl) ∙ later k

  module _ (found : List Finding) (at : Place) where
    -- the fault of the end
    end_still : (all : List BodyEvent) (cut : Option Place) → is_stopped_too_long (fault_of_end limits head at all cut) ≡ false
        → fault_of_end larger head at all cut ≡ fault_of_end limits head at all cut
    end_still all cut h = grind (arith, code_still)

    -- the fault of a whole body is that of its end
    fault_is : (before all : List BodyEvent) (o : Option Fault) → (result_by_fault found at before all o).fault ≡ o
    fault_is before all o = grind arith

    -- what a body says that nothing stops before its end
    result_still : (ending : InputEnding) (before all : List BodyEvent) → is_stopped_too_long (result_at_end limits head found at ending before all).fault ≡ false
        → result_at_end larger head found at ending before all ≡ result_at_end limits head found at ending before all
    result_still ending before all h = grind (arith, end_still, fault_is)

    -- what a body says
    body_still : (ending : InputEnding) (xs : List Char) (lists : List (List BodyEvent)) → is_stopped_too_long (body_of limits head found at ending xs lists).fault ≡ false
        → body_of larger head found at ending xs lists ≡ body_of limits head found at ending xs lists
    body_still ending xs lists h = grind (arith, events_still, result_still)

-- ---- the score

module _ (same : (limits larger : Limits) (t : List ℕ) → AreNoLess limits larger → limits.input ≡ larger.input
    → ((stop : HeadFault) → heads_of limits t ≡ Err stop → is_too_long stop.fault.code ≡ false) → heads_of larger t ≡ heads_of limits t)
    (inside : (limits : Limits) (t : List ℕ) (stop : HeadFault) → heads_of limits t ≡ Err stop → is_too_long stop.fault.code ≡ true → stop.at_end ≡ false)
    (limits larger : Limits) (ending : InputEnding) (t : List ℕ) (less : AreNoLess limits larger) (input : limits.input ≡ larger.input) where
  -- headers that are too long are so before the end, so that the score reports it
  told : (stop : HeadFault) → heads_of limits t ≡ Err stop → is_stopped_too_long (head_fault_by ending stop.at_end stop.fault) ≡ false → is_too_long stop.fault.code ≡ false
  told stop e h = grind arith

  -- what a text says as a score, where its headers are these
  by_heads : (r : Result Heads HeadFault) → heads_of limits t ≡ r → is_stopped_too_long (emitted_score_by limits ending t r).fault ≡ false → emitted_score larger ending t ≡ emitted_score_by limits ending t r
  by_heads r e h = grind (arith, body_still, told)

  -- the score, unless the headers or a syllable are too long
  pub score_still : is_stopped_too_long (emitted_score limits ending t).fault ≡ false → emitted_score larger ending t ≡ emitted_score limits ending t
  score_still = by_heads (heads_of limits t) refl
