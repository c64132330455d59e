-- What is emitted after the headers says what the body says.
use Rattle.std.proofs.Common.{◌≡◌, ℕ, ◌+◌, Bool, true, false, cond, List, [], ◌∷◌, ◌++◌, map, length, Option, Some, None, refl, ap, ◌∙◌, arith, append_assoc, append-nil}
use Rattle.gabc_places.specs.StageLaw.{concat_of}
use Rattle.gabc_places.proofs.PushesAreOne.{joined_silence}
use Rattle.gabc_places.specs.Place.{next_place}
use Rattle.gabc_places.specs.declared.code.Code.{Code}
use Rattle.gabc_places.specs.declared.code.Finding.{Finding}
use Rattle.gabc_places.specs.declared.code.Fault.{Fault}
use Rattle.gabc_places.specs.declared.limits.Limits.{Limits}
use Rattle.gabc_places.specs.declared.place.Char.{Char}
use Rattle.gabc_places.specs.declared.place.Place.{Place}
use Rattle.gabc_headers.specs.declared.head_event.HeadEvent.{HeadEvent}
use Rattle.gabc_headers.specs.declared.head_event.HeadEvent.TheVariants as head_event
use Rattle.gabc_body.specs.declared.body_result.BodyResult.{BodyResult}
use Rattle.gabc_body.specs.declared.events.BodyEvent.{BodyEvent}
use Rattle.gabc_body.specs.declared.ending.InputEnding.{InputEnding}
use Rattle.gabc_body.specs.declared.ending.InputEnding.TheVariants.{Whole, Broken, At}
use Rattle.gabc_body.specs.Syllable.{UnplacedSyllable, PlacedSyllable, all_syllables}
use Rattle.gabc_body.specs.Canonical.{with_positions}
use Rattle.gabc_body.specs.Body.{events_onto, code_at, EventsToStop, stopped_events, events_to_stop, findings_of, found_at_end, fault_of_end, cut_of, has_last, last_syllable, all_units, result_stopped, result_by_fault, result_by}
use Rattle.gabc_body.specs.ScoreEvents.{ScoreOutput, Stop, End, not_given, given_now, count_made, findings_now, outputs_of, outputs_at, held_output, outputs_at_stop, outputs_at_end, outputs_by, body_outputs, ending_events, is_whole}
use Rattle.gabc_body.proofs.gathering.EventsOfOnePoint.{found_on, made_after}
use Rattle.gabc_body.proofs.score_events.GivenSyllables.{given_then}
use Rattle.gabc_body.proofs.score_events.WhatOutputsSay.{said_by, said_before, said_of}

-- The outputs say what a result does after what was found, and after the syllables that were given before.
pub record Says (found : List Finding) (before : List UnplacedSyllable) (ending : InputEnding) (outputs : List ScoreOutput) (w : BodyResult) : Type 0 where
  pub later : List UnplacedSyllable
  pub syllables : w.syllables ≡ with_positions (before ++ later)
  pub findings : List Finding
  pub all_findings : w.findings ≡ found ++ findings
  pub result_is : said_by outputs ≡ record { findings = findings; syllables = not_given (length before) (before ++ later); fault = w.fault; ended = is_whole ending w.fault }

-- the place after these characters
abbrev pub end_place : Place → List Char → Place
end_place at [] = at
end_place at (x ∷ xs) = end_place (next_place x.place x.c) xs

-- a run that stops is not whole
pub no_end : (ending : InputEnding) (fault : Fault) → is_whole ending (Some fault) ≡ false
no_end ending fault = grind arith

module _ (limits : Limits) (head : ℕ) (found : List Finding) where
  -- ---- the stop

  -- what is held is given, and nothing is found
  held_says : (ending : InputEnding) (before : List BodyEvent) (fault : Option Fault) (tail : List ScoreOutput)
      → said_by tail ≡ record { findings = []; syllables = []; fault = fault; ended = is_whole ending fault }
      → Says (found ++ findings_of before) (all_syllables before) ending (held_output before ++ tail) (result_stopped found before fault)
  held_says ending before fault tail e = record {
    later = [];
    syllables = simp append-nil;
    findings = [];
    all_findings = simp append-nil;
    result_is = said_of [] (not_given (count_made before) (all_syllables before)) tail ∙ ap (said_before [] (not_given (count_made before) (all_syllables before))) e ∙ simp append-nil;
  }

  stop_says : (ending : InputEnding) (before : List BodyEvent) (fault : Fault) (silent : List ScoreOutput) → silent ≡ []
      → Says (found ++ findings_of before) (all_syllables before) ending (outputs_at_stop before fault ++ silent) (result_stopped found before (Some fault))
  stop_says ending before fault silent e =
      rw append_assoc (held_says ending before (Some fault) (Stop fault ∷ silent) (rw (e, no_end ending fault) refl))

  -- ---- how the body ends

  units_more : (before all : List BodyEvent) (more : List UnplacedSyllable) → all_syllables all ≡ all_syllables before ++ more → (b : Bool)
      → (later : List UnplacedSyllable) × (cond b (all_syllables all ++ last_syllable all ∷ []) (all_syllables all) ≡ all_syllables before ++ later)
  units_more before all more h true = (more ++ last_syllable all ∷ [], ap (λ (ms : List UnplacedSyllable). ms ++ last_syllable all ∷ []) h ∙ append_assoc (all_syllables before) more (last_syllable all ∷ []))
  units_more before all more h false = (more, h)

  whole_says : (at : Place) (before now : List BodyEvent) (last : List Finding) (later units : List UnplacedSyllable) → units ≡ all_syllables before ++ later
      → Says (found ++ findings_of before) (all_syllables before) Whole ((outputs_of (findings_now now ++ last) (not_given (count_made before) units) ++ End ∷ []) ++ [])
      (record { syllables = with_positions units; findings = found ++ (findings_of (events_onto now before) ++ last); fault = None })
  whole_says at before now last later units u =
      let lent : List PlacedSyllable = not_given (count_made before) units in
      record {
        later = later;
        syllables = ap with_positions u;
        findings = findings_now now ++ last;
        all_findings = simp (found_on before now, append_assoc);
        result_is = ap said_by (append-nil (outputs_of (findings_now now ++ last) lent ++ End ∷ []))
            ∙ said_of (findings_now now ++ last) lent (End ∷ []) ∙ simp (append-nil, u);
      }

  end_says : (at : Place) (before now : List BodyEvent) (fault : Option Fault)
      → Says (found ++ findings_of before) (all_syllables before) Whole (outputs_at_end at before now fault ++ []) (result_by_fault found at before (events_onto now before) fault)
  end_says at before now (Some fault) = stop_says Whole before fault [] refl
  end_says at before now None =
      let m = made_after now before in
      let u = units_more before (events_onto now before) m.0 m.1 (has_last (events_onto now before)) in
      whole_says at before now (found_at_end at (events_onto now before)) u.0 (all_units (events_onto now before)) u.1

  -- ---- a character

  says_on : (ending : InputEnding) (before now : List BodyEvent) (outputs : List ScoreOutput) (w : BodyResult)
      → Says (found ++ findings_of (events_onto now before)) (all_syllables (events_onto now before)) ending outputs w
      → Says (found ++ findings_of before) (all_syllables before) ending (outputs_at before now ++ outputs) w
  says_on ending before now outputs w s =
      let m = made_after now before in
      let all : List UnplacedSyllable = all_syllables (events_onto now before) in
      record {
        later = m.0 ++ s.later;
        syllables = s.syllables ∙ ap with_positions (ap (λ (ms : List UnplacedSyllable). ms ++ s.later) m.1 ∙ append_assoc (all_syllables before) m.0 s.later);
        findings = findings_now now ++ s.findings;
        all_findings = s.all_findings ∙ simp (found_on before now, append_assoc);
        result_is = said_of (findings_now now) (given_now (count_made before) all) outputs
            ∙ ap (said_before (findings_now now) (given_now (count_made before) all)) s.result_is
            ∙ ap (λ ss. record { findings = findings_now now ++ s.findings; syllables = ss; fault = w.fault; ended = is_whole ending w.fault })
            (given_then (all_syllables before) m.0 s.later all m.1);
      }

  -- ---- all characters

  abbrev pub result_from : InputEnding → Place → EventsToStop → BodyResult
  result_from ending at r = result_by limits head found at ending r.before r.last r.fault

  abbrev pub SaysBody : InputEnding → Place → List BodyEvent → List Char → List (List BodyEvent) → Type 0
  SaysBody ending at before xs lists = Says (found ++ findings_of before) (all_syllables before) ending
      (concat_of (body_outputs limits head at before lists (map (λ x. head_event.Body x) xs ++ ending_events ending))) (result_from ending (end_place at xs) (events_to_stop limits head before xs lists))

  ends_says : (ending : InputEnding) (at : Place) (before : List BodyEvent) (lists : List (List BodyEvent)) → SaysBody ending at before [] lists
  ends_says Whole at before lists =
      end_says at before (concat_of lists) (fault_of_end limits head at (events_onto (concat_of lists) before) (cut_of (events_onto (concat_of lists) before)))
  ends_says Broken at before lists = held_says Broken before None [] refl
  ends_says (At fault) at before lists = stop_says (At fault) before fault [] refl

  -- the characters to come, and how they cease
  abbrev to_come : InputEnding → List Char → List HeadEvent
  to_come ending xs = map (λ x. head_event.Body x) xs ++ ending_events ending

  by_code : (ending : InputEnding) (x : Char) (before now : List BodyEvent) (xs : List Char) (lists : List (List BodyEvent))
      → SaysBody ending (next_place x.place x.c) (events_onto now before) xs lists → (code : Option Code)
      → Says (found ++ findings_of before) (all_syllables before) ending
      (concat_of (outputs_by code x before now (to_come ending xs) (body_outputs limits head (next_place x.place x.c) (events_onto now before) lists (to_come ending xs))))
      (result_from ending (end_place (next_place x.place x.c) xs) (stopped_events code x.place before (events_to_stop limits head (events_onto now before) xs lists)))
  by_code ending x before now xs lists later code = grind (arith, stop_says, joined_silence, says_on)

  pub body_says : (ending : InputEnding) (at : Place) (before : List BodyEvent) (xs : List Char) (lists : List (List BodyEvent))
      → length lists ≡ length xs + 1 → SaysBody ending at before xs lists
  body_says ending at before [] lists h = ends_says ending at before lists
  body_says ending at before (x ∷ xs) [] h = absurd (let f : 0 ≡ length (x ∷ xs) + 1 = h in omega (arith, f))
  body_says ending at before (x ∷ xs) (now ∷ lists) h =
      by_code ending x before now xs lists (body_says ending (next_place x.place x.c) (events_onto now before) xs lists (omega (arith, h))) (code_at limits head (events_onto now before))
