-- Of what a stage of headers gives of a text no count reaches its last value, and its texts are read as their definition says.
use Rattle.std.proofs.Common.{◌≡◌, ℕ, ◌+◌, ◌<◌, ◌≤◌, ◌^◌, List, [], ◌∷◌, ◌++◌, length, map, Option, Result, Ok, refl, ap, subst, arith}
use lib.Utf8.{encodes}
use Rattle.gabc_places.proofs.PlacesOfAText.{placed_after}
use Rattle.gabc_places.specs.Place.{place_after, placed_characters_from}
use Rattle.gabc_places.specs.declared.code.Fault.{Fault}
use Rattle.gabc_places.specs.declared.code.Finding.{Finding}
use Rattle.gabc_places.specs.declared.limits.Limits.{Limits}
use Rattle.gabc_places.specs.declared.place.Place.{Place}
use Rattle.gabc_headers.specs.declared.heads.Heads.{Heads}
use Rattle.gabc_headers.specs.declared.heads.HeadFault.{HeadFault}
use Rattle.gabc_headers.specs.declared.head_event.HeadEvent.{HeadEvent}
use Rattle.gabc_headers.specs.declared.head_event.HeadEvent.TheVariants as head_event
use Rattle.gabc_headers.specs.Canonical.{header_lines, canonical_heads}
use Rattle.gabc_headers.specs.HeadEvents.{event_of_book}
use Rattle.gabc_headers.specs.Heads.{heads_of}
use Rattle.gabc_headers.specs.Lines.{bytes_len}
use Rattle.gabc_text.specs.Events.{CountsFit, events_by_point}
use Rattle.gabc_text.specs.witness.EventsLeft.{events_left}
use Rattle.gabc_text.specs.TextStage.{fresh_stage}
use Rattle.gabc_body.specs.declared.ending.InputEnding.{InputEnding}
use Rattle.gabc_score.specs.witness.BodyStage.{texts_by_stage}
use Rattle.gabc_body.specs.Events.{Texts, InComment, events_from, texts_by_definition}
use Rattle.gabc_body.specs.Score.{heads_text, after_heads}
use Rattle.gabc_body.specs.ScoreEvents.{ScoreOutput, Found, score_outputs, stop_events, head_events_by, head_events}
use Rattle.gabc_score.specs.ScoreStage.{AreCountsBelow}
use Rattle.gabc_body.specs.SyllablesOfUnits.{body_characters}
use Rattle.gabc_score.specs.machine.Collected.{to_come}
use Rattle.gabc_score.proofs.score_events.BodyIsCollected.{counts_below}
use Rattle.gabc_body.proofs.score_events.ScoreOutputs.{characters_are}
use Rattle.gabc_body.proofs.texts_of_body.BodyFits.{body_fits}
use Rattle.gabc_score.proofs.texts_of_body.StageAndDefinitionAgree.{same_emitted}

-- ---- what is found in the headers, and what stops them

abbrev found_before : List Finding → List HeadEvent → List HeadEvent
found_before fs xs = map (λ f. head_event.Found f) fs ++ xs

found_below : (fs : List Finding) (xs : List HeadEvent) → AreCountsBelow xs → AreCountsBelow (found_before fs xs)
found_below [] xs h = h
found_below (f ∷ fs) xs h = found_below fs xs h

stop_below : (o : Option Fault) → AreCountsBelow (stop_events o)
stop_below o = grind arith

-- two ways to read texts give the same of events that are found
found_alike : (one other : Texts) (limits : Limits) (fs : List Finding) (xs : List HeadEvent) → score_outputs one limits xs ≡ score_outputs other limits xs
    → score_outputs one limits (found_before fs xs) ≡ score_outputs other limits (found_before fs xs)
found_alike one other limits [] xs e = e
found_alike one other limits (f ∷ fs) xs e = ap (λ (lists : List (List ScoreOutput)). (Found f ∷ []) ∷ lists) (found_alike one other limits fs xs e)

stop_alike : (one other : Texts) (limits : Limits) (o : Option Fault) → score_outputs one limits (stop_events o) ≡ score_outputs other limits (stop_events o)
stop_alike one other limits o = grind arith

-- ---- the body

module _ (limits : Limits) (ending : InputEnding) (t : List ℕ) (few : length (encodes t) < 2 ^ 63) where
  fits : CountsFit (place_after (heads_text t)) (after_heads t)
  fits = body_fits t few

  placed : placed_characters_from (place_after (heads_text t)) (after_heads t) ≡ body_characters t
  placed = placed_after (heads_text t) (after_heads t)

  body_below : AreCountsBelow (to_come ending (body_characters t))
  body_below = subst (λ xs. AreCountsBelow (to_come ending xs)) placed (counts_below ending (place_after (heads_text t)) (after_heads t) fits.line fits.column)

  below_by : (short : (heads : Heads) → heads_of limits t ≡ Ok heads → bytes_len (canonical_heads heads.book) + 1 ≤ limits.input) (r : Result Heads HeadFault) → heads_of limits t ≡ r
      → AreCountsBelow (head_events_by ending t r)
  below_by short r e = grind (arith, found_below, body_below, stop_below)

  pub text_below : ((limits : Limits) (t : List ℕ) (heads : Heads) → heads_of limits t ≡ Ok heads → (bytes_len (header_lines heads.book) ≤ limits.header) × (bytes_len (canonical_heads heads.book) + 1 ≤ limits.input))
      → AreCountsBelow (head_events limits ending t)
  text_below heads_short = below_by (λ heads e. (heads_short limits t heads e).1) (heads_of limits t) refl

  module _ (step : (at : Place) (t : List ℕ) → CountsFit at t → events_left (fresh_stage at) t ≡ events_by_point at t) where
    body_alike : (lines macros : ℕ) → events_from texts_by_stage lines macros InComment (body_characters t) ≡ events_from texts_by_definition lines macros InComment (body_characters t)
    body_alike lines macros =
        subst (λ xs. events_from texts_by_stage lines macros InComment xs ≡ events_from texts_by_definition lines macros InComment xs) placed
        (same_emitted step lines macros (place_after (heads_text t)) (after_heads t) InComment fits)

    heads_alike : (book : List (List ℕ × List ℕ)) → let xs = event_of_book book ∷ to_come ending (body_characters t) in score_outputs texts_by_stage limits xs ≡ score_outputs texts_by_definition limits xs
    heads_alike book = grind (arith, characters_are, body_alike)

    alike_by : (r : Result Heads HeadFault) → score_outputs texts_by_stage limits (head_events_by ending t r) ≡ score_outputs texts_by_definition limits (head_events_by ending t r)
    alike_by r = grind (arith, found_alike, heads_alike, stop_alike)

    pub text_alike : score_outputs texts_by_stage limits (head_events limits ending t) ≡ score_outputs texts_by_definition limits (head_events limits ending t)
    text_alike = alike_by (heads_of limits t)
