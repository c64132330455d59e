-- What a score emits says what the score says.
use Rattle.std.proofs.Common.{◌≡◌, ℕ, ◌+◌, ◌||◌, Bool, false, cond, List, [], ◌∷◌, ◌++◌, map, Option, Some, None, Result, Ok, Err, refl, sym, ap, ◌∙◌, ◌⊎◌, inl, inr, append-nil, take-append-drop, arith}
use Rattle.gabc_places.specs.StageLaw.{concat_of}
use Rattle.gabc_places.proofs.PlacesOfAText.{placed_after, after_joined}
use Rattle.gabc_places.specs.Place.{next_place, place_after, place_past, placed_characters_from, placed_characters_after}
use Rattle.gabc_places.specs.declared.code.Code.TheVariants.{F5}
use Rattle.gabc_places.specs.declared.code.Finding.{Finding}
use Rattle.gabc_places.specs.declared.code.Fault.{Fault}
use Rattle.gabc_places.specs.declared.limits.Limits.{Limits}
use Rattle.gabc_places.specs.declared.place.Char.{Char}
use Rattle.gabc_places.specs.declared.place.Place.{Place}
use Rattle.gabc_headers.specs.declared.heads.Heads.{Heads}
use Rattle.gabc_headers.specs.declared.heads.HeadFault.{HeadFault}
use Rattle.gabc_headers.specs.declared.head_event.HeadEvent.{HeadEvent}
use Rattle.gabc_headers.specs.declared.head_event.HeadEvent.TheVariants as head_event
use Rattle.gabc_headers.specs.Book.{nabc_lines_of, macros_of}
use Rattle.gabc_headers.specs.Canonical.{canonical_heads}
use Rattle.gabc_headers.specs.HeadEvents.{event_of_book}
use Rattle.gabc_headers.specs.Heads.{heads_of, head_len}
use Rattle.gabc_headers.specs.Lines.{bytes_len}
use Rattle.gabc_body.specs.declared.body_result.BodyResult.{BodyResult}
use Rattle.gabc_body.specs.declared.ending.InputEnding.{InputEnding}
use Rattle.gabc_body.specs.declared.ending.InputEnding.TheVariants.{Whole}
use Rattle.gabc_body.specs.declared.score.Score.{Score}
use Rattle.gabc_body.specs.Body.{code_by, events_to_stop, result_by}
use Rattle.gabc_body.specs.Events.{Texts, InComment, events_from, texts_by_definition, body_events}
use Rattle.gabc_body.specs.NoteBeforeClef.{with_first_each, score_events}
use Rattle.gabc_body.specs.Score.{heads_text, after_heads, head_fault_by}
use Rattle.gabc_body.specs.witness.EmittedScore.{emitted_score_by, emitted_score}
use Rattle.gabc_body.specs.SyllablesOfUnits.{body_characters}
use Rattle.gabc_body.specs.ScoreEvents.{ScoreOutput, Found, characters_in, body_outputs, first_place, score_outputs, ending_events, stop_events, head_events_by, outputs_of_text, findings_in, syllables_in, fault_in, has_end, is_whole}
use Rattle.gabc_body.proofs.gathering.EndOfBody.{none_longer}
use Rattle.gabc_body.proofs.emitted.OneListEachCharacter.{events_each}
use Rattle.gabc_body.proofs.score_events.BodyOutputs.{Says, end_place, body_says, no_end}
use Rattle.gabc_body.proofs.gathering.FirstNotes.{first_each}
use Rattle.gabc_body.proofs.score_events.WhatOutputsSay.{Said, said_by, said_before, found_first}

-- ---- what comes in

pub characters_are : (ending : InputEnding) (xs : List Char) → characters_in (map (λ x. head_event.Body x) xs ++ ending_events ending) ≡ xs
characters_are Whole [] = refl
characters_are ending (x ∷ xs) = ap (λ ys. x ∷ ys) (characters_are ending xs)
characters_are _ [] = refl

found_heads : (texts : Texts) (limits : Limits) (fs : List Finding) (xs : List HeadEvent)
    → concat_of (score_outputs texts limits (map (λ f. head_event.Found f) fs ++ xs)) ≡ map (λ f. Found f) fs ++ concat_of (score_outputs texts limits xs)
found_heads texts limits [] xs = refl
found_heads texts limits (f ∷ fs) xs = ap (λ outputs. Found f ∷ outputs) (found_heads texts limits fs xs)

-- ---- the place of the end

pub ends_past : (p : Place) (cs : List ℕ) → end_place p (placed_characters_from p cs) ≡ place_past p cs
ends_past p [] = refl
ends_past p (c ∷ cs) = ends_past (next_place p c) cs

ends_after : (prefix cs : List ℕ) (xs : List Char) → xs ≡ placed_characters_after prefix cs → (at : Place) → (xs ≡ []) ⊎ (end_place at xs ≡ place_after (prefix ++ cs))
ends_after prefix [] xs e at = inl e
ends_after prefix (c ∷ cs) xs e at =
    inr (ap (end_place at) (e ∙ sym (placed_after prefix (c ∷ cs))) ∙ ends_past (next_place (place_after prefix) c) cs ∙ after_joined prefix (c ∷ cs))

module _ (limits : Limits) (head lines macros : ℕ) (found : List Finding) where
  -- what the body says whose end is at this place
  abbrev result_to : InputEnding → List Char → Place → BodyResult
  result_to ending xs at =
      let r = events_to_stop limits head [] xs (score_events lines macros xs) in
      result_by limits head found at ending r.before r.last r.fault

  none_passed : code_by limits head [] [] ≡ None
  none_passed = ap (λ b. cond (b || false) (Some F5) None) (none_longer limits.syllable)

  -- of a body without a character it is no matter where its end is
  anywhere : (ending : InputEnding) (at other : Place) → result_to ending [] at ≡ result_to ending [] other
  anywhere ending at other = grind (arith, none_passed)

  pub at_the_end : (ending : InputEnding) (prefix cs : List ℕ) (xs : List Char) → xs ≡ placed_characters_after prefix cs → (at : Place)
      → result_to ending xs (end_place at xs) ≡ result_to ending xs (place_after (prefix ++ cs))
  at_the_end ending prefix cs xs e at = by (ends_after prefix cs xs e at)
    where
      by : (xs ≡ []) ⊎ (end_place at xs ≡ place_after (prefix ++ cs)) → result_to ending xs (end_place at xs) ≡ result_to ending xs (place_after (prefix ++ cs))
      by (inl none) = rw none (anywhere ending at (place_after (prefix ++ cs)))
      by (inr same) = ap (result_to ending xs) same

-- ---- the score

-- what outputs are to say
abbrev said_of_score : InputEnding → Score → Said
said_of_score ending score = record { findings = score.findings; syllables = score.syllables; fault = score.fault; ended = is_whole ending score.fault }

-- and of a body
abbrev said_of_body : InputEnding → BodyResult → Said
said_of_body ending w = record { findings = w.findings; syllables = w.syllables; fault = w.fault; ended = is_whole ending w.fault }

module _ (limits : Limits) (ending : InputEnding) (t : List ℕ) (h : Heads) where
  abbrev xs : List Char
  xs = body_characters t

  abbrev to_come : List HeadEvent
  to_come = map (λ x. head_event.Body x) xs ++ ending_events ending

  abbrev size : ℕ
  size = bytes_len (canonical_heads h.book)

  abbrev body_from : List Char → List ScoreOutput
  body_from ys = concat_of (body_outputs limits size first_place [] (with_first_each [] ys (events_from texts_by_definition (nabc_lines_of h.book) (macros_of h.book) InComment ys)) to_come)

  after_says : said_by (concat_of (score_outputs texts_by_definition limits (head_events_by ending t (Ok h)))) ≡ said_of_score ending (emitted_score_by limits ending t (Ok h))
  after_says =
      ap said_by (found_heads texts_by_definition limits h.findings (event_of_book h.book ∷ to_come))
      ∙ found_first h.findings (body_from (characters_in to_come))
      ∙ ap (λ ys. said_before h.findings [] (said_by (body_from ys))) (characters_are ending xs)
      ∙ by (body_says limits size h.findings ending first_place [] xs (score_events (nabc_lines_of h.book) (macros_of h.book) xs)
      (first_each [] xs (body_events (nabc_lines_of h.book) (macros_of h.book) xs) (events_each texts_by_definition (nabc_lines_of h.book) (macros_of h.book) InComment xs)))
      ∙ ap (said_of_body ending) (at_the_end limits size (nabc_lines_of h.book) (macros_of h.book) h.findings ending (heads_text t) (after_heads t) xs refl first_place)
      ∙ ap (λ u. said_of_body ending (result_to limits size (nabc_lines_of h.book) (macros_of h.book) h.findings ending xs (place_after u))) (take-append-drop (head_len t + 2) t)
    where
      by : {w : BodyResult} → Says (h.findings ++ []) [] ending (body_from xs) w
          → said_before h.findings [] (said_by (body_from xs)) ≡ said_of_body ending w
      by {w = w} s =
          ap (said_before h.findings []) s.result_is ∙ rw (s.syllables, s.all_findings, append-nil) refl

-- what stops the headers
stopped_says : (limits : Limits) (ending : InputEnding) (fs : List Finding) (o : Option Fault) → is_whole ending o ≡ false
    → said_by (concat_of (score_outputs texts_by_definition limits (map (λ f. head_event.Found f) fs ++ stop_events o))) ≡ record { findings = fs; syllables = []; fault = o; ended = is_whole ending o }
stopped_says limits ending fs o e = grind (arith, found_heads, found_first, append-nil)

-- headers that are stopped at the end are not whole
not_whole : (ending : InputEnding) (at_end : Bool) (fault : Fault) → is_whole ending (head_fault_by ending at_end fault) ≡ false
not_whole ending at_end fault = grind (arith, no_end)

module _ (limits : Limits) (ending : InputEnding) (t : List ℕ) where
  score_says : said_by (outputs_of_text limits ending t) ≡ said_of_score ending (emitted_score limits ending t)
  score_says = by (heads_of limits t)
    where
      by : (r : Result Heads HeadFault) → said_by (concat_of (score_outputs texts_by_definition limits (head_events_by ending t r))) ≡ said_of_score ending (emitted_score_by limits ending t r)
      by (Ok h) = after_says limits ending t h
      by (Err stop) = stopped_says limits ending stop.findings (head_fault_by ending stop.at_end stop.fault) (not_whole ending stop.at_end stop.fault)

  pub findings_are : findings_in (outputs_of_text limits ending t) ≡ (emitted_score limits ending t).findings
  findings_are = ap (λ (s : Said). s.findings) score_says

  pub syllables_are : syllables_in (outputs_of_text limits ending t) ≡ (emitted_score limits ending t).syllables
  syllables_are = ap (λ (s : Said). s.syllables) score_says

  pub fault_is : fault_in (outputs_of_text limits ending t) ≡ (emitted_score limits ending t).fault
  fault_is = ap (λ (s : Said). s.fault) score_says

  pub end_is : has_end (outputs_of_text limits ending t) ≡ is_whole ending (emitted_score limits ending t).fault
  end_is = ap (λ (s : Said). s.ended) score_says
