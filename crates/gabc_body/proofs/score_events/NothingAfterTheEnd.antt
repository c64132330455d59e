-- After a stop or the end nothing is emitted.
use Rattle.std.proofs.Common.{◌≡◌, ℕ, true, List, [], ◌∷◌, ◌++◌, map, Option, Some, None, sym, ap, subst, ◌∙◌, append_assoc, arith}
use Rattle.gabc_places.specs.StageLaw.{concat_of, silence}
use Rattle.gabc_places.proofs.PushesAreOne.{joined_silence}
use Rattle.gabc_places.specs.Place.{next_place}
use Rattle.gabc_places.specs.declared.code.Code.{Code}
use Rattle.gabc_places.specs.declared.code.Finding.{Finding}
use Rattle.gabc_places.specs.declared.code.Fault.{Fault}
use Rattle.gabc_places.specs.declared.limits.Limits.{Limits}
use Rattle.gabc_places.specs.declared.place.Char.{Char}
use Rattle.gabc_places.specs.declared.place.Place.{Place}
use Rattle.gabc_headers.specs.declared.head_event.HeadEvent.{HeadEvent}
use Rattle.gabc_headers.specs.declared.head_event.HeadEvent.TheVariants as head_event
use Rattle.gabc_body.specs.declared.events.BodyEvent.{BodyEvent}
use Rattle.gabc_body.specs.Syllable.{PlacedSyllable, all_syllables}
use Rattle.gabc_body.specs.Body.{code_at, events_onto, fault_at}
use Rattle.gabc_body.specs.Events.{Texts, InComment, events_from}
use Rattle.gabc_body.specs.NoteBeforeClef.{with_first_each}
use Rattle.gabc_body.specs.ScoreEvents.{ScoreOutput, Found, Stop, Syllable, is_last, not_given, given_now, count_made, findings_now, outputs_of, outputs_at_end, outputs_by, characters_in, body_outputs, first_place, score_outputs}

-- after the first stop or end among these nothing stands
abbrev pub Ends : List ScoreOutput → Type 0
Ends [] = Unit {0}
Ends (o ∷ outputs) = (is_last o ≡ true → outputs ≡ []) × Ends outputs

pub silent : (outputs : List ScoreOutput) → outputs ≡ [] → Ends outputs
silent outputs e = subst Ends (sym e) tt

found_ends : (fs : List Finding) (outputs : List ScoreOutput) → Ends outputs → Ends (map (λ f. Found f) fs ++ outputs)
found_ends [] outputs h = h
found_ends (f ∷ fs) outputs h = (λ l. absurd (cc), found_ends fs outputs h)

given_end : (ss : List PlacedSyllable) (outputs : List ScoreOutput) → Ends outputs → Ends (map (λ s. Syllable s) ss ++ outputs)
given_end [] outputs h = h
given_end (s ∷ ss) outputs h = (λ l. absurd (cc), given_end ss outputs h)

-- what comes after findings and syllables
pub then_end : (fs : List Finding) (ss : List PlacedSyllable) (outputs : List ScoreOutput) → Ends outputs → Ends (outputs_of fs ss ++ outputs)
then_end fs ss outputs h = subst Ends (sym (append_assoc (map (λ f. Found f) fs) (map (λ s. Syllable s) ss) outputs)) (found_ends fs (map (λ s. Syllable s) ss ++ outputs) (given_end ss outputs h))

pub last_ends : (fs : List Finding) (ss : List PlacedSyllable) (o : ScoreOutput) (outputs : List ScoreOutput) → outputs ≡ [] → Ends ((outputs_of fs ss ++ o ∷ []) ++ outputs)
last_ends fs ss o outputs e = subst Ends (sym (append_assoc (outputs_of fs ss) (o ∷ []) outputs)) (then_end fs ss (o ∷ outputs) (λ l. e, silent outputs e))

module _ (limits : Limits) (head : ℕ) where
  end_ends : (at : Place) (before now : List BodyEvent) (fault : Option Fault) (outputs : List ScoreOutput) → outputs ≡ [] → Ends (outputs_at_end at before now fault ++ outputs)
  end_ends at before now (Some fault) outputs e = last_ends [] (not_given (count_made before) (all_syllables before)) (Stop fault) outputs e
  end_ends at before now None outputs e = grind (arith, last_ends)

  by_code : (code : Option Code) (x : Char) (before now : List BodyEvent) (xs : List HeadEvent) (later : List (List ScoreOutput)) → Ends (concat_of later) → Ends (concat_of (outputs_by code x before now xs later))
  by_code (Some code) x before now xs later h = last_ends [] (not_given (count_made before) (all_syllables before)) (Stop (fault_at x.place code)) (concat_of (silence xs)) (joined_silence xs)
  by_code None x before now xs later h = then_end (findings_now now) (given_now (count_made before) (all_syllables (events_onto now before))) (concat_of later) h

  body_ends : (at : Place) (before : List BodyEvent) (lists : List (List BodyEvent)) (xs : List HeadEvent) → Ends (concat_of (body_outputs limits head at before lists xs))
  body_ends at before lists [] = then_end [] (not_given (count_made before) (all_syllables before)) [] tt
  body_ends at before (now ∷ lists) (head_event.Body x ∷ xs) =
      by_code (code_at limits head (events_onto now before)) x before now xs _ (body_ends (next_place x.place x.c) (events_onto now before) lists xs)
  body_ends at before [] (head_event.Body x ∷ xs) = silent _ (joined_silence (head_event.Body x ∷ xs))
  body_ends at before lists (head_event.End ∷ xs) = grind (arith, end_ends, joined_silence)
  body_ends at before lists (head_event.Stop fault ∷ xs) = last_ends [] (not_given (count_made before) (all_syllables before)) (Stop fault) (concat_of (silence xs)) (joined_silence xs)
  body_ends at before lists (head_event.Found f ∷ xs) = (λ l. absurd (cc), body_ends at before lists xs)
  body_ends at before lists (head_event.Heads lines macros canonical ∷ xs) = body_ends at before lists xs

score_ends : (texts : Texts) (limits : Limits) (xs : List HeadEvent) → Ends (concat_of (score_outputs texts limits xs))
score_ends texts limits [] = tt
score_ends texts limits (head_event.Heads lines macros canonical ∷ xs) = body_ends limits canonical first_place [] (with_first_each [] (characters_in xs) (events_from texts lines macros InComment (characters_in xs))) xs
score_ends texts limits (head_event.Found f ∷ xs) = (λ l. absurd (cc), score_ends texts limits xs)
score_ends texts limits (head_event.Body x ∷ xs) = score_ends texts limits xs
score_ends texts limits (_ ∷ xs) = (λ l. joined_silence xs, silent _ (joined_silence xs))

nothing_after : (outputs before after : List ScoreOutput) (o : ScoreOutput) → Ends outputs → outputs ≡ before ++ o ∷ after → is_last o ≡ true → after ≡ []
nothing_after [] [] after o h e l = absurd (cc)
nothing_after [] (p ∷ before) after o h e l = absurd (cc)
nothing_after (q ∷ outputs) [] after o h e l = let i : (q ≡ o) × (outputs ≡ after) = (cc, cc) in sym i.1 ∙ h.0 (ap is_last i.0 ∙ l)
nothing_after (q ∷ outputs) (p ∷ before) after o h e l = let t : outputs ≡ before ++ o ∷ after = cc in nothing_after outputs before after o h.1 t l

pub nothing_follows : (texts : Texts) (limits : Limits) (xs : List HeadEvent) (before after : List ScoreOutput) (o : ScoreOutput)
    → concat_of (score_outputs texts limits xs) ≡ before ++ o ∷ after → is_last o ≡ true → after ≡ []
nothing_follows texts limits xs before after o = nothing_after (concat_of (score_outputs texts limits xs)) before after o (score_ends texts limits xs)
