-- What is collected of a machine over a body is what the body says.
use Rattle.std.proofs.Common.{◌≡◌, ℕ, ◌+◌, ◌-◌, ◌<◌, ◌^◌, List, [], ◌∷◌, ◌++◌, length, None, ap, ◌∙◌, arith, append-nil}
use Rattle.gabc_places.specs.StageLaw.{concat_of}
use Rattle.gabc_places.specs.Place.{next_place, is_line_feed, place_past, placed_characters_from}
use Rattle.gabc_places.specs.declared.code.Finding.{Finding}
use Rattle.gabc_places.specs.declared.limits.Limits.{Limits}
use Rattle.gabc_places.specs.declared.place.Place.{Place}
use Rattle.gabc_headers.specs.declared.head_event.HeadEvent.{HeadEvent}
use Rattle.gabc_body.specs.declared.body_result.BodyResult.{BodyResult}
use Rattle.gabc_body.specs.declared.ending.InputEnding.{InputEnding}
use Rattle.gabc_body.specs.declared.ending.InputEnding.TheVariants.{Whole}
use Rattle.gabc_body.specs.declared.events.BodyEvent.{BodyEvent}
use Rattle.gabc_body.specs.Body.{body_of}
use Rattle.gabc_body.specs.NoteBeforeClef.{with_first_each}
use Rattle.gabc_body.specs.ScoreEvents.{ScoreOutput, characters_in}
use Rattle.gabc_score.specs.ScoreStage.{AreCountsBelow}
use Rattle.gabc_score.specs.machine.Collected.{result_with, to_come}
use Rattle.gabc_score.specs.machine.ScoreStage.{begun_score, body_left}
use Rattle.gabc_body.proofs.score_events.BodyOutputs.{Says, body_says}
use Rattle.gabc_body.proofs.gathering.FirstNotes.{first_each}
use Rattle.gabc_score.proofs.score_events.EmittedScoreMeetsDefinition.{left_is, holds_nothing}
use Rattle.gabc_score.specs.witness.BodyStage.{BodyStageState, running_events_left}
use Rattle.gabc_body.proofs.score_events.ScoreOutputs.{characters_are, ends_past}
use Rattle.std.proofs.lemmas.Bool.{cond_both}

-- nothing but what was found in the headers
abbrev pub nothing_said : List Finding → BodyResult
nothing_said found = record { syllables = []; findings = found; fault = None }

-- ---- counts

pub counts_below : (ending : InputEnding) (at : Place) (cs : List ℕ) → at.line + length cs < 2 ^ 64 → at.column + length cs < 2 ^ 64 → AreCountsBelow (to_come ending (placed_characters_from at cs))
counts_below Whole at [] l c = tt
counts_below ending at (x ∷ cs) l c =
    let b : ((next_place at x).line + length cs < 2 ^ 64) × ((next_place at x).column + length cs < 2 ^ 64) =
    cond_both (is_line_feed x) _ _ (λ (p : Place). (p.line + length cs < 2 ^ 64) × (p.column + length cs < 2 ^ 64)) (λ e. (omega (arith, l), omega (arith, l, c))) (λ e. (omega (arith, l), omega (arith, c))) in
    ((omega (arith, l), omega (arith, c)), counts_below ending (next_place at x) cs b.0 b.1)
counts_below _ at [] l c = tt

-- ---- the whole body

module _ (limits : Limits) (small : limits.syllable < 2 ^ 64 - 1) (low : limits.input < 2 ^ 64 - 1) (head : ℕ) (fits : head < 2 ^ 64) (found : List Finding) where
  says_is : (ending : InputEnding) (outputs : List ScoreOutput) (w : BodyResult) → Says (found ++ []) [] ending outputs w → result_with (nothing_said found) outputs ≡ w
  says_is ending outputs w s = grind (arith, append-nil)

  pub body_collected : (ending : InputEnding) (at : Place) (cs : List ℕ) (lists : List (List BodyEvent)) → length lists ≡ length (placed_characters_from at cs) + 1
      → AreCountsBelow (to_come ending (placed_characters_from at cs))
      → result_with (nothing_said found) (concat_of (body_left limits (begun_score limits at head) lists (to_come ending (placed_characters_from at cs))))
      ≡ body_of limits head found (place_past at cs) ending (placed_characters_from at cs) (with_first_each [] (placed_characters_from at cs) lists)
  body_collected ending at cs lists n below =
      let xs = placed_characters_from at cs in
      rw (holds_nothing limits head small low at fits, left_is limits head small low at [] lists (to_come ending xs) below, characters_are ending xs, ← ends_past at cs)
      (says_is ending _ _ (body_says limits head found ending at [] xs (with_first_each [] xs lists) (first_each [] xs lists n)))

-- what a new machine will say, whatever it is shown as
pub body_said : (limits : Limits) (head : ℕ) → limits.syllable < 2 ^ 64 - 1 → limits.input < 2 ^ 64 - 1 → head < 2 ^ 64 → (found : List Finding) (ending : InputEnding) (at : Place) (cs : List ℕ) (stage : BodyStageState)
    → length (running_events_left stage (placed_characters_from at cs)) ≡ length (placed_characters_from at cs) + 1 → at.line + length cs < 2 ^ 64 → at.column + length cs < 2 ^ 64
    → {left : List HeadEvent → List (List ScoreOutput)} → ((xs : List HeadEvent) → left xs ≡ body_left limits (begun_score limits at head) (running_events_left stage (characters_in xs)) xs)
    → result_with (nothing_said found) (concat_of (left (to_come ending (placed_characters_from at cs))))
    ≡ body_of limits head found (place_past at cs) ending (placed_characters_from at cs) (with_first_each [] (placed_characters_from at cs) (running_events_left stage (placed_characters_from at cs)))
body_said limits head small low fits found ending at cs stage each line column left =
    let xs = placed_characters_from at cs in
    ap (λ lists. result_with (nothing_said found) (concat_of lists)) (left (to_come ending xs) ∙ ap (λ ys. body_left limits (begun_score limits at head) (running_events_left stage ys) (to_come ending xs)) (characters_are ending xs))
    ∙ body_collected limits small low head fits found ending at cs (running_events_left stage xs) each (counts_below ending at cs line column)
