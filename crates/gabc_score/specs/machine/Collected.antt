-- The outputs of a stage over a score, collected.
use Rattle.std.specs.Prelude.{◌≡◌, ◌≤◌, ◌+◌, ℕ, map, length, List, [], ◌∷◌, ◌++◌, Option, Some, None}
use Rattle.std.specs.Str.{chars}
use Rattle.gabc_places.specs.declared.code.Fault.{Fault}
use Rattle.gabc_places.specs.declared.code.Finding.{Finding}
use Rattle.gabc_places.specs.declared.place.Char.{Char}
use Rattle.gabc_places.specs.declared.place.Place.{Place}
use Rattle.gabc_places.specs.Place.{placed_characters_from}
use Rattle.gabc_headers.specs.declared.head_event.HeadEvent.{HeadEvent}
use Rattle.gabc_headers.specs.declared.head_event.HeadEvent.TheVariants as head_event
use Rattle.gabc_body.specs.declared.body_result.BodyResult.{BodyResult}
use Rattle.gabc_score.specs.declared.score_event.BorrowedSyllable.TheVariants.{First, Second}
use Rattle.gabc_score.specs.declared.score_event.ScoreEvent.{ScoreEvent}
use Rattle.gabc_score.specs.declared.score_event.ScoreEvent.TheVariants as event
use Rattle.gabc_places.specs.BoundedList.{BoundedList}
use Rattle.gabc_places.specs.StageLaw.{concat_of}
use Rattle.gabc_body.specs.declared.ending.InputEnding.{InputEnding}
use Rattle.gabc_body.specs.ScoreEvents.{ScoreOutput, Syllable, findings_in, syllables_in, fault_in, ending_events}
use Rattle.gabc_score.specs.ScoreStage.{GivesOutputs}
use Rattle.gabc_score.specs.witness.ScoreStage.{ScoreStageState, left_of}
use Rattle.gabc_body.specs.Syllable.{PlacedSyllable}

-- the first fault counts
abbrev pub fault_then : Option Fault → Option Fault → Option Fault
fault_then (Some fault) later = Some fault
fault_then None later = later

-- a result with these outputs after it
abbrev pub result_with : BodyResult → List ScoreOutput → BodyResult
result_with r outputs = record { syllables = r.syllables ++ syllables_in outputs; findings = r.findings ++ findings_in outputs; fault = fault_then r.fault (fault_in outputs) }

-- a result with these events after it, if these two syllables are borrowed
module _ (first second : PlacedSyllable) where
  abbrev pub result_past : BodyResult → ScoreEvent → BodyResult
  result_past r (event.Found f) = record r { findings = r.findings ++ f ∷ [] }
  result_past r (event.Stop fault) = record r { fault = fault_then r.fault (Some fault) }
  result_past r (event.Syllable First) = record r { syllables = r.syllables ++ first ∷ [] }
  result_past r (event.Syllable Second) = record r { syllables = r.syllables ++ second ∷ [] }
  result_past r event.End = r

  abbrev pub result_past_all : BodyResult → List ScoreEvent → BodyResult
  result_past_all r [] = r
  result_past_all r (e ∷ es) = result_past_all (result_past r e) es

-- The result so far is `r`: a taker, which was `first` before, took its syllables.
pub record IsSaid {Taker : Type 0} (given_by : Taker → List PlacedSyllable → Taker) (first now : Taker) (findings : List Finding) (fault : Option Fault) (r : BodyResult) : Type 0 where
  pub taken : now ≡ given_by first r.syllables
  pub findings_are : findings ≡ r.findings
  pub fault_is : fault ≡ r.fault

-- The result so far, with the outputs `left` after it, is `all`.
pub record WillSay {Taker : Type 0} (given_by : Taker → List PlacedSyllable → Taker) (first now : Taker) (findings : List Finding) (fault : Option Fault) (left : List ScoreOutput) (all : BodyResult) : Type 0 where
  pub so_far : BodyResult
  pub said : IsSaid given_by first now findings fault so_far
  pub is : result_with so_far left ≡ all

-- the inputs of these characters, and of their ending
abbrev pub to_come : InputEnding → List Char → List HeadEvent
to_come ending xs = map (λ x. head_event.Body x) xs ++ ending_events ending

-- The characters of `text` before `rest`, the first of them at `at`, emit these syllables, which a
-- taker took, and nothing else. The outputs of `rest`, from `next` on, come after them.
pub record PassesRun {Taker : Type 0} (given_by : Taker → List PlacedSyllable → Taker) (before : ScoreStageState) (at : Place) (text : List ℕ) (after : ScoreStageState) (next : Place) (rest : List ℕ) (old new : Taker) : Type 0 where
  pub syllables : List PlacedSyllable
  pub taken : new ≡ given_by old syllables
  pub law : (ending : InputEnding) →
      concat_of (left_of before (to_come ending (placed_characters_from at (chars text))))
      ≡ map (λ (s : PlacedSyllable). Syllable s) syllables ++ concat_of (left_of after (to_come ending (placed_characters_from next (chars rest))))
  pub line : next.line + length rest ≤ at.line + length text
  pub column : next.column + length rest ≤ at.column + length text
  pub shorter : length rest ≤ length text

-- for this ending of the input the stage has these outputs left, and they are emitted
pub record EndsAs (before : ScoreStageState) (ending : InputEnding) (old new : BoundedList ScoreEvent) (first second : PlacedSyllable) : Type 0 where
  pub outputs : List ScoreOutput
  pub law : concat_of (left_of before (ending_events ending)) ≡ outputs
  pub emitted : GivesOutputs outputs old new first second
