-- The results of private calls on an engine, for the steps of a run in pieces.
use Rattle.std.specs.Prelude.{◌≡◌, ◌≢◌, ℕ, ◌≤◌, ◌⊎◌, List, [], ◌++◌, Option}
use Rattle.gabc_places.specs.declared.code.Fault.{Fault}
use Rattle.gabc_places.specs.declared.limits.Limits.{Limits}
use Rattle.gregorio_jobs.specs.declared.job.Job.{Job}
use Rattle.gregorio_jobs.specs.declared.job.Status.{Status}
use Rattle.gregorio.specs.declared.source_ending.SourceEnding.{SourceEnding}
use Rattle.gregorio.specs.Streams.{after_bytes}
use Rattle.gregorio.specs.witness.Engine.{EngineState, streams_left}
use Rattle.gregorio.specs.witness.StandsFor.{StandsFor}
use Rattle.gregorio_c.specs.declared.steps.Refusal.{Refusal}
use Rattle.gregorio_c.specs.declared.steps.Refusal.TheVariants.{NoMemory, NoState, OtherState}
use Rattle.gregorio_c.specs.Steps.{GoesOn, IsOver, IsStopped, Made, Writes, goes_on, last_of}

-- These bytes of the output and of the messages were written at a piece.
abbrev pub Gathers : EngineState → List ℕ → List ℕ → List ℕ → EngineState → Type 0
Gathers old piece output lines new =
    (ending : SourceEnding) (more : List ℕ) → streams_left old ending (piece ++ more) ≡ after_bytes output lines (streams_left new ending more)

-- Bytes stand for `left`, and for nothing else.
pub record StandsAlone (job : Job) (limits : Limits) (bytes : List ℕ) (left : Writes) : Type 0 where
  pub stands : StandsFor job limits bytes left
  pub alone : (other : Writes) → StandsFor job limits bytes other → (ending : SourceEnding) (more : List ℕ) → left ending more ≡ other ending more

-- the result of a step that feeds a piece
pub record FedAs (job : Job) (limits : Limits) (left : Writes) (piece : List ℕ) (made : Made) : Type 0 where
  pub on : made.number ≡ goes_on → GoesOn job limits left piece made
  pub over : made.number ≢ goes_on → IsStopped left piece made

-- the result of a step at the end of an input
pub record EndedAs (ending : SourceEnding) (left : Writes) (made : Made) : Type 0 where
  pub status : Status
  pub fault : Option Fault
  pub over : IsOver made status
  pub law : left ending [] ≡ last_of made status fault

-- the number of the answer to a step that is refused
abbrev pub number_of : Refusal → ℕ
number_of NoMemory = 5
number_of NoState = 8
number_of OtherState = 9

-- the number of an answer with which no output and no messages are written
abbrev pub WritesNothing : ℕ → Type 0
WritesNothing number = (number ≡ 3) ⊎ ((number ≡ 5) ⊎ (7 ≤ number))
