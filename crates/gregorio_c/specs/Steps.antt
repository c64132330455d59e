-- What the steps of a run in pieces do: of the state before it each makes bytes of the output, of
-- the messages and of the state after it.
use Rattle.std.specs.Prelude.{◌≡◌, ◌≢◌, ℕ, List, [], ◌++◌, Option, None}
use Rattle.gabc_places.specs.declared.code.Fault.{Fault}
use Rattle.gabc_places.specs.declared.limits.Limits.{Limits}
use Rattle.gregorio_jobs.specs.declared.job.Input.TheVariants.{Stdin}
use Rattle.gregorio_jobs.specs.declared.job.Job.{Job}
use Rattle.gregorio_jobs.specs.declared.job.Output.TheVariants.{Stdout}
use Rattle.gregorio_jobs.specs.declared.job.Status.{Status}
use Rattle.gregorio_jobs.specs.Status.{code_of}
use Rattle.gregorio.specs.declared.source_ending.SourceEnding.{SourceEnding}
use Rattle.gregorio.specs.declared.source_ending.SourceEnding.TheVariants.{Broken}
use Rattle.gregorio.specs.Engine.{EndsByInput, IsPrompt}
use Rattle.gregorio.specs.Outcome.{outcome_of}
use Rattle.gregorio.specs.Streams.{Streams, after_bytes, streams_of_outcome}
use Rattle.gregorio.specs.witness.StandsFor.{StandsFor}
use Rattle.gregorio_c.specs.declared.request.Request.{Request}

-- the job of a request: messages call the input `<stdin>`
abbrev pub job_of : Request → Job
job_of request = record { format = request.format; input = Stdin; output = Stdout; messages = None; all_warnings = request.all_warnings }

-- the texts written of an input, whatever it is and however it ends
abbrev pub Writes : Type 0
Writes = SourceEnding → List ℕ → Streams

-- the texts that a run of this job writes
abbrev pub run_of : Job → Limits → Writes
run_of job limits ending bytes = streams_of_outcome job (outcome_of limits ending bytes)

-- The result of a step: bytes of the output and of the messages, the state after it, which is empty
-- if the run is over, and the number of its answer.
pub record Made : Type 0 where
  pub output : List ℕ
  pub lines : List ℕ
  pub state : List ℕ
  pub number : ℕ

-- the number of a run that goes on
abbrev pub goes_on : ℕ
goes_on = 6

-- A run is over by its input, with this status, and no state is left.
pub record IsOver (made : Made) (status : Status) : Type 0 where
  pub number : made.number ≡ code_of status
  pub by_input : EndsByInput status
  pub no_state : made.state ≡ []

-- what was made is the last that is written, of a run that this fault stopped, if one did
abbrev pub last_of : Made → Status → Option Fault → Streams
last_of made status fault = record { output = made.output; messages = made.lines; status = status; fault = fault }

-- ---- the steps

-- The first step makes a state that stands for the whole run.
pub record Begins (job : Job) (limits : Limits) (made : Made) : Type 0 where
  pub number : made.number ≡ goes_on
  pub output : made.output ≡ []
  pub lines : made.lines ≡ []
  pub stands : StandsFor job limits made.state (run_of job limits)

-- Of what was left, these bytes were written at a piece. What was known is written, but for the
-- pending syllable, and the state stands for the rest.
pub record GoesOn (job : Job) (limits : Limits) (left : Writes) (piece : List ℕ) (made : Made) : Type 0 where
  pub rest : Writes
  pub stands : StandsFor job limits made.state rest
  pub law : (ending : SourceEnding) (more : List ℕ) → left ending (piece ++ more) ≡ after_bytes made.output made.lines (rest ending more)
  pub prompt : IsPrompt job.format (rest Broken [])

-- A fault in a piece stopped the run, whatever follows.
pub record IsStopped (left : Writes) (piece : List ℕ) (made : Made) : Type 0 where
  pub status : Status
  pub fault : Option Fault
  pub over : IsOver made status
  pub law : (ending : SourceEnding) (more : List ℕ) → left ending (piece ++ more) ≡ last_of made status fault

-- The state before stands for something, and of that a piece was written.
pub record Feeds (job : Job) (limits : Limits) (before piece : List ℕ) (made : Made) : Type 0 where
  pub left : Writes
  pub stood : StandsFor job limits before left
  pub on : made.number ≡ goes_on → (left : Writes) → StandsFor job limits before left → GoesOn job limits left piece made
  pub over : made.number ≢ goes_on → (left : Writes) → StandsFor job limits before left → IsStopped left piece made

-- The state before stands for something, and what was left of that at such an end of the input was
-- written.
pub record Ends (job : Job) (limits : Limits) (ending : SourceEnding) (before : List ℕ) (made : Made) : Type 0 where
  pub left : Writes
  pub stood : StandsFor job limits before left
  pub status : Status
  pub fault : Option Fault
  pub over : IsOver made status
  pub law : (left : Writes) → StandsFor job limits before left → left ending [] ≡ last_of made status fault
