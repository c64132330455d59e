-- A run in pieces: the streams that an engine will still write, and how it will end.
use Rattle.std.specs.Prelude.{◌≡◌, ◌<◌, ◌≤◌, ◌⊎◌, ℕ, List, [], ◌++◌, length, take, Bool, true, false, Option, is_none}
use Rattle.gabc_neumes.specs.InForce.{InForce}
use Rattle.std.specs.List.{All}
use Rattle.gabc_body.specs.Syllable.{PlacedSyllable}
use Rattle.gabc_write.specs.SyllableRead.{IsWrittenAsOne}
use Rattle.gabc_places.specs.declared.code.Fault.{Fault}
use Rattle.gabc_places.specs.declared.limits.Limits.{Limits}
use Rattle.gregorio_jobs.specs.declared.job.Format.{Format}
use Rattle.gregorio_jobs.specs.declared.job.Job.{Job}
use Rattle.gregorio_jobs.specs.declared.job.Status.{Status}
use Rattle.gregorio_jobs.specs.declared.job.Status.TheVariants.{Whole, Errors, Fatal, ReadFault, WriteFault, NoMemory}
use Rattle.gregorio.specs.Outcome.{input_name}
use Rattle.gregorio.specs.Streams.{Streams, after_bytes, ended_with, last_text, texts_after, count_after}
use Rattle.gregorio.specs.declared.source_ending.SourceEnding.{SourceEnding}
use Rattle.gregorio.specs.declared.source_ending.SourceEnding.TheVariants.{Broken}
use Rattle.gregorio.specs.witness.Engine.{EngineState, ceased_ending, fault_of_ending, streams_left}

-- the bytes that wait, and then these
abbrev pub with_waiting : EngineState → Streams → Streams
with_waiting s rest = after_bytes s.output s.messages rest

-- ---- between two calls

pub record NothingWaits (s : EngineState) : Type 0 where
  pub output : s.output ≡ []
  pub messages : s.messages ≡ []

-- The text of at most one syllable, whose position in its word is not known yet, and the text after
-- the syllables of a score that is not whole. Read by itself, the canonical text of this syllable
-- is one.
pub record IsHeldText (format : Format) (output : List ℕ) : Type 0 where
  pub count : ℕ
  pub force : InForce
  pub held : List PlacedSyllable
  pub few : length held ≤ 1
  pub lines : ℕ
  pub macros : ℕ
  pub one : All (λ (s : PlacedSyllable). IsWrittenAsOne lines macros s.made) held
  pub is : output ≡ texts_after format count force held ++ last_text format false (count_after count held)

-- A run that breaks off now has nothing to write that it could have written before: no message, and
-- of the output nothing, or the pending syllable and the last text.
pub record IsPrompt (format : Format) (broken : Streams) : Type 0 where
  pub messages : broken.messages ≡ []
  pub output : (broken.output ≡ []) ⊎ IsHeldText format broken.output

-- It runs this job under these limits.
pub record RunsJob (job : Job) (limits : Limits) (s : EngineState) : Type 0 where
  pub limits_are : s.score.limits ≡ limits
  pub format : s.written.format ≡ job.format
  pub name : s.written.name ≡ input_name job.input
  pub all_warnings : s.written.all_warnings ≡ job.all_warnings

-- it runs the same job as before, under the same limits
abbrev pub StillRuns : EngineState → EngineState → Type 0
StillRuns old new = (job : Job) (limits : Limits) → RunsJob job limits old → RunsJob job limits new

-- no fatal fault, `end` or `broken` has come
abbrev pub is_running : EngineState → Bool
is_running s = is_none s.written.ended

-- the fatal fault that stopped the run, if there is one
abbrev pub fault_of : EngineState → Option Fault
fault_of s = fault_of_ending (ceased_ending s.written.ended)

-- ---- a piece

-- the output and messages of these bytes wait, after those that waited before, and the rest is
-- still to come
abbrev pub Brings : EngineState → List ℕ → EngineState → Type 0
Brings old bytes new =
    (more : List ℕ) (ending : SourceEnding) → with_waiting old (streams_left old ending (bytes ++ more)) ≡ with_waiting new (streams_left new ending more)

-- It took `count` bytes from the front of a piece, at least one if nothing waited. Their output and
-- messages wait, and nothing that is known is kept back but the pending syllable. If the run was
-- over, all bytes are taken and nothing changes; if it is not over, no fault is known.
pub record TakesFront (old : EngineState) (piece : List ℕ) (count : ℕ) (new : EngineState) : Type 0 where
  pub within : count ≤ length piece
  pub some : NothingWaits old → 0 < length piece → 0 < count
  pub brings : Brings old (take count piece) new
  pub job : StillRuns old new
  pub format : new.written.format ≡ old.written.format
  pub over : is_running old ≡ false → (count ≡ length piece) × (new ≡ old)
  pub running : is_running new ≡ true → (streams_left new Broken []).status ≡ ReadFault
  pub prompt : IsPrompt new.written.format (streams_left new Broken [])

-- How a run can end by its input: it was read to its end, a fault stopped it, or its source failed.
abbrev pub EndsByInput : Status → Type 0
EndsByInput Whole = Unit {0}
EndsByInput Errors = Unit {0}
EndsByInput Fatal = Unit {0}
EndsByInput ReadFault = Unit {0}
EndsByInput WriteFault = ⊥
EndsByInput NoMemory = ⊥

-- ---- the end

-- The run is over, and ended with this status: so it stays, whatever comes. The last bytes of the
-- run wait. Over already, it is as it was.
pub record IsEnded (old : EngineState) (ending : SourceEnding) (status : Status) (new : EngineState) : Type 0 where
  pub law : streams_left old ending [] ≡ with_waiting new (ended_with status (fault_of new))
  pub last : (bytes : List ℕ) (later : SourceEnding) → streams_left new later bytes ≡ ended_with status (fault_of new)
  pub over : is_running new ≡ false
  pub job : StillRuns old new
  pub again : is_running old ≡ false → new ≡ old
  pub hasher : new.heads.hasher ≡ old.heads.hasher

-- All that was to be written of these bytes, the rest of an input that ends so, was put, and
-- nothing waits. The run is over, and stays as it ended.
pub record IsRunOver {Out Messages : Type 0} (put : Out → List ℕ → Out) (tell : Messages → List ℕ → Messages) (old : EngineState) (ending : SourceEnding) (bytes : List ℕ)
    (out_old out_new : Out) (messages_old messages_new : Messages) (status : Status) (new : EngineState) : Type 0 where
  pub out : out_new ≡ put out_old (streams_left old ending bytes).output
  pub messages : messages_new ≡ tell messages_old (streams_left old ending bytes).messages
  pub ends : status ≡ (streams_left old ending bytes).status
  pub fault : fault_of new ≡ (streams_left old ending bytes).fault
  pub job : StillRuns old new
  pub waits : NothingWaits new
  pub over : is_running new ≡ false
  pub last : (more : List ℕ) (later : SourceEnding) → streams_left new later more ≡ ended_with status (fault_of new)
  pub hasher : new.heads.hasher ≡ old.heads.hasher
