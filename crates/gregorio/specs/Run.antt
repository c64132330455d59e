-- The use that a run makes of its source and its sinks.
use Rattle.std.specs.Prelude.{◌≡◌, ◌≢◌, ℕ, ◌<◌, ◌≤◌, ◌+◌, List, ◌++◌, length, take, Option, ◌⊎◌, true, false}
use Rattle.std.specs.Io.KnownBytes.{Appends, Consumes, IsAtEnd, Keeps}
use Rattle.gabc_places.specs.Calls.{Calls, NoneLate, GoesOn, FailsOnce}
use Rattle.gabc_places.specs.declared.limits.Limits.{Limits}
use Rattle.gregorio.specs.declared.source_ending.SourceEnding.{SourceEnding}
use Rattle.gregorio.specs.declared.source_ending.SourceEnding.TheVariants.{Whole, Broken}
use Rattle.gregorio_jobs.specs.declared.job.Job.{Job}
use Rattle.gregorio_jobs.specs.declared.job.Status.{Status}
use Rattle.gregorio_jobs.specs.declared.job.Status.TheVariants.{NoMemory, ReadFault, WriteFault}
use Rattle.gregorio.specs.Engine.{IsPrompt}
use Rattle.gregorio.specs.Outcome.{outcome_of, output_of, messages_of, status_of}
use Rattle.gregorio.specs.SourceBytes.{ReadsSource}
use Rattle.gregorio.specs.Streams.{Streams, after_bytes, streams_of_outcome}

-- An end before and after a run: its bytes, if they are known, and its calls.
pub record Use : Type 0 where
  pub old : Option (List ℕ)
  pub new : Option (List ℕ)
  pub calls_old : Calls
  pub calls_new : Calls

-- that of an end that was `old` and is `new`
abbrev pub used : {A : Type 0} → (A → Option (List ℕ)) → (A → Calls) → A → A → Use
used bytes calls old new = record { old = bytes old; new = bytes new; calls_old = calls old; calls_new = calls new }

-- the bytes that the source gave, and how it stopped
pub record InputRead (limits : Limits) (source : Use) : Type 0 where
  pub bytes : List ℕ
  pub ending : SourceEnding
  pub reads : ReadsSource source.old source.new source.calls_old source.calls_new limits.input bytes ending

-- The whole output and all messages were written, and the status is theirs.
pub record Done (job : Job) (limits : Limits) (source out messages : Use) (status : Status) : Type 0 where
  pub input : InputRead limits source
  pub written : Appends out.old out.new (output_of job.format (outcome_of limits input.ending input.bytes))
  pub messages_written : Appends messages.old messages.new (messages_of job (outcome_of limits input.ending input.bytes))
  pub ends : status ≡ status_of (outcome_of limits input.ending input.bytes)

-- These bytes were taken of the source, and it stopped so: `Broken` also if it was not read to a
-- stop, and not one byte above the limit.
pub record Taken (limits : Limits) (source : Use) : Type 0 where
  pub bytes : List ℕ
  pub ending : SourceEnding
  pub consumed : Consumes source.old source.new bytes
  pub reads : source.calls_new.made ≤ source.calls_old.made + length bytes + 1
  pub within : length bytes ≤ limits.input + 1
  pub whole : ending ≡ Whole → length bytes ≤ limits.input → IsAtEnd source.new
  pub met : source.calls_old.is_stopped ≡ false → source.calls_new.is_stopped ≡ true → source.calls_new.failures ≡ source.calls_old.failures → ending ≡ Whole
  pub unmet : source.calls_new.is_stopped ≡ false → length bytes ≤ limits.input → ending ≡ Broken
  pub failed : source.calls_old.failures < source.calls_new.failures → ending ≡ Broken

-- One sink failed, once, and the other did not.
abbrev pub OneFails : Use → Use → Type 0
OneFails out messages = (FailsOnce out.calls_old out.calls_new × GoesOn messages.calls_old messages.calls_new) ⊎ (GoesOn out.calls_old out.calls_new × FailsOnce messages.calls_old messages.calls_new)

-- A point of the reading of an input: after a front of it, as if its source failed there, or at its
-- end.
abbrev pub IsPointOf : List ℕ → SourceEnding → List ℕ → SourceEnding → Type 0
IsPointOf bytes ending front at = ((rest : List ℕ) × ((bytes ≡ front ++ rest) × (at ≡ Broken))) ⊎ ((front ≡ bytes) × (at ≡ ending))

-- Up to some point of the input this output and these messages are known, and no others, but for
-- the text of the pending syllable.
pub record IsKnown (job : Job) (limits : Limits) (bytes : List ℕ) (ending : SourceEnding) : Type 0 where
  pub front : List ℕ
  pub at : SourceEnding
  pub is_point : IsPointOf bytes ending front at
  pub output : List ℕ
  pub lines : List ℕ
  pub left : Streams
  pub known : streams_of_outcome job (outcome_of limits at front) ≡ after_bytes output lines left
  pub prompt : IsPrompt job.format left

-- A sink failed: each stream has a prefix of its text, for the bytes that were taken. At some point
-- of the input all output that was known is written, and of the messages no more than were known
-- there: so output is written before messages.
pub record SinkCut (job : Job) (limits : Limits) (source out messages : Use) : Type 0 where
  pub input : Taken limits source
  pub written_count : ℕ
  pub messages_count : ℕ
  pub written : Appends out.old out.new (take written_count (output_of job.format (outcome_of limits input.ending input.bytes)))
  pub messages_written : Appends messages.old messages.new (take messages_count (messages_of job (outcome_of limits input.ending input.bytes)))
  pub fails : OneFails out messages
  pub known : IsKnown job limits input.bytes input.ending
  pub output_first : length known.output ≤ written_count
  pub messages_then : messages_count ≤ length known.lines

-- An end was not touched: it has the same bytes as before, if they are known, and was not called.
pub record IsUntouched (end : Use) : Type 0 where
  pub keeps : Keeps end.old end.new
  pub uncalled : end.calls_new ≡ end.calls_old

-- No end that was not stopped before was called when it was.
abbrev pub InTime : Use → Use → Use → Type 0
InTime source out messages = NoneLate source.calls_old source.calls_new × (NoneLate out.calls_old out.calls_new × NoneLate messages.calls_old messages.calls_new)

-- By how the run ended: there was no memory, and nothing was read or written; a sink failed; or all
-- was written.
abbrev pub Compiles : Job → Limits → Use → Use → Use → Status → Type 0
Compiles job limits source out messages NoMemory = IsUntouched source × (IsUntouched out × IsUntouched messages)
Compiles job limits source out messages WriteFault = SinkCut job limits source out messages
Compiles job limits source out messages status = Done job limits source out messages status

-- A whole run, which called no end too late. It says that the source failed only if that failed,
-- and that a sink failed exactly if one did.
pub record IsRun (job : Job) (limits : Limits) (source out messages : Use) (status : Status) : Type 0 where
  pub compiles : Compiles job limits source out messages status
  pub in_time : InTime source out messages
  pub read_fault : status ≡ ReadFault → source.calls_old.failures < source.calls_new.failures
  pub write_fault : status ≡ WriteFault → (out.calls_old.failures < out.calls_new.failures) ⊎ (messages.calls_old.failures < messages.calls_new.failures)
  pub steady : status ≢ WriteFault → (out.calls_new.failures ≡ out.calls_old.failures) × (messages.calls_new.failures ≡ messages.calls_old.failures)
