-- The use that the parts of a run make of its source and its sinks.
use Rattle.std.specs.Prelude.{◌≡◌, ℕ, ◌+◌, ◌≤◌, List, [], ◌++◌, length, take, ◌⊎◌}
use Rattle.std.specs.Io.KnownBytes.{Appends, Consumes}
use Rattle.gabc_places.specs.Calls.{GoesOn, NoneLate}
use Rattle.gabc_places.specs.declared.limits.Limits.{Limits}
use Rattle.gregorio.specs.declared.source_ending.SourceEnding.{SourceEnding}
use Rattle.gregorio.specs.declared.source_ending.SourceEnding.TheVariants.{Broken}
use Rattle.gregorio.specs.witness.Engine.{EngineState, streams_left}
use Rattle.gregorio.specs.Engine.{IsPrompt}
use Rattle.gregorio.specs.Streams.{Streams, after_bytes, streams_of_outcome}
use Rattle.gregorio.specs.Outcome.{outcome_of}
use Rattle.gregorio.specs.Run.{IsPointOf, OneFails, Use}
use Rattle.gregorio.specs.SourceBytes.{ReadsSource}
use Rattle.gregorio_jobs.specs.declared.job.Job.{Job}

-- Both sinks took all of these bytes, and did not fail.
pub record AreSent (out messages : Use) (output lines : List ℕ) : Type 0 where
  pub written : Appends out.old out.new output
  pub messages_written : Appends messages.old messages.new lines
  pub goes_on : GoesOn out.calls_old out.calls_new
  pub messages_go_on : GoesOn messages.calls_old messages.calls_new

-- These numbers of bytes of both streams were written: at some point no fewer than the output so
-- far, and no more than the messages so far.
pub record AreInOrder (IsPoint : List ℕ → List ℕ → Type 0) (output_count lines_count : ℕ) : Type 0 where
  pub output : List ℕ
  pub lines : List ℕ
  pub is_point : IsPoint output lines
  pub output_first : length output ≤ output_count
  pub lines_then : lines_count ≤ length lines

-- A sink failed: each took a prefix of its bytes, at some point all the output so far and no more
-- messages.
pub record AreCut (IsPoint : List ℕ → List ℕ → Type 0) (out messages : Use) (output lines : List ℕ) : Type 0 where
  pub output_count : ℕ
  pub lines_count : ℕ
  pub output_within : output_count ≤ length output
  pub lines_within : lines_count ≤ length lines
  pub written : Appends out.old out.new (take output_count output)
  pub messages_written : Appends messages.old messages.new (take lines_count lines)
  pub fails : OneFails out messages
  pub order : AreInOrder IsPoint output_count lines_count

-- the points of one sending: nothing, and all of it
abbrev pub NoneOrAll : List ℕ → List ℕ → List ℕ → List ℕ → Type 0
NoneOrAll output lines o l = ((o ≡ []) × (l ≡ [])) ⊎ ((o ≡ output) × (l ≡ lines))

-- At some point of these bytes an engine has written this, and is prompt.
pub record Knows (old : EngineState) (bytes : List ℕ) (ending : SourceEnding) (output lines : List ℕ) : Type 0 where
  pub front : List ℕ
  pub at : SourceEnding
  pub is_point : IsPointOf bytes ending front at
  pub left : Streams
  pub known : streams_left old at front ≡ after_bytes output lines left
  pub prompt : IsPrompt old.written.format left

-- A sink failed: each took a prefix of what an engine writes of these bytes, in order.
abbrev pub StreamsAreCut : Use → Use → EngineState → SourceEnding → List ℕ → Type 0
StreamsAreCut out messages old ending bytes = AreCut (Knows old bytes ending) out messages (streams_left old ending bytes).output (streams_left old ending bytes).messages

-- The engine `new` is prompt, and writes in the same format as `old`.
pub record IsPromptAs (old new : EngineState) : Type 0 where
  pub format : new.written.format ≡ old.written.format
  pub prompt : IsPrompt old.written.format (streams_left new Broken [])

-- An engine took these bytes, and what it wrote of them was sent.
pub record IsFed (out messages : Use) (old new : EngineState) (bytes : List ℕ) : Type 0 where
  pub output : List ℕ
  pub lines : List ℕ
  pub sent : AreSent out messages output lines
  pub prompt : IsPromptAs old new
  pub law : (rest : List ℕ) (ending : SourceEnding) → streams_left old ending (bytes ++ rest) ≡ after_bytes output lines (streams_left new ending rest)

-- Of a source `count` bytes were taken without a failure, and an engine took them.
pub record IsFedFrom (source out messages : Use) (old new : EngineState) (count : ℕ) : Type 0 where
  pub bytes : List ℕ
  pub counted : length bytes ≡ count
  pub reads : source.calls_new.made ≤ source.calls_old.made + count
  pub consumed : Consumes source.old source.new bytes
  pub goes_on : GoesOn source.calls_old source.calls_new
  pub fed : IsFed out messages old new bytes

-- A source was read as far as the limit allows, and ended so. No call of it was late, and an engine
-- took its bytes.
pub record IsFedAll (limit : ℕ) (source out messages : Use) (old new : EngineState) (ending : SourceEnding) : Type 0 where
  pub bytes : List ℕ
  pub reads : ReadsSource source.old source.new source.calls_old source.calls_new limit bytes ending
  pub in_time : NoneLate source.calls_old source.calls_new
  pub fed : IsFed out messages old new bytes

-- A sink failed when these bytes of a source were taken.
pub record IsFedInPart (limit : ℕ) (source out messages : Use) (old : EngineState) : Type 0 where
  pub bytes : List ℕ
  pub consumed : Consumes source.old source.new bytes
  pub goes_on : GoesOn source.calls_old source.calls_new
  pub reads : source.calls_new.made ≤ source.calls_old.made + length bytes
  pub within : length bytes ≤ limit + 1
  pub cut : StreamsAreCut out messages old Broken bytes

-- What an engine writes of every input is the outcome for this job.
pub record SaysOutcomes (job : Job) (limits : Limits) (e : EngineState) : Type 0 where
  pub format : e.written.format ≡ job.format
  pub all : (bytes : List ℕ) (ending : SourceEnding) → streams_left e ending bytes ≡ streams_of_outcome job (outcome_of limits ending bytes)
