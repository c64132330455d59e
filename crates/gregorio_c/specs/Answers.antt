-- The answers of calls.
use Rattle.std.specs.Prelude.{◌≡◌, ℕ, ◌<◌, ◌≤◌, ◌++◌, List, length, drop, Bool, codes}
use Rattle.gabc_places.specs.declared.limits.Limits.{Limits}
use Rattle.gabc_places.specs.Limits.{AreUsual}
use Rattle.gregorio_jobs.specs.Status.{code_of}
use Rattle.gregorio.specs.declared.outcome.Outcome.{Outcome}
use Rattle.gregorio.specs.declared.source_ending.SourceEnding.TheVariants.{Whole}
use Rattle.gregorio.specs.Outcome.{outcome_of, output_of, lines_of, status_of}
use Rattle.gregorio_c.specs.Messages.{messages_by}
use Rattle.gregorio_c.specs.declared.lengths.Lengths.{Lengths}
use Rattle.gregorio_c.specs.declared.message.Message.{Message}
use Rattle.gregorio_c.specs.declared.request.Request.{Request}

-- the name of the score in messages
abbrev pub stdin_name : List ℕ
stdin_name = codes "<stdin>"

-- the exit status of a run with this outcome
abbrev pub status_number : Outcome → ℕ
status_number outcome = code_of (status_of outcome)

-- A text is at the head of a buffer, if there is room for all of it; else the buffer is as it was.
pub record IsPut {X : Type 0} (text old new : List X) : Type 0 where
  pub fits : length text ≤ length old → new ≡ text ++ drop (length text) old
  pub full : length old < length text → new ≡ old

-- The outcome is that of a whole score under the default limits.
pub record IsOutcomeOf (score : List ℕ) (outcome : Outcome) : Type 0 where
  pub limits : Limits
  pub usual : AreUsual limits.header limits.syllable limits.input
  pub is : outcome ≡ outcome_of limits Whole score

-- The output and the lines of the messages are in their buffers, and their lengths and the status
-- are reported.
pub record Answer (request : Request) (score output_old output_new messages_old messages_new : List ℕ) (lengths : Lengths) (status : ℕ) : Type 0 where
  pub outcome : Outcome
  pub of : IsOutcomeOf score outcome
  pub output : IsPut (output_of request.format outcome) output_old output_new
  pub output_length : lengths.output ≡ length (output_of request.format outcome)
  pub messages : IsPut (lines_of stdin_name request.all_warnings outcome.score) messages_old messages_new
  pub messages_length : lengths.messages ≡ length (lines_of stdin_name request.all_warnings outcome.score)
  pub ends : status ≡ status_number outcome

-- The messages are in their buffer, and their number and the status are reported.
pub record MessagesAnswer (all_warnings : Bool) (score : List ℕ) (old new : List Message) (count status : ℕ) : Type 0 where
  pub outcome : Outcome
  pub of : IsOutcomeOf score outcome
  pub messages : IsPut (messages_by all_warnings outcome.score) old new
  pub counted : count ≡ length (messages_by all_warnings outcome.score)
  pub ends : status ≡ status_number outcome
