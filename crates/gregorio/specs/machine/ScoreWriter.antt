-- A writer of scores, by the events of a stage of headers.
use Rattle.std.specs.Prelude.{Bool, false, true, Some, None, IsSome, ◌≡◌, ℕ, ◌+◌, ◌*◌, ◌≤◌, List, [], ◌∷◌, length, map, encode_utf8_all, if◌then◌else◌}
use Rattle.gabc_places.specs.BoundedList.{BoundedList, extended_by}
use Rattle.gabc_places.specs.declared.limits.Limits.{Limits}
use Rattle.gabc_places.specs.declared.place.Place.{Place}
use Rattle.gabc_headers.specs.Canonical.{canonical_heads}
use Rattle.gabc_headers.specs.declared.head_event.HeadEvent.{HeadEvent}
use Rattle.gabc_headers.specs.declared.head_event.HeadEvent.TheVariants as head_event
use Rattle.gabc_score.specs.declared.score_event.ScoreEvent.{ScoreEvent}
use Rattle.gabc_score.specs.declared.score_event.ScoreEvent.TheVariants as event
use Rattle.gabc_neumes.specs.InForce.{nothing_in_force}
use Rattle.gabc_headers.specs.witness.HeadEvents.{HeadProgress, events_of_end}
use Rattle.gabc_score.specs.declared.score_machine.ScorePart.{ScorePart}
use Rattle.gabc_score.specs.declared.score_machine.ScorePart.TheVariants as score_part
use Rattle.gabc_score.specs.GivesSyllables.{Runs}
use Rattle.gabc_body.specs.ScoreEvents.{ScoreOutput, Found, Stop, Syllable, End}
use Rattle.gabc_score.specs.ScoreStage.{is_final, borrowed_in}
use Rattle.gabc_places.specs.StageLaw.{concat_of}
use Rattle.gabc_score.specs.witness.ScoreStage.{ScoreStageState, left_of}
use Rattle.gregorio.specs.Outcome.{input_name}
use Rattle.gregorio_jobs.specs.declared.job.Job.{Job}
use Rattle.gregorio.specs.declared.run_ending.RunEnding.{RunEnding}
use Rattle.gregorio.specs.Streams.{Streams, after_bytes}
use Rattle.gregorio.specs.witness.Engine.{Written, ended_by, streams_from}
use Rattle.gregorio.specs.machine.ClefInForce.{HasClefOfSounds}
use Rattle.gregorio.specs.machine.RunWriter.{RunWriterState, past_syllables, line_room, syllable_room, room_without_notes, heads_room, last_room, most_waiting, out_room}
use Rattle.gregorio_jobs.specs.declared.job.Format.{Format}

pub record ScoreWriterState : Type 0 where
  pub score : ScoreStageState
  pub writer : RunWriterState

-- the output of an event, if its syllable is borrowed from this stage
abbrev pub output_of_event : ScoreStageState → ScoreEvent → ScoreOutput
output_of_event s (event.Found f) = Found f
output_of_event s (event.Stop fault) = Stop fault
output_of_event s (event.Syllable lent) = Syllable (borrowed_in lent s)
output_of_event s event.End = End

abbrev pub outputs_of_events : ScoreStageState → List ScoreEvent → List ScoreOutput
outputs_of_events s events = map (output_of_event s) events

-- the streams left, if these events come and the headers are this book
abbrev pub streams_of : ScoreWriterState → List (List ℕ × List ℕ) → List HeadEvent → Streams
streams_of s book from_heads = streams_from s.writer.written book from_heads (left_of s.score from_heads)

-- ---- a call

-- if the headers are whole, the book is the one that was read
abbrev pub IsBookAt : HeadEvent → List (List ℕ × List ℕ) → List (List ℕ × List ℕ) → Type 0
IsBookAt (head_event.Heads lines macros canonical) book read = book ≡ read
IsBookAt _ book read = Unit {0}

-- For an event it wrote the streams that it brings, and what it writes of the events after it comes
-- next. `read` is the book that was read.
pub record WritesAt (old : ScoreWriterState) (x : HeadEvent) (read : List (List ℕ × List ℕ)) (new : ScoreWriterState) : Type 0 where
  pub output : List ℕ
  pub lines : List ℕ
  pub out : new.writer.out ≡ extended_by old.writer.out output
  pub messages : new.writer.messages ≡ extended_by old.writer.messages lines
  pub law : (book : List (List ℕ × List ℕ)) (from_heads : List HeadEvent) → IsBookAt x book read → streams_of old book (x ∷ from_heads) ≡ after_bytes output lines (streams_of new book from_heads)

-- For these characters, the first of which is at this place, it wrote syllables and nothing else,
-- and it continues with the events after them.
abbrev pub WritesRun : ScoreWriterState → Place → List ℕ → ScoreWriterState → Type 0
WritesRun old at t new = Runs past_syllables old.score at t new.score old.writer new.writer

-- At the end of the events it wrote the streams that were left.
pub record WritesLast (old new : ScoreWriterState) (how : RunEnding) : Type 0 where
  pub output : List ℕ
  pub lines : List ℕ
  pub out : new.writer.out ≡ extended_by old.writer.out output
  pub messages : new.writer.messages ≡ extended_by old.writer.messages lines
  pub law : (book : List (List ℕ × List ℕ)) → streams_of old book [] ≡ after_bytes output lines (ended_by how)

-- whatever comes, a stage emits nothing more
abbrev pub IsSilent : ScoreStageState → Type 0
IsSilent s = (xs : List HeadEvent) → concat_of (left_of s xs) ≡ []

-- The run is over, and ended so.
pub record IsOver (written : Written) (score : ScoreStageState) (how : RunEnding) : Type 0 where
  pub ended : written.ended ≡ Some how
  pub silent : IsSilent score

-- Between two calls there is room for the events of one, and if the run is over, the stage emits
-- nothing.
pub record IsScoreWriter (score : ScoreStageState) (events : BoundedList ScoreEvent) (writer : RunWriterState) : Type 0 where
  pub room : 16 ≤ events.limit
  pub silent : IsSome writer.written.ended → IsSilent score
  pub clef : HasClefOfSounds score writer.written

-- no call changes these: the limits, the format, the name and whether warnings are reported, and
-- the capacities of the rooms
pub record KeepsJobAndRooms (old new : ScoreWriterState) : Type 0 where
  pub limits : new.score.limits ≡ old.score.limits
  pub format : new.writer.written.format ≡ old.writer.written.format
  pub name : new.writer.written.name ≡ old.writer.written.name
  pub all_warnings : new.writer.written.all_warnings ≡ old.writer.written.all_warnings
  pub out : new.writer.out.limit ≡ old.writer.out.limit
  pub messages : new.writer.messages.limit ≡ old.writer.messages.limit

-- ---- room

-- canonical headers within the limit
abbrev pub IsShortBook : Limits → List (List ℕ × List ℕ) → Type 0
IsShortBook limits book = length (encode_utf8_all (canonical_heads book)) ≤ limits.header + 2

-- the most bytes of the output that an event brings
abbrev pub event_room : Format → ℕ → HeadEvent → ℕ
event_room format limit (head_event.Body x) = syllable_room format limit + last_room
event_room format limit (head_event.Stop fault) = syllable_room format limit + last_room
event_room format limit head_event.End = syllable_room format limit + room_without_notes format limit + last_room
event_room format limit (head_event.Found f) = last_room
event_room format limit (head_event.Heads lines macros canonical) = last_room

-- the most bytes that these events bring, and their end if nothing comes after them: after a stop
-- or the end nothing is written
abbrev pub events_room : Format → ℕ → Bool → List HeadEvent → ℕ
events_room format limit ends [] = if ends then syllable_room format limit + last_room else 0
events_room format limit ends (x ∷ events) = event_room format limit x + (if is_final x then 0 else events_room format limit ends events)

-- the room that is needed in this part of the score
abbrev pub needed_in : ScorePart → ℕ → ℕ
needed_in score_part.Heads room = room
needed_in score_part.Body room = room
needed_in score_part.Over room = 0

-- until the headers are written, room is kept for them
abbrev pub heads_left : Written → ℕ → ℕ
heads_left w limit = if w.headed then 0 else heads_room w.format limit

-- There is room for what these events bring, and if nothing comes after them, for what their end
-- brings.
pub record FitsEvents (s : ScoreWriterState) (ends : Bool) (events : List HeadEvent) : Type 0 where
  pub lines : length s.writer.messages.items + (length events + 1) * (16 * line_room s.writer.written.name) ≤ s.writer.messages.limit
  pub texts : length s.writer.out.items + (heads_left s.writer.written s.score.limits.header + needed_in s.score.part (events_room s.writer.written.format s.score.limits.syllable ends events) + last_room) ≤ s.writer.out.limit

-- There is room for what the end of the input brings, whatever was read of the headers.
abbrev pub FitsEnd : ScoreWriterState → Type 0
FitsEnd s = (limits : Limits) (progress : HeadProgress) → FitsEvents s true (events_of_end limits progress)

-- the rooms of a writer are large enough for what a step brings, and for what may wait before it
pub record IsReserved (s : ScoreWriterState) : Type 0 where
  pub out : out_room s.writer.written.format s.score.limits + most_waiting s.score.limits ≤ s.writer.out.limit
  pub messages : 128 * line_room s.writer.written.name + most_waiting s.score.limits ≤ s.writer.messages.limit

-- There is room for what a step brings after what waits: a byte, or the end of the input.
pub record HasRoom (s : ScoreWriterState) : Type 0 where
  pub out : length s.writer.out.items + out_room s.writer.written.format s.score.limits ≤ s.writer.out.limit
  pub messages : length s.writer.messages.items + 128 * line_room s.writer.written.name ≤ s.writer.messages.limit

-- the same, but nothing waits
abbrev pub emptied : ScoreWriterState → ScoreWriterState
emptied s = record s { writer = record s.writer { out = record s.writer.out { items = [] }; messages = record s.writer.messages { items = [] } } }

-- the state before anything is written
abbrev pub begun : Format → List ℕ → Bool → Written
begun format name all_warnings = record { format = format; name = name; all_warnings = all_warnings; headed = false; count = 0; force = nothing_in_force; errors = false; ended = None }

abbrev pub fresh_writer : Job → Written
fresh_writer job = begun job.format (input_name job.input) job.all_warnings

-- the state of the same job before anything is written
abbrev pub begun_again : Written → Written
begun_again w = begun w.format w.name w.all_warnings
