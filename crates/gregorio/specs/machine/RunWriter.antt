-- A writer of runs, past the headers and outputs that it takes.
use Rattle.std.specs.Prelude.{◌≡◌, ℕ, ◌+◌, ◌-◌, ◌*◌, ◌^◌, ◌≤◌, min, List, [], ◌∷◌, Bool, true, false, Some, is_none, length, map}
use Rattle.std.specs.List.{All}
use Rattle.gabc_places.specs.BoundedList.{BoundedList, Fits, extended_by}
use Rattle.gabc_headers.specs.declared.head_event.HeadEvent.{HeadEvent}
use Rattle.gabc_score.specs.NoNotes.{has_no_notes}
use Rattle.gabc_body.specs.ScoreEvents.{ScoreOutput, Found, Stop, Syllable, End, syllables_in}
use Rattle.gabc_places.specs.declared.limits.Limits.{Limits}
use Rattle.gabc_score.specs.ScoreStage.{IsWithin}
use Rattle.gabc_body.specs.Syllable.{PlacedSyllable}
use Rattle.gregorio.specs.witness.Engine.{Written, after_heads, after_output, after_outputs, ceased_ending, ceased_text, if_headed, is_before_heads, lines_of_output, lines_of_outputs, text_of_heads, text_of_output, texts_of_outputs, writes_heads}
use Rattle.gregorio.specs.Streams.{last_text}
use Rattle.gregorio_jobs.specs.declared.job.Format.{Format}
use Rattle.gregorio_jobs.specs.declared.job.Format.TheVariants.{Gabc, Dump}

-- the state that a writer shows: what is written, and its two rooms
pub record RunWriterState : Type 0 where
  pub written : Written
  pub out : BoundedList ℕ
  pub messages : BoundedList ℕ

-- the same after this text and these lines
abbrev pub with_bytes : RunWriterState → List ℕ → List ℕ → RunWriterState
with_bytes w text lines = record w { out = extended_by w.out text; messages = extended_by w.messages lines }

-- the same after this book, if it writes it
abbrev pub with_book : RunWriterState → List (List ℕ × List ℕ) → Bool → RunWriterState
with_book w book writes = record w { written = after_heads w.written writes; out = extended_by w.out (text_of_heads w.written book writes) }

abbrev pub with_heads : RunWriterState → List (List ℕ × List ℕ) → RunWriterState
with_heads w book = with_book w book (is_before_heads w.written)

-- the same after the headers, if they are at this event
abbrev pub heads_at : RunWriterState → HeadEvent → List (List ℕ × List ℕ) → RunWriterState
heads_at w x book = with_book w book (writes_heads w.written x)

abbrev pub with_last : RunWriterState → Bool → RunWriterState
with_last w whole = record w { out = extended_by w.out (if_headed w.written (last_text w.written.format whole w.written.count)) }

abbrev pub past_output : RunWriterState → ScoreOutput → RunWriterState
past_output w o = record (with_bytes w (text_of_output w.written o) (lines_of_output w.written o)) { written = after_output w.written o }

abbrev pub past_outputs : RunWriterState → List ScoreOutput → RunWriterState
past_outputs w outputs = record (with_bytes w (texts_of_outputs w.written outputs) (lines_of_outputs w.written outputs)) { written = after_outputs w.written outputs }

-- the same after its source has failed, if the run is not over
abbrev pub past_end : RunWriterState → RunWriterState
past_end w = record w { written = record w.written { ended = Some (ceased_ending w.written.ended) }; out = extended_by w.out (ceased_text w.written.ended w.written) }

-- ---- the syllables of a run

-- the outputs of these syllables
abbrev pub outputs_of_syllables : List PlacedSyllable → List ScoreOutput
outputs_of_syllables ss = map (λ (s : PlacedSyllable). Syllable s) ss

-- the same after these syllables
abbrev pub past_syllables : RunWriterState → List PlacedSyllable → RunWriterState
past_syllables w ss = past_outputs w (outputs_of_syllables ss)

-- the same after this text of `count` further syllables; their number stays at the last value of a
-- `u64`
abbrev pub with_joined : RunWriterState → List ℕ → ℕ → RunWriterState
with_joined w text count = record w { written = record w.written { count = min (w.written.count + count) (2 ^ 64 - 1) }; out = extended_by w.out text }

-- The headers were written, and the run is not over.
pub record TakesRuns (w : Written) : Type 0 where
  pub headed : w.headed ≡ true
  pub runs : is_none w.ended ≡ true

-- ---- how much room is reserved, in bytes

abbrev pub line_room : List ℕ → ℕ
line_room name = length name + 128

-- the most bytes that are written of a syllable, by whether it has no notes, and by the length of
-- its canonical text
abbrev pub syllable_len : Format → Bool → ℕ → ℕ
syllable_len Gabc no_notes canonical = canonical
syllable_len Dump true canonical = 2 * canonical + 128
syllable_len Dump false canonical = 64 * canonical + 256

-- There is room for a syllable whose canonical text has n bytes, with notes or without.
pub record TakesText (w : RunWriterState) (n : ℕ) : Type 0 where
  pub runs : TakesRuns w.written
  pub fits : Fits w.out (syllable_len w.written.format false n)

-- In canonical form there is room for joined syllables whose canonical texts have n bytes together.
pub record TakesJoinedText (w : RunWriterState) (n : ℕ) : Type 0 where
  pub canonical : w.written.format ≡ Gabc
  pub runs : TakesRuns w.written
  pub fits : Fits w.out n

abbrev pub syllable_room : Format → ℕ → ℕ
syllable_room format limit = syllable_len format false (limit + 1)

abbrev pub room_without_notes : Format → ℕ → ℕ
room_without_notes format limit = syllable_len format true (limit + 1)

-- the most bytes of the headers, whose canonical lines have this many
abbrev pub heads_len : Format → ℕ → ℕ
heads_len Gabc canonical = canonical
heads_len Dump canonical = 3 * canonical + 7

abbrev pub heads_room : Format → ℕ → ℕ
heads_room format limit = heads_len format (limit + 2)

-- for the last line of a dump
abbrev pub last_room : ℕ
last_room = 25

-- the most bytes of the output that a step brings: the headers, a syllable, one after it that has
-- no notes, and last lines
abbrev pub out_room : Format → Limits → ℕ
out_room format limits = heads_room format limits.header + syllable_room format limits.syllable + room_without_notes format limits.syllable + 128

-- how many bytes of the output, and as many of the messages, may wait before a step: as many as the
-- headers may have, up to 65,536
abbrev pub most_waiting : Limits → ℕ
most_waiting limits = min limits.header 65536

-- the most bytes of messages that these outputs bring
abbrev pub lines_room : List ℕ → List ScoreOutput → ℕ
lines_room name [] = 0
lines_room name (o ∷ outputs) = line_room name + lines_room name outputs

-- the most bytes of the output that an output of the score brings
abbrev pub text_room : Format → ℕ → ScoreOutput → ℕ
text_room format limit (Found f) = 0
text_room format limit (Stop fault) = last_room
text_room format limit (Syllable s) = syllable_len format (has_no_notes s.made) (limit + 1)
text_room format limit End = last_room

abbrev pub texts_room : Format → ℕ → List ScoreOutput → ℕ
texts_room format limit [] = 0
texts_room format limit (o ∷ outputs) = text_room format limit o + texts_room format limit outputs

-- With what these outputs bring, the messages have at most `most_lines` bytes and the output at
-- most `most_texts`. The syllables are within the limits.
pub record IsInRoom (limits : Limits) (most_lines most_texts : ℕ) (w : RunWriterState) (outputs : List ScoreOutput) : Type 0 where
  pub lines : length w.messages.items + lines_room w.written.name outputs ≤ most_lines
  pub texts : length w.out.items + texts_room w.written.format limits.syllable outputs ≤ most_texts
  pub within : All (IsWithin limits) (syllables_in outputs)

abbrev pub HasRoomFor : Limits → RunWriterState → List ScoreOutput → Type 0
HasRoomFor limits w outputs = IsInRoom limits w.messages.limit w.out.limit w outputs
