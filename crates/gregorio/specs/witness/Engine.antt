-- The streams that an engine has left to write, in any state. Nobody has to believe it:
-- `Engine::new` states it of a fresh one.
use Rattle.std.specs.Prelude.{ℕ, ◌||◌, ◌&&◌, not, List, [], ◌∷◌, ◌++◌, drop, Bool, true, false, Option, Some, None, is_some, Result, if◌then◌else◌}
use Rattle.gabc_places.specs.declared.code.Fault.{Fault}
use Rattle.gabc_places.specs.declared.place.Char.{Char}
use Rattle.gabc_places.specs.DecoderMachine.{DecoderState}
use Rattle.gabc_places.specs.witness.DecoderEvents as decoder
use Rattle.gabc_places.specs.StageLaw.{concat_of}
use Rattle.gabc_headers.specs.declared.head_event.HeadEvent.{HeadEvent}
use Rattle.gabc_headers.specs.declared.head_event.HeadEvent.TheVariants as head_event
use Rattle.gabc_headers.specs.witness.HeadEvents.{HeaderStageState, stage_past}
use Rattle.gabc_headers.specs.HeadEvents as heads
use Rattle.gabc_headers.specs.witness.HeadEvents as heads_left
use Rattle.gabc_neumes.specs.InForce.{InForce}
use Rattle.gabc_body.specs.ScoreEvents.{ScoreOutput, Found, Stop, Syllable, End}
use Rattle.gabc_score.specs.witness.ScoreStage.{ScoreStageState, left_of}
use Rattle.gregorio.specs.declared.run_ending.RunEnding.{RunEnding}
use Rattle.gregorio.specs.declared.run_ending.RunEnding.TheVariants as run_ending
use Rattle.gregorio.specs.declared.source_ending.SourceEnding.{SourceEnding}
use Rattle.gregorio.specs.Outcome.{is_whole, shown_line, is_error_finding}
use Rattle.gregorio_jobs.specs.declared.job.Format.{Format}
use Rattle.gregorio_jobs.specs.declared.job.Status.{Status}
use Rattle.gregorio_jobs.specs.declared.job.Status.TheVariants as run_status
use Rattle.gabc_write.specs.Message.{line_of}
use Rattle.gregorio.specs.Streams.{Streams, after_bytes, ended_with, heads_text, syllable_text, force_after, last_text, next_number}

-- The state of what is written: the format, the name of the input in messages, and whether warnings
-- are reported; whether the headers were written; how many syllables were, a count that saturates;
-- the clef and the alterations in force after them, in a dump; whether an error was found; and how
-- the run ended, once it is over.
pub record Written : Type 0 where
  pub format : Format
  pub name : List ℕ
  pub all_warnings : Bool
  pub headed : Bool
  pub count : ℕ
  pub force : InForce
  pub errors : Bool
  pub ended : Option RunEnding

-- The state that an engine shows: its stages, what is written, and the bytes that wait to be taken.
pub record EngineState : Type 0 where
  pub decoder : DecoderState
  pub heads : HeaderStageState
  pub score : ScoreStageState
  pub written : Written
  pub output : List ℕ
  pub messages : List ℕ

-- the items that the decoder has left for these bytes, after which the input ends so
abbrev pub items_left : EngineState → SourceEnding → List ℕ → List (Result Char Fault)
items_left s ending bytes = heads.emitted_by (is_whole ending) bytes (decoder.events_left s.decoder bytes)

-- the events that the stage of headers has left for these characters and the fault after them
abbrev pub head_events_left : HeaderStageState → SourceEnding → List (Result Char Fault) → List HeadEvent
head_events_left h ending items = heads.emitted_by (is_whole ending) items (heads_left.events_left h.limits h.progress items)

-- the headers that this stage has read once these have come
abbrev pub book_after : HeaderStageState → List (Result Char Fault) → List (List ℕ × List ℕ)
book_after h items = (stage_past h items).book

-- ---- how a run ended

-- the status of a run that ended so
abbrev pub status_of_ending : RunEnding → Status
status_of_ending run_ending.Whole = run_status.Whole
status_of_ending run_ending.Errors = run_status.Errors
status_of_ending (run_ending.Fatal fault) = run_status.Fatal
status_of_ending run_ending.ReadFault = run_status.ReadFault

-- the fault that stopped it
abbrev pub fault_of_ending : RunEnding → Option Fault
fault_of_ending run_ending.Whole = None
fault_of_ending run_ending.Errors = None
fault_of_ending (run_ending.Fatal fault) = Some fault
fault_of_ending run_ending.ReadFault = None

-- the ending of a run that was read to its end, by whether an error was found
abbrev pub ending_of_whole : Bool → RunEnding
ending_of_whole true = run_ending.Errors
ending_of_whole false = run_ending.Whole

-- nothing more is written by a run that ended so
abbrev pub ended_by : RunEnding → Streams
ended_by how = ended_with (status_of_ending how) (fault_of_ending how)

-- ---- the outputs of the score

-- no output comes before the headers
abbrev pub if_headed : Written → List ℕ → List ℕ
if_headed w text = if w.headed then text else []

-- the text that is written of an output
abbrev pub text_of_output : Written → ScoreOutput → List ℕ
text_of_output w (Found f) = []
text_of_output w (Stop fault) = if_headed w (last_text w.format false w.count)
text_of_output w (Syllable s) = if_headed w (syllable_text w.format (next_number w.count) w.force s)
text_of_output w End = if_headed w (last_text w.format true w.count)

abbrev pub lines_of_output : Written → ScoreOutput → List ℕ
lines_of_output w (Found f) = shown_line w.name w.all_warnings f
lines_of_output w (Stop fault) = line_of w.name fault.place fault.code
lines_of_output w (Syllable s) = []
lines_of_output w End = []

-- A stop or the end ends the run.
abbrev pub after_output : Written → ScoreOutput → Written
after_output w (Found f) = record w { errors = w.errors || is_error_finding f }
after_output w (Stop fault) = record w { ended = Some (run_ending.Fatal fault) }
after_output w (Syllable s) = record w { count = if w.headed then next_number w.count else w.count; force = if w.headed then force_after w.format w.force s else w.force }
after_output w End = record w { ended = Some (ending_of_whole w.errors) }

abbrev pub texts_of_outputs : Written → List ScoreOutput → List ℕ
texts_of_outputs w [] = []
texts_of_outputs w (o ∷ outputs) = text_of_output w o ++ texts_of_outputs (after_output w o) outputs

abbrev pub lines_of_outputs : Written → List ScoreOutput → List ℕ
lines_of_outputs w [] = []
lines_of_outputs w (o ∷ outputs) = lines_of_output w o ++ lines_of_outputs (after_output w o) outputs

abbrev pub after_outputs : Written → List ScoreOutput → Written
after_outputs w [] = w
after_outputs w (o ∷ outputs) = after_outputs (after_output w o) outputs

-- ---- the headers

abbrev pub is_heads : HeadEvent → Bool
is_heads (head_event.Heads lines macros canonical) = true
is_heads _ = false

-- the headers are not written yet, and the run is not over
abbrev pub is_before_heads : Written → Bool
is_before_heads w = not (w.headed || is_some w.ended)

abbrev pub writes_heads : Written → HeadEvent → Bool
writes_heads w x = is_heads x && is_before_heads w

-- if they are written, the headers are this book
abbrev pub text_of_heads : Written → List (List ℕ × List ℕ) → Bool → List ℕ
text_of_heads w book writes = if writes then heads_text w.format book else []

abbrev pub after_heads : Written → Bool → Written
after_heads w writes = record w { headed = w.headed || writes }

-- ---- the inputs

-- If the input ceases, and neither a stop nor the end has come, its source has failed.
abbrev pub ceased_text : Option RunEnding → Written → List ℕ
ceased_text None w = if_headed w (last_text w.format false w.count)
ceased_text (Some how) w = []

abbrev pub ceased_ending : Option RunEnding → RunEnding
ceased_ending None = run_ending.ReadFault
ceased_ending (Some how) = how

abbrev pub ceased : Written → Streams
ceased w = record (ended_by (ceased_ending w.ended)) { output = ceased_text w.ended w }

-- the streams of these, after which the input ceases
abbrev pub streams_in : Written → List ScoreOutput → Streams
streams_in w outputs = after_bytes (texts_of_outputs w outputs) (lines_of_outputs w outputs) (ceased (after_outputs w outputs))

abbrev pub first_list : List (List ScoreOutput) → List ScoreOutput
first_list [] = []
first_list (outputs ∷ lists) = outputs

-- The streams if these events come from the stage of headers, and the score has these lists of
-- outputs: one for each event, and one for their end.
abbrev pub streams_from : Written → List (List ℕ × List ℕ) → List HeadEvent → List (List ScoreOutput) → Streams
streams_from w book [] lists = streams_in w (concat_of lists)
streams_from w book (x ∷ from_heads) lists =
    let v = after_heads w (writes_heads w x) in
    after_bytes (text_of_heads w book (writes_heads w x) ++ texts_of_outputs v (first_list lists)) (lines_of_outputs v (first_list lists))
    (streams_from (after_outputs v (first_list lists)) book from_heads (drop 1 lists))

-- The streams that an engine has left to write of these bytes, after which the input ends so,
-- beside what waits.
abbrev pub streams_left : EngineState → SourceEnding → List ℕ → Streams
streams_left s ending bytes =
    let items = items_left s ending bytes in
    let from_heads = head_events_left s.heads ending items in
    streams_from s.written (book_after s.heads items) from_heads (left_of s.score from_heads)
