-- The end of an input, or the failure of its source, brings what was still to come.
use Rattle.std.proofs.Common.{◌≡◌, ◌≤◌, ℕ, inr, List, [], ◌∷◌, ◌++◌, Option, Some, option_to_list, Result, ap, sym, ◌∙◌, subst, arith}
use Rattle.gabc_places.specs.BoundedList.{BoundedList, extended_by}
use Rattle.gabc_places.specs.StageLaw.{concat_of}
use Rattle.gabc_places.specs.declared.code.Fault.{Fault}
use Rattle.gabc_places.specs.declared.limits.Limits.{Limits}
use Rattle.gabc_places.specs.declared.place.Char.{Char}
use Rattle.gabc_places.specs.DecoderMachine.{DecoderState}
use Rattle.gabc_places.specs.witness.DecoderEvents as decoder
use Rattle.gabc_headers.specs.declared.heads.Heads.{Heads}
use Rattle.gabc_headers.specs.declared.heads.HeadFault.{HeadFault}
use Rattle.gabc_headers.specs.Heads.{heads_of}
use Rattle.gabc_headers.specs.declared.head_event.HeadEvent.{HeadEvent}
use Rattle.gabc_headers.specs.witness.HeadEvents.{HeaderStageState, HeadProgress, reading, after_headers, over, events_at_end, events_of_end, stage_at}
use Rattle.gabc_score.proofs.score_events.OutputsOfLentSyllables.{then_more}
use Rattle.gregorio.specs.declared.source_ending.SourceEnding.{SourceEnding}
use Rattle.gregorio.specs.declared.source_ending.SourceEnding.TheVariants.{Whole as Ended}
use Rattle.gregorio.specs.declared.run_ending.RunEnding.{RunEnding}
use Rattle.gregorio.specs.Streams.{Streams, after_bytes, ended_with}
use Rattle.gregorio.specs.Engine.{fault_of}
use Rattle.gregorio.specs.witness.Engine.{EngineState, ceased_ending, ended_by, fault_of_ending, status_of_ending, streams_left}
use Rattle.gregorio.specs.machine.ScoreWriter.{ScoreWriterState, IsOver, IsReserved, KeepsJobAndRooms, WritesLast, streams_of}
use Rattle.gregorio.specs.machine.Engine.{AreBooksAt, GoTogether, IsEngine, IsNoCharacter, IsSettled, WritesAll, WritesItems, streams_of_items}
use Rattle.gregorio.proofs.StreamsOfOutputs.{over_is_last}
use Rattle.gregorio.specs.machine.InStep.{HasForce}
use Rattle.gregorio.proofs.pieces.BytesAreTaken.{over_left}
use Rattle.gregorio.proofs.pieces.BytesAreJoined.{with_both_after, waits_now}
use Rattle.gregorio_jobs.specs.declared.job.Status.{Status}

-- these streams are what was written between two states, and nothing follows
pub record EndsWith (s : Streams) (old new : ScoreWriterState) (how : RunEnding) : Type 0 where
  pub output : List ℕ
  pub lines : List ℕ
  pub out : new.writer.out ≡ extended_by old.writer.out output
  pub messages : new.writer.messages ≡ extended_by old.writer.messages lines
  pub law : s ≡ after_bytes output lines (ended_by how)

ends_after_it : (s t : Streams) (old mid new : ScoreWriterState) (how : RunEnding) (output lines : List ℕ) → mid.writer.out ≡ extended_by old.writer.out output
    → mid.writer.messages ≡ extended_by old.writer.messages lines → s ≡ after_bytes output lines t → EndsWith t mid new how → EndsWith s old new how
ends_after_it s t old mid new how output lines out messages law e = record {
  output = output ++ e.output;
  lines = lines ++ e.lines;
  out = then_more old.writer.out mid.writer.out new.writer.out output e.output out e.out;
  messages = then_more old.writer.messages mid.writer.messages new.writer.messages lines e.lines messages e.messages;
  law = law ∙ (ap (λ (x : Streams). after_bytes output lines x) e.law ∙ sym (with_both_after output lines e.output e.lines (ended_by how)));
}

pub ends_last : (w new : ScoreWriterState) (how : RunEnding) (book : List (List ℕ × List ℕ)) → WritesLast w new how → EndsWith (streams_of w book []) w new how
ends_last w new how book a = record { output = a.output; lines = a.lines; out = a.out; messages = a.messages; law = a.law book }

pub ends_now : (s : Streams) (w new : ScoreWriterState) (how : RunEnding) → EndsWith s w new how → w.writer.out.items ≡ [] → w.writer.messages.items ≡ []
    → s ≡ after_bytes new.writer.out.items new.writer.messages.items (ended_by how)
ends_now s w new how e output messages = grind (arith, waits_now)

-- ---- after the end

-- the status and the fault of a run that is over say how it ended
pub ended_as : (how : RunEnding) (status : Status) (ended : Option RunEnding) → status ≡ status_of_ending how → ended ≡ Some how → ended_by how ≡ ended_with status (fault_of_ending (ceased_ending ended))
ended_as how status ended told is = grind arith

-- so does an engine that is over, whatever comes
pub over_says : (s : EngineState) (how : RunEnding) (status : Status) → IsOver s.written s.score how → status ≡ status_of_ending how → (bytes : List ℕ) (ending : SourceEnding)
    → streams_left s ending bytes ≡ ended_with status (fault_of s)
over_says s how status is told bytes ending = over_left s how is ending bytes ∙ ended_as how status s.written.ended told is.ended

over_is_settled : (w : ScoreWriterState) (how : RunEnding) → IsOver w.writer.written w.score how → IsSettled w
over_is_settled w how o book other from_heads more = over_is_last w.writer.written w.score how o book from_heads ∙ sym (over_is_last w.writer.written w.score how o other more)

-- a writer that is over goes together with a stage that has the same limits
pub over_together : (h : HeaderStageState) (old new : ScoreWriterState) (how : RunEnding) → GoTogether h old → KeepsJobAndRooms old new → IsOver new.writer.written new.score how → GoTogether h new
over_together h old new how together steady o = grind (arith, over_is_settled)

-- with that stage after its last event too
pub over_stage : (h : HeaderStageState) (old new : ScoreWriterState) (how : RunEnding) → GoTogether h old → KeepsJobAndRooms old new → IsOver new.writer.written new.score how → GoTogether (stage_at h over) new
over_stage h old new how together steady o = record { limits = together.limits ∙ sym steady.limits; headed = λ e. inr (over_is_settled new how o); book = tt; short = together.short }

-- an engine that is over need not be in step
pub over_is_engine : (d : DecoderState) (h : HeaderStageState) (from_heads : BoundedList HeadEvent) (w : ScoreWriterState) (how : RunEnding) → 2 ≤ from_heads.limit → GoTogether h w → IsReserved w
    → HasForce w.writer.written → IsOver w.writer.written w.score how → IsEngine d h from_heads w
over_is_engine d h from_heads w how few together reserved force o = grind arith

-- ---- the end of the input

books_by : (r : Result Heads HeadFault) (book read : List (List ℕ × List ℕ)) → AreBooksAt (events_at_end r) book read
books_by r book read = grind arith

no_books_at_end : (limits : Limits) (progress : HeadProgress) (book read : List (List ℕ × List ℕ)) → AreBooksAt (events_of_end limits progress) book read
no_books_at_end limits (reading t) book read = books_by (heads_of limits t) book read
no_books_at_end limits (after_headers b) book read = (tt, tt)
no_books_at_end limits over book read = tt

pub ends_given : (h : HeaderStageState) (w mid new : ScoreWriterState) (how : RunEnding) (from_heads : List HeadEvent) (read : List (List ℕ × List ℕ)) → from_heads ≡ events_of_end h.limits h.progress
    → WritesAll w from_heads read mid → WritesLast mid new how → EndsWith (streams_of_items h w Ended []) w new how
ends_given h w mid new how from_heads read is a last =
    ends_after_it (streams_of_items h w Ended []) (streams_of mid h.book []) w mid new how a.output a.lines a.out a.messages
    (ap (λ (events : List HeadEvent). streams_of w h.book (events ++ [])) (sym is)
    ∙ a.law h.book [] (subst (λ (events : List HeadEvent). AreBooksAt events h.book read) (sym is) (no_books_at_end h.limits h.progress h.book read)))
    (ends_last mid new how h.book last)

pub ends_items : (d : DecoderState) (h now : HeaderStageState) (w mid new : ScoreWriterState) (how : RunEnding) (items : List (Result Char Fault))
    → decoder.events_left d [] ≡ items ∷ [] → WritesItems h w items now mid → EndsWith (streams_of_items now mid Ended []) mid new how
    → EndsWith (streams_of_items h w Ended (concat_of (decoder.events_left d []))) w new how
ends_items d h now w mid new how items law a e =
    ends_after_it (streams_of_items h w Ended (concat_of (decoder.events_left d []))) (streams_of_items now mid Ended []) w mid new how a.output a.lines a.out a.messages
    (ap (λ (lists : List (List (Result Char Fault))). streams_of_items h w Ended (concat_of lists)) law ∙ a.law Ended [])
    e

-- ---- the decoder

-- at the end of the input it gives a fault or nothing
pub no_character_at_end : (d : DecoderState) (item : Option (Result Char Fault)) → decoder.events_left d [] ≡ option_to_list item ∷ [] → IsNoCharacter (option_to_list item)
no_character_at_end d item law = grind arith
