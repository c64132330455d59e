-- The report of the score while an engine runs: that of a text, at the place of the decoder.
use Rattle.std.specs.Prelude.{◌≡◌, ◌≤◌, List, Bool, true, false, is_none, Result, Ok, Err}
use Rattle.gabc_places.specs.DecoderMachine.{DecoderState}
use Rattle.gabc_places.specs.DecoderReports.{MovesOn, is_after_cr}
use Rattle.gabc_places.specs.Place.{saturating_next_place}
use Rattle.gabc_places.specs.declared.code.Fault.{Fault}
use Rattle.gabc_places.specs.declared.place.Char.{Char}
use Rattle.gabc_headers.specs.declared.head_event.HeadEvent.{HeadEvent}
use Rattle.gabc_headers.specs.witness.HeadEvents.{HeaderStageState}
use Rattle.gabc_score.specs.declared.score_machine.ScorePart.TheVariants as score_part
use Rattle.gabc_score.specs.ScoreReports.{is_in_comment, moved_to}
use Rattle.gabc_score.specs.ReportedWithin.{HoldsIfAny, ReportsText}
use Rattle.gabc_score.specs.witness.ScoreStage.{ScoreStageState, left_of}
use Rattle.gregorio.specs.witness.Engine.{Written}
use Rattle.gregorio.specs.machine.InStep.{RunsInStep}
use Rattle.gregorio.specs.machine.ScoreWriter.{ScoreWriterState}

-- ---- the beginning of the body

-- the score is in the headers, and no syllable is written
pub record InHeads (w : ScoreWriterState) : Type 0 where
  pub part : w.score.part ≡ score_part.Heads
  pub none : w.writer.written.count ≡ 0

-- a run that is not over, and whose headers are not written, is in them
abbrev pub IsInHeads : ScoreWriterState → Type 0
IsInHeads w = is_none w.writer.written.ended ≡ true → w.writer.written.headed ≡ false → InHeads w

-- the score, whose body begins after this character if the headers are written
abbrev pub begun : Result Char Fault → Bool → ScoreStageState → ScoreStageState
begun (Ok x) true s = moved_to (saturating_next_place x.place x.c) s
begun (Ok x) false s = s
begun (Err fault) headed s = s

-- The score learns where the body begins, and emits the same as before.
pub record BeginsBody (item : Result Char Fault) (old new : ScoreWriterState) : Type 0 where
  pub is : new ≡ record old { score = begun item old.writer.written.headed old.score }
  pub left : (from_heads : List HeadEvent) → left_of new.score from_heads ≡ left_of old.score from_heads

-- ---- between two calls

-- In the body the next character is at the place of the decoder, and no comment is open directly
-- after a CR.
pub record TellsInBody (d : DecoderState) (s : ScoreStageState) : Type 0 where
  pub next : s.held.next ≡ d.place
  pub told : ReportsText s
  pub holds : HoldsIfAny s
  pub comment : is_after_cr d ≡ true → is_in_comment s.body.part ≡ false

-- as long as no more bytes were taken than there may be
pub record IsInSync (d : DecoderState) (s : ScoreStageState) (w : Written) : Type 0 where
  pub line : 1 ≤ d.place.line
  pub body : w.headed ≡ true → d.taken ≤ d.limit → TellsInBody d s

-- while the engine runs
abbrev pub IsTelling : DecoderState → ScoreWriterState → Type 0
IsTelling d w = is_none w.writer.written.ended ≡ true → IsInSync d w.score w.writer.written

-- At these items this stays so, if the decoder continues with them.
abbrev pub StayTelling : HeaderStageState → ScoreWriterState → List (Result Char Fault) → ScoreWriterState → Type 0
StayTelling h old items new =
    (d e : DecoderState) → MovesOn d items e → (is_none old.writer.written.ended ≡ true → RunsInStep d h old.score old.writer.written) → IsTelling d old → IsTelling e new
