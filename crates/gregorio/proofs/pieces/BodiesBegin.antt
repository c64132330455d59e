-- A score that is reported at the beginning of its body goes on as it would have.
use Rattle.std.proofs.Common.{◌≡◌, ℕ, List, Bool, true, is_none, Result, ap, sym, subst, ◌∙◌, arith}
use Rattle.gabc_places.specs.DecoderMachine.{DecoderState}
use Rattle.gabc_places.specs.declared.code.Fault.{Fault}
use Rattle.gabc_places.specs.declared.place.Char.{Char}
use Rattle.gabc_places.specs.declared.place.Place.{Place}
use Rattle.gabc_headers.specs.declared.head_event.HeadEvent.{HeadEvent}
use Rattle.gabc_headers.specs.witness.HeadEvents.{HeaderStageState}
use Rattle.gabc_score.specs.declared.body_stage.BodyPart.{BodyPart}
use Rattle.gabc_score.specs.ScoreReports.{IsAt, IsInFront, is_in_front, moved_part}
use Rattle.gabc_score.specs.witness.ScoreStage.{ScoreStageState}
use Rattle.gregorio.specs.witness.Engine.{Written, streams_from}
use Rattle.gregorio.specs.machine.Engine.{GoTogether, IsSettled, WritesItems}
use Rattle.gregorio.specs.machine.InStep.{HasForce, RunsInStep, StayInStep}
use Rattle.gregorio.specs.machine.RunWriter.{RunWriterState}
use Rattle.gregorio.specs.machine.ScoreWriter.{ScoreWriterState, FitsEvents, KeepsJobAndRooms, streams_of}
use Rattle.gregorio.specs.machine.InSync.{BeginsBody, begun}

abbrev begun_writer : Result Char Fault → Bool → ScoreWriterState → ScoreWriterState
begun_writer item headed s = record s { score = begun item headed s.score }

limits_begun : (item : Result Char Fault) (headed : Bool) (s : ScoreStageState) → (begun item headed s).limits ≡ s.limits
limits_begun item headed s = grind arith

room_begun : (item : Result Char Fault) (headed : Bool) (s : ScoreWriterState) (ends : Bool) (events : List HeadEvent) → FitsEvents s ends events → FitsEvents (begun_writer item headed s) ends events
room_begun item headed s ends events r = grind arith

steady_begun : (item : Result Char Fault) (headed : Bool) (old s : ScoreWriterState) → KeepsJobAndRooms old s → KeepsJobAndRooms old (begun_writer item headed s)
steady_begun item headed old s a = grind (arith, limits_begun)

-- in front no text has counted a place
none_counts : (place at : Place) (b : BodyPart) → is_in_front b ≡ true → IsAt place (moved_part at b)
none_counts place at b front = grind arith

step_begun : (item : Result Char Fault) (headed : Bool) (d : DecoderState) (h : HeaderStageState) (s : ScoreStageState) (w : Written) → (headed ≡ true → IsInFront s) → RunsInStep d h s w
    → RunsInStep d h (begun item headed s) w
step_begun item headed d h s w front r = grind (arith, none_counts)

module _ (item : Result Char Fault) (old new : ScoreWriterState) (b : BeginsBody item old new) where
  pub same_writer : new.writer ≡ old.writer
  same_writer = ap (λ (s : ScoreWriterState). s.writer) b.is

  same_streams : (book : List (List ℕ × List ℕ)) (from_heads : List HeadEvent) → streams_of new book from_heads ≡ streams_of old book from_heads
  same_streams book from_heads = λ i. streams_from (same_writer i).written book from_heads (b.left from_heads i)

  pub room_of_begun : (ends : Bool) (events : List HeadEvent) → FitsEvents old ends events → FitsEvents new ends events
  room_of_begun ends events room = subst (λ (s : ScoreWriterState). FitsEvents s ends events) (sym b.is) (room_begun item old.writer.written.headed old ends events room)

  pub steady_of_begun : (first : ScoreWriterState) → KeepsJobAndRooms first old → KeepsJobAndRooms first new
  steady_of_begun first a = subst (λ (s : ScoreWriterState). KeepsJobAndRooms first s) (sym b.is) (steady_begun item old.writer.written.headed first old a)

  settled_begun : IsSettled old → IsSettled new
  settled_begun settled = λ book other from_heads more. same_streams book from_heads ∙ (settled book other from_heads more ∙ sym (same_streams other more))

  pub together_begun : (h : HeaderStageState) → GoTogether h old → GoTogether h new
  together_begun h together = grind (arith, limits_begun, same_writer, settled_begun)

  pub writes_begun : (h now : HeaderStageState) (first : ScoreWriterState) (items : List (Result Char Fault)) → WritesItems h first items now old → WritesItems h first items now new
  writes_begun h now first items a = grind (arith, same_writer, same_streams)

  pub stay_begun : (h now : HeaderStageState) (first : ScoreWriterState) (items : List (Result Char Fault)) → (old.writer.written.headed ≡ true → IsInFront old.score) → StayInStep h first items now old
      → StayInStep h first items now new
  stay_begun h now first items front stay = record {
    force = λ had. subst (λ (v : RunWriterState). HasForce v.written) (sym same_writer) (stay.force had);
    runs = λ d e moves ran running.
        subst (λ (s : ScoreWriterState). RunsInStep e now s.score s.writer.written) (sym b.is)
        (step_begun item old.writer.written.headed e now old.score old.writer.written front
        (stay.runs d e moves ran (subst (λ (v : RunWriterState). is_none v.written.ended ≡ true) same_writer running)));
  }
