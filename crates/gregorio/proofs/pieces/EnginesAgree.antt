-- Two engines that save the same write the same of whatever follows.
use Rattle.std.proofs.Common.{◌≡◌, ℕ, List, Bool, true, false, is_some, Result, refl, arith}
use Rattle.gabc_places.specs.DecoderMachine.{DecoderState, IsPartial}
use Rattle.gabc_places.specs.BoundedList.{BoundedList}
use Rattle.gabc_places.specs.DecoderReports.{MayBeReported, ReportTheSame, is_after_cr}
use Rattle.gabc_places.specs.declared.code.Fault.{Fault}
use Rattle.gabc_places.specs.declared.place.Char.{Char}
use Rattle.gabc_places.specs.witness.DecoderEvents as decoder
use Rattle.gabc_headers.specs.declared.head_event.HeadEvent.{HeadEvent}
use Rattle.gabc_headers.specs.witness.HeadEvents.{HeaderStageState, IsAfterHeaders, events_left, reading, text_held}
use Rattle.gabc_score.specs.ScoreReports.{before_of, held_of}
use Rattle.gabc_score.specs.ReportedWithin.{ReportsWithin}
use Rattle.gabc_score.specs.witness.IsReachable.{IsReachable}
use Rattle.gabc_score.specs.witness.ScoreStage.{ScoreStageState, left_of}
use Rattle.gabc_write.specs.SetDown.{AreWrittenAlike, GoesOnEquivalentlyInLine}
use Rattle.gregorio.specs.declared.source_ending.SourceEnding.{SourceEnding}
use Rattle.gregorio.specs.Engine.{is_running}
use Rattle.gregorio.specs.Saved.{state_of}
use Rattle.gregorio.specs.machine.Engine.{IsEngine}
use Rattle.gregorio.specs.machine.ScoreWriter.{ScoreWriterState}
use Rattle.gregorio.specs.witness.Engine.{EngineState, head_events_left, items_left, streams_left}
use Rattle.gregorio.specs.witness.CanRun.{CanRun}
use Rattle.gabc_write.specs.SavedAlike.{AreSavedAlike}
use Rattle.gregorio.proofs.pieces.SavedInBodies.{bodies_agree, come_in_line, here, saved_in_body, there, written_in_body}
use Rattle.gregorio.proofs.pieces.SavedInHeaders.{decoders_alike, heads_agree, saved_in_heads, shown}
use Rattle.gregorio.proofs.pieces.StatesAreWhole.{score_in_body}
use Rattle.gregorio.proofs.pieces.SwappedSyllableGivesSameOutput.{given_is_written_alike}

-- the laws of the parts
pub record PartsAgree : Type 0 where
  pub decoders : (one other : DecoderState) → one.ended ≡ false → other.ended ≡ false → one.limit ≡ other.limit → IsPartial one.pending → ReportTheSame one other
      → (bytes : List ℕ) → decoder.events_left one bytes ≡ decoder.events_left other bytes
  pub heads : (one other : HeaderStageState) → one.limits ≡ other.limits → one.progress ≡ reading (text_held one.progress) → other.progress ≡ reading (text_held other.progress)
      → text_held one.progress ≡ text_held other.progress → (items : List (Result Char Fault)) → events_left one.limits one.progress items ≡ events_left other.limits other.progress items
  pub after : (one other : HeaderStageState) → IsAfterHeaders one.progress → IsAfterHeaders other.progress
      → (items : List (Result Char Fault)) → events_left one.limits one.progress items ≡ events_left other.limits other.progress items
  pub within : (s : ScoreStageState) → IsReachable s → is_some (before_of s) ≡ true → ReportsWithin s
  pub scores : (one other : ScoreStageState) → IsReachable one → IsReachable other → AreSavedAlike one other → GoesOnEquivalentlyInLine one other
  pub written : (one other : ScoreStageState) → IsReachable one → IsReachable other → GoesOnEquivalentlyInLine one other → AreWrittenAlike (held_of one) (held_of other)

module _ (parts : PartsAgree) (one other : EngineState) (may : CanRun one) (may_too : CanRun other) (name : one.written.name ≡ other.written.name) (same : state_of one ≡ state_of other) where
  abbrev Agree : Type 0
  Agree = (ending : SourceEnding) (bytes : List ℕ) → streams_left one ending bytes ≡ streams_left other ending bytes

  in_heads : one.written.headed ≡ false → Agree
  in_heads headed = grind (arith, saved_in_heads, heads_agree)

  in_body : one.written.headed ≡ true → Agree
  in_body headed =
      let inside = (here one other may may_too headed same).inside in
      let other_inside = (there one other may may_too headed same).inside in
      let within = parts.within one.score may.score (score_in_body one.score inside.body) in
      let other_within = parts.within other.score may_too.score (score_in_body other.score other_inside.body) in
      let saved = saved_in_body one other may may_too headed same within other_within in
      let on = parts.scores one.score other.score may.score may_too.score saved in
      let alike = parts.written one.score other.score may.score may_too.score on in
      let d = decoders_alike one other may.step may_too.step same in
      bodies_agree one other (written_in_body one other may may_too headed same within other_within name) headed
      (parts.decoders one.decoder other.decoder d.runs d.other_runs d.limit may.decoder.partial d.told)
      (parts.after one.heads other.heads inside.after_them other_inside.after_them)
      (λ ending bytes w book.
      let from_heads = head_events_left one.heads ending (items_left one ending bytes) in
      given_is_written_alike (held_of one.score) (held_of other.score) alike w book from_heads (left_of one.score from_heads) (left_of other.score from_heads)
      (on.gives from_heads (come_in_line one other may may_too headed same ending bytes)))

  by_headed : (headed : Bool) → one.written.headed ≡ headed → Agree
  by_headed headed is = grind (arith, in_body, in_heads)

  pub engines_agree : Agree
  engines_agree = by_headed one.written.headed refl

-- ---- an engine shows its parts

pub may_run : (d : DecoderState) (h : HeaderStageState) (from_heads : BoundedList HeadEvent) (w : ScoreWriterState) (e : EngineState) → IsEngine d h from_heads w → shown d h w ≡ e → is_running e ≡ true
    → MayBeReported d.limit d.taken d.place d.pending (is_after_cr d) → IsReachable w.score → CanRun e
may_run d h from_heads w e is view running decoder score = grind arith
