-- The parts of an engine that has taken nothing go together.
use Rattle.std.proofs.Common.{◌≡◌, ◌≤◌, [], ap, sym, subst, ◌∙◌, refl}
use Rattle.gabc_places.specs.BoundedList.{BoundedList}
use Rattle.gabc_places.specs.DecoderMachine.{DecoderState, fresh_decoder}
use Rattle.gabc_places.specs.declared.limits.Limits.{Limits}
use Rattle.gabc_headers.specs.HeldText.{IsHeld}
use Rattle.gabc_headers.specs.declared.head_event.HeadEvent.{HeadEvent}
use Rattle.gabc_headers.specs.witness.HeadEvents.{HeaderStageState, fresh_stage}
use Rattle.gabc_score.specs.declared.score_machine.ScorePart.TheVariants as score_part
use Rattle.gregorio_jobs.specs.declared.job.Job.{Job}
use Rattle.gregorio.specs.Engine.{RunsJob}
use Rattle.gregorio.specs.witness.Engine.{EngineState, Written}
use Rattle.gregorio.specs.machine.Engine.{IsBookRead, IsEngine}
use Rattle.gregorio.specs.machine.ScoreWriter.{IsReserved, IsShortBook, ScoreWriterState, begun_again, fresh_writer}
use Rattle.gregorio.proofs.pieces.HeadersAreRead.{no_heads_are_short}
use Rattle.gregorio.proofs.pieces.PartsStayInStep.{fresh_in_step}
use Rattle.gregorio.proofs.pieces.TextOfHeaders.{fresh_reads}
use Rattle.gregorio.proofs.pieces.ScoreStaysInSync.{fresh_tells}

pub begins : (v : Written) (limits : Limits) (d : DecoderState) (h : HeaderStageState) (from_heads : BoundedList HeadEvent) (s : ScoreWriterState)
    → ((limits : Limits) → IsHeld limits []) → 2 ≤ from_heads.limit → d ≡ fresh_decoder limits.input → h ≡ fresh_stage limits h.hasher → s.writer.written ≡ begun_again v
    → s.score.limits ≡ limits → s.score.part ≡ score_part.Heads → IsReserved s → IsEngine d h from_heads s
begins v limits d h from_heads s law few is_d is_h is_w is_limits heads reserved = record {
  few = few;
  together = record {
    limits = ap (λ (x : HeaderStageState). x.limits) is_h ∙ sym is_limits;
    headed = λ headed. absurd (cc (sym (ap (λ (w : Written). w.headed) is_w) ∙ headed));
    book = subst (λ (x : HeaderStageState). IsBookRead x.progress x.book) (sym is_h) tt;
    short = subst (λ (x : HeaderStageState). IsShortBook x.limits x.book) (sym is_h) (no_heads_are_short limits);
  };
  reserved = reserved;
  step = fresh_in_step v limits d h s is_d is_h is_w is_limits heads;
  headers = fresh_reads v limits d h s.writer.written law is_d is_h is_w;
  tells = fresh_tells limits d s is_d (ap (λ (w : Written). w.headed) is_w);
}

-- what has begun again of the job that it runs has begun of it
pub begun_of : (job : Job) (limits : Limits) (s : EngineState) → RunsJob job limits s → begun_again s.written ≡ fresh_writer job
begun_of job limits s r = rw (r.format, r.name, r.all_warnings) refl
