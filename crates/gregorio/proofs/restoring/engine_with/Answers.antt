use Rattle.std.proofs.Common.{ap, sym, subst, ◌∙◌}
use Rattle.gabc_places.specs.DecoderReports.{is_after_cr}
use Rattle.gabc_places.specs.DecoderMachine.{DecoderState}
use Rattle.gabc_score.specs.witness.ScoreStage.{ScoreStageState}
use Rattle.gregorio_state.specs.Fields.{fields_of}
use Rattle.gregorio.specs.machine.Restored.{StandSo}
use Rattle.gregorio.proofs.RestoredEngineRuns.{goes_on, restored_engine}
use Rattle.gregorio.proofs.restoring.engine_with.Goals as goal

pub invariant_of-result : goal.invariant_of-result
invariant_of-result c =
    let s = fields_of c.args.state.now in
    let w = c.in-Ok-score_writer_of.writer in
    let made = c.decoder_of.ensures.made in
    let so = subst (λ (score : ScoreStageState). StandSo s c.args.limits c.args.heads score) (sym c.in-Ok-score_writer_of.ensures.score) c.requires.stand in
    restored_engine c.args.job.now s c.args.limits c.requires.job c.requires.fields c.in-Ok.from_heads c.in-Ok.ensures.room w so.limits_are c.in-Ok-score_writer_of.ensures.rooms
    (sym (ap (λ (d : DecoderState). is_after_cr d) made) ∙ c.decoder_of.ensures.cr) c.decoder_of.result c.args.heads made so c.in-Ok-score_writer_of.ensures.written

pub returns-in-Ok-score_writer_of-clause-goes : goal.returns-in-Ok-score_writer_of-clause-goes
returns-in-Ok-score_writer_of-clause-goes c =
    let s = fields_of c.args.state.now in
    let w = c.in-Ok-score_writer_of.writer in
    let so = subst (λ (score : ScoreStageState). StandSo s c.args.limits c.args.heads score) (sym c.in-Ok-score_writer_of.ensures.score) c.requires.stand in
    goes_on c.args.job.now s c.args.limits c.requires.job c.requires.fields _ c.decoder_of.ensures.made c.decoder_of.ensures.cr so.limits_are
    c.in-Ok-score_writer_of.ensures.rooms.output c.in-Ok-score_writer_of.ensures.rooms.lines so c.in-Ok-score_writer_of.ensures.written
