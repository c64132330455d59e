use Rattle.std.proofs.Common.{ap}
use Rattle.gabc_places.specs.declared.limits.Limits.{Limits}
use Rattle.gregorio.specs.Saved.{state_of}
use Rattle.gregorio.specs.witness.Engine.{streams_left}
use Rattle.gregorio.proofs.RestoredRunsGoOn.{memory, written_front}
use Rattle.gregorio.proofs.restored_laws.a_restored_run_goes_on.Goals as goal

pub returns-in-Err-clause-memory : goal.returns-in-Err-clause-memory
returns-in-Err-clause-memory c =
    let s = state_of c.args.engine.now in
    let front = written_front s c.args.buf.now c.save_into.new.buf c.in-Ok.len c.in-Ok.ensures.written c.in-Ok.ensures.len in
    let job = c.requires.job in
    let at = job.limits_are in
    memory c.args.job.now c.args.limits s _ front c.save_into.ensures.state
    (record {
      limits_are = record { header = ap (λ (l : Limits). l.header) at; syllable = ap (λ (l : Limits). l.syllable) at; input = ap (λ (l : Limits). l.input) at };
      format = job.format;
      all_warnings = job.all_warnings;
    })
    c.bytes_are_of_one_state.ensures c.in-Err.fault c.in-Err.ensures.none c.in-Err.ensures.other

pub returns-in-Ok-restore-clause-left : goal.returns-in-Ok-restore-clause-left
returns-in-Ok-restore-clause-left c = c.what_is_saved_stands-in-Ok-restore.ensures.alone (λ ending bytes. streams_left c.args.engine.now ending bytes) c.what_is_saved_stands.ensures.stands
