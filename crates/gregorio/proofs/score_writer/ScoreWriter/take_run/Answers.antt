use Rattle.std.proofs.Common.{subst, sym, take}
use Rattle.std.specs.Str.{chars}
use Rattle.gregorio.specs.machine.RunWriter.{TakesRuns}
use Rattle.gregorio.specs.machine.ScoreWriter.{KeepsJobAndRooms, ScoreWriterState}
use Rattle.gregorio.proofs.pieces.RunIsWritten.{run_clef, run_silent, run_steady}
use Rattle.gregorio.proofs.score_writer.ScoreWriter.take_run.Goals as goal

pub invariant_of-self : goal.invariant_of-self
invariant_of-self c =
    let i = c.self.inside in
    let old : ScoreWriterState = record { score = i.score; writer = i.writer } in
    let new : ScoreWriterState = record { score = c.take_run.new.self; writer = c.take_run.new.out } in
    let t = chars (take c.take_run.result.bytes c.args.text.now) in
    let takes = subst (λ (s : ScoreWriterState). TakesRuns s.writer.written) (sym c.self.view_is) c.requires in
    record {
      room = c.self.invariant.room;
      silent = run_silent old c.args.at t new c.take_run.ensures.runs takes;
      clef = run_clef old c.args.at t new c.take_run.ensures.runs c.where_nothing_sounds_the_clef_stays.ensures takes c.self.invariant.clef;
    }

pub returns-clause-steady : goal.returns-clause-steady
returns-clause-steady c =
    let i = c.self.inside in
    let old : ScoreWriterState = record { score = i.score; writer = i.writer } in
    let new : ScoreWriterState = record { score = c.take_run.new.self; writer = c.take_run.new.out } in
    subst (λ (s : ScoreWriterState). KeepsJobAndRooms s new) c.self.view_is
    (run_steady old c.args.at (chars (take c.take_run.result.bytes c.args.text.now)) new c.take_run.ensures.runs)
