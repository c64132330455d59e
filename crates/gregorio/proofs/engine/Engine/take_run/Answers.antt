use Rattle.std.proofs.Common.{◌≡◌, ℕ, List, is_none, take, ap, ◌∙◌, arith}
use Rattle.std.specs.List.{slice_range}
use Rattle.std.specs.Str.{chars}
use Rattle.gabc_score.proofs.regular_syllables.BytesOfRegularSyllables.{split_boundary}
use Rattle.gabc_score.proofs.runs.RunTakesOneMoreSyllable.{few_characters}
use Rattle.gregorio.specs.machine.RunWriter.{TakesRuns}
use Rattle.gregorio.specs.machine.ScoreWriter.{WritesRun}
use Rattle.gregorio.specs.witness.Engine.{Written}
use Rattle.gregorio.proofs.pieces.BytesAreTaken.{front_of_front, still_reserved}
use Rattle.gregorio.proofs.pieces.RunIsTaken.{SkipsText, run_in_step, run_reads_on, run_stays_telling, run_together, text_taken}
use Rattle.gregorio.proofs.pieces.RunIsWritten.{run_counted}
use Rattle.gregorio.proofs.pieces.SavedInHeaders.{still_runs}
use Rattle.gregorio.proofs.engine.Engine.take_run.Goals as goal

-- what is cut off in front
front_is : (front bytes : List ℕ) (n : ℕ) → front ≡ slice_range bytes 0 n → front ≡ take n bytes
front_is front bytes n is = is ∙ ap (λ (k : ℕ). take k bytes) (omega arith)

pub range-requires-clause-end_boundary : goal.range-requires-clause-end_boundary
range-requires-clause-end_boundary c = split_boundary c.range-front.result.now c.take_run-run.result.bytes c.range-front.utf8 c.take_run-run.ensures.within

takes : (c : goal.After-skip_text) → TakesRuns c.self.inside.writer.writer.written
takes c = grind arith

-- the text that the decoder skips is that of the run
text_is : (c : goal.After-skip_text) → c.range.result.now ≡ take c.take_run-run.result.bytes c.range-front.result.now
text_is c = front_is c.range.result.now c.range-front.result.now c.take_run-run.result.bytes c.range.ensures.value

writes : (c : goal.After-skip_text) → WritesRun c.self.inside.writer c.self.inside.decoder.place (chars c.range.result.now) c.take_run-run.new.self
writes c = grind (arith, text_is)

skips : (c : goal.After-skip_text) → SkipsText c.self.inside.decoder c.range.result.now c.skip_text.new.self
skips c = grind (arith, few_characters, text_is)

pub invariant_of-self : goal.invariant_of-self
invariant_of-self c =
    let d = c.self.inside.decoder in
    let e = c.skip_text.new.self in
    let h = c.self.inside.heads in
    let w = c.self.inside.writer in
    let new = c.take_run-run.new.self in
    let text = c.range.result.now in
    let step = c.self.invariant.step in
    record {
      few = c.self.invariant.few;
      together = run_together d e h w new text (writes c) (takes c) (skips c) step c.self.invariant.together;
      reserved = still_reserved w new c.take_run-run.ensures.steady c.self.invariant.reserved;
      step = run_in_step d e h w new text (writes c) (takes c) (skips c) step;
      headers = run_reads_on d e h w new text (writes c) (takes c) (skips c) step;
      tells = run_stays_telling d e h w new text (writes c) (takes c) (skips c) step c.self.invariant.tells;
    }

pub returns-clause-takes : goal.returns-clause-takes
returns-clause-takes c = grind (arith, front_is, text_is, front_of_front, text_taken, writes, skips, still_runs)

pub returns-clause-running : goal.returns-clause-running
returns-clause-running c =
    ap (λ (v : Written). is_none v.ended) (run_counted c.self.inside.writer c.self.inside.decoder.place (chars c.range.result.now) c.take_run-run.new.self (writes c)).is
    ∙ (takes c).runs
