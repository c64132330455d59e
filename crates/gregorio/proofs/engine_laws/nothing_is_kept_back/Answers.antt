use Rattle.std.proofs.Common.{◌≡◌, [], ◌≤◌, Option, IfSome, IsSome, length, subst, arith}
use Rattle.gabc_places.specs.StageLaw.{concat_of}
use Rattle.gabc_body.specs.ScoreEvents.{syllables_in}
use Rattle.std.specs.List.{All}
use Rattle.gabc_body.specs.Syllable.{PlacedSyllable}
use Rattle.gabc_write.specs.SyllableRead.{IsWrittenAsOne}
use Rattle.gabc_score.specs.witness.ScoreStage.{ScoreStageState, left_of}
use Rattle.gregorio.specs.declared.run_ending.RunEnding.{RunEnding}
use Rattle.gregorio.specs.witness.Engine.{EngineState, Written}
use Rattle.gregorio.specs.machine.ScoreWriter.{IsOver, IsSilent}
use Rattle.gregorio.proofs.pieces.BytesAreTaken.{GivesNoLast, no_fault_if_broken, read_fault_if_broken}
use Rattle.gregorio.proofs.pieces.NothingIsKeptBack.{prompt_now}
use Rattle.gregorio.proofs.engine_laws.nothing_is_kept_back.Goals as goal

silent_where_over : (o : Option RunEnding) (w : Written) (score : ScoreStageState) → o ≡ w.ended → IfSome o (λ how. IsOver w score how) → IsSome w.ended → IsSilent score
silent_where_over o w score is over some = grind arith

pub returns : goal.returns
returns c =
    let s = c.args.engine.now in
    let w = c.engine.inside.writer in
    let law = c.inputs_that_cease_give_no_stop.ensures in
    let gives : GivesNoLast (concat_of (left_of s.score [])) = record { findings = law.findings s.score; stop = law.stop s.score; end = law.end s.score } in
    let few = subst (λ (x : ScoreStageState). length (syllables_in (concat_of (left_of x []))) ≤ 1) c.score-score.ensures c.at_most_one_syllable_is_held.ensures in
    let over = subst (λ (e : EngineState). IsSome e.written.ended → IsSilent e.score) c.engine.view_is (silent_where_over c.ended.result w.writer.written w.score c.ended.ensures.ended c.ended.ensures.over) in
    let one =
    subst (λ (x : ScoreStageState). All (λ (p : PlacedSyllable). IsWrittenAsOne x.body.nabc_lines x.body.macros p.made) (syllables_in (concat_of (left_of x []))))
    c.score-score.ensures c.what_breaks_off_is_one_syllable.ensures
    in
    record {
      prompt = prompt_now s gives few one over;
      running = λ runs. read_fault_if_broken s runs gives;
      fault = λ runs. no_fault_if_broken s runs gives;
    }
