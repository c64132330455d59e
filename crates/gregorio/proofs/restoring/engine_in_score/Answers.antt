use Rattle.std.proofs.Common.{◌∙◌, refl, ap, sym, arith}
use Rattle.gregorio_state.specs.Fields.{fields_of, score_of, InScore}
use Rattle.gabc_headers.specs.witness.HeadEvents.{HeaderStageState}
use Rattle.gregorio.specs.machine.HeldHeaders.{after_mark}
use Rattle.gregorio.specs.SavedState.{IsOfJob, ReportsLimits}
use Rattle.gregorio.proofs.ReportedLimitsAreUnique.{told_once}
use Rattle.gregorio.proofs.StatesAreJudged.{if_any, not_read, read_so, stand_so}
use Rattle.gregorio.proofs.restoring.engine_in_score.Goals as goal

pub returns-in_err-score-clause-none : goal.returns-in_err-score-clause-none
returns-in_err-score-clause-none c = grind (arith, not_read)

pub engine_with-requires-clause-stand : goal.engine_with-requires-clause-stand
engine_with-requires-clause-stand c =
    let s = fields_of c.args.state.now in
    let own = c.args.state.now.limits in
    let f = score_of c.args.fields.now in
    let tells : ReportsLimits s own = record { header = refl; syllable = refl; input = refl } in
    let is : IsOfJob c.args.job.now c.args.limits s = c.requires.job in
    let d = c.in_ok-score.ensures.told in
    stand_so s own tells (InScore f) c.requires.phase c.args.limits is.limits_are c.in-Ok.heads c.in_ok-score.score
    (told_once s c.in_ok-score.score.limits c.args.limits d.limits_are is.limits_are)
    (record { heads = c.in-Ok.ensures.stage ∙ ap (after_mark c.args.limits) (sym (ap (λ (h : HeaderStageState). h.hasher) c.in-Ok.ensures.stage)); set_down = d })

pub returns-in-Ok-clause-goes : goal.returns-in-Ok-clause-goes
returns-in-Ok-clause-goes c = grind arith

pub returns-in-Ok-clause-read : goal.returns-in-Ok-clause-read
returns-in-Ok-clause-read c =
    if_any c.engine_with.result
    (read_so (fields_of c.args.state.now) c.args.state.now.limits (record { header = refl; syllable = refl; input = refl }) (InScore (score_of c.args.fields.now)) c.requires.phase c.in_ok-score.ensures.read)
