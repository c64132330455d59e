use Rattle.std.proofs.Common.{refl, subst}
use Rattle.gabc_score.specs.Resumed.{IsAfterSyllables}
use Rattle.gabc_body.specs.declared.before.Before.{Before}
use Rattle.gregorio_state.specs.Fields.{fields_of, score_of}
use Rattle.gregorio.specs.SavedState.{before_held}
use Rattle.gregorio.proofs.setting_down.StateIsRead.{counts_within}
use Rattle.gregorio.proofs.set_down.stage_after.Goals as goal

pub returns-in-Ok-clause-stands : goal.returns-in-Ok-clause-stands
returns-in-Ok-clause-stands c =
    let limits = c.args.state.now.limits in
    let f = score_of c.args.fields.now in
    let stands = subst (λ (b : Before). IsAfterSyllables limits b c.in-Ok.stage) c.before_held.ensures c.in-Ok.ensures in
    record { stands = stands; told = c.a_resumed_stage_reports_a_text.ensures limits (before_held f) c.in-Ok.stage stands (counts_within (fields_of c.args.state.now) f c.requires limits refl) }
