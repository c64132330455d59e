use Rattle.std.proofs.Common.{◌≡◌, refl, rules}
use Rattle.gabc_text.specs.machine.TokenState.{next_step}
use Rattle.gabc_text.specs.declared.token_state.Step.TheVariants.{Ends}
use Rattle.gabc_text.proofs.stage.TextStage.read.Goals as goal

pub returns-in-Ends-clause-stage : goal.returns-in-Ends-clause-stage
returns-in-Ends-clause-stage c =
    let step : next_step c.args.self.now.state c.args.c ≡ Ends c.in-Ends.kind c.in-Ends.effect = search rules in
    rw (step, c.token.ensures.stage, c.pass.ensures, c.keep-kept.ensures) refl
