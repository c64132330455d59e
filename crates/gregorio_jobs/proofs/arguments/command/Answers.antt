use Rattle.std.proofs.Common.{◌∙◌, ap₂}
use Rattle.std.proofs.lemmas.Result.{IfOk-weaker}
use Rattle.clap.specs.Simple.{with_rule}
use Rattle.gregorio_jobs.proofs.arguments.command.Goals as goal

pub returns : goal.returns
returns c =
    let one = c.in_ok-arg.ensures.shape c.option.ensures.local ∙ ap₂ with_rule c.bare_command.ensures c.option.ensures.rule in
    let two = c.in_ok-arg-2.ensures.shape c.option-2.ensures.local ∙ ap₂ with_rule one c.option-2.ensures.rule in
    let three = c.in_ok-arg-3.ensures.shape c.option-3.ensures.local ∙ ap₂ with_rule two c.option-3.ensures.rule in
    let four = c.in_ok-arg-4.ensures.shape c.flag.ensures.local ∙ ap₂ with_rule three c.flag.ensures.rule in
    let five = c.in_ok-arg-5.ensures.shape c.flag-2.ensures.local ∙ ap₂ with_rule four c.flag-2.ensures.rule in
    let six = c.in_ok-arg-6.ensures.shape c.flag-3.ensures.local ∙ ap₂ with_rule five c.flag-3.ensures.rule in
    let seven = c.in_ok-arg-7.ensures.shape c.flag-4.ensures.local ∙ ap₂ with_rule six c.flag-4.ensures.rule in
    IfOk-weaker c.arg-8.result _ _ (λ r added. added.shape c.file_argument.ensures.local ∙ ap₂ with_rule seven c.file_argument.ensures.rule) c.arg-8.ensures
