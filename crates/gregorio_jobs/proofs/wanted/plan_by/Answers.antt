use Rattle.std.proofs.Common.{rules, ◌≡◌, ◌∙◌, false, Err, sym, ap, ap₂}
use Rattle.std.specs.Prelude.{is_some}
use Rattle.clap.specs.Words.{found_of, rows_of}
use Rattle.clap.proofs.WalkLemmas.{first_value-rows}
use Rattle.gregorio_jobs.specs.declared.arguments.TheConstants.{FORMAT, OUTPUT, MESSAGES, FILE}
use Rattle.gregorio_jobs.specs.Wants.{argument_values}
use Rattle.gregorio_jobs.specs.machine.Plan.{format_by, input_by, output_by}
use Rattle.gregorio_jobs.proofs.answers.AnswersByStep.{stops_at_format, stops_at_input, stops_at_output, runs_a_job}
use Rattle.gregorio_jobs.proofs.answers.ArgumentsByRows.{is_some-texts}
use Rattle.gregorio_jobs.proofs.answers.AnswersOfResult.{answered_ok, answered_err}
use Rattle.gregorio_jobs.proofs.wanted.plan_by.Goals as goal

pub returns-in_err-format : goal.returns-in_err-format
returns-in_err-format c = λ h.
    let matched = argument_values (rows_of (found_of c.args.matches.now)) in
    let help : matched.help ≡ false = sym c.is_used.ensures ∙ c.if-is_used.false in
    let text = c.get_str.ensures ∙ first_value-rows (found_of c.args.matches.now) FORMAT.now in
    let format = ap format_by (sym text) ∙ (sym c.format_of.ensures ∙ c.in_err-format.was) in
    let is : c.from_residual.result ≡ Err c.in_err-format.field-0.0 = search rules in
    is ∙ sym (stops_at_format matched _ help format)

pub returns-in_err-input : goal.returns-in_err-input
returns-in_err-input c = λ h.
    let matched = argument_values (rows_of (found_of c.args.matches.now)) in
    let help : matched.help ≡ false = sym c.is_used.ensures ∙ c.if-is_used.false in
    let text = c.get_str.ensures ∙ first_value-rows (found_of c.args.matches.now) FORMAT.now in
    let file = c.get_str-file.ensures ∙ first_value-rows (found_of c.args.matches.now) FILE.now in
    let format = ap format_by (sym text) ∙ (sym c.format_of.ensures ∙ c.in_ok-format.was) in
    let is : c.from_residual-in_err-input.result ≡ Err c.in_err-input.field-0.0 = search rules in
    let input = ap₂ input_by (sym c.is_used-2.ensures) (sym file) ∙ answered_err _ _ _ _ c.input_of.ensures c.in_err-input.was is h in
    is ∙ sym (stops_at_input matched _ _ help format input)

pub returns-in_err-output : goal.returns-in_err-output
returns-in_err-output c = λ h.
    let matched = argument_values (rows_of (found_of c.args.matches.now)) in
    let help : matched.help ≡ false = sym c.is_used.ensures ∙ c.if-is_used.false in
    let text = c.get_str.ensures ∙ first_value-rows (found_of c.args.matches.now) FORMAT.now in
    let file = c.get_str-file.ensures ∙ first_value-rows (found_of c.args.matches.now) FILE.now in
    let out = c.get_str-2.ensures ∙ first_value-rows (found_of c.args.matches.now) OUTPUT.now in
    let format = ap format_by (sym text) ∙ (sym c.format_of.ensures ∙ c.in_ok-format.was) in
    let input = ap₂ input_by (sym c.is_used-2.ensures) (sym file) ∙ answered_ok _ _ _ c.input_of.ensures c.in_ok-input.was in
    let is : c.from_residual-in_err-output.result ≡ Err c.in_err-output.field-0.0 = search rules in
    let reads = sym (ap is_some file) ∙ (is_some-texts c.get_str-file.result ∙ sym c.is_some.ensures) in
    let output = ap₂ (λ o s. output_by o s (is_some matched.file)) (sym out) (sym c.is_used-stdout.ensures)
    ∙ (ap (output_by _ c.is_used-stdout.result) reads ∙ answered_err _ _ _ _ c.output_of.ensures c.in_err-output.was is h) in
    is ∙ sym (stops_at_output matched _ _ _ help format input output)

pub returns : goal.returns
returns c = λ h.
    let matched = argument_values (rows_of (found_of c.args.matches.now)) in
    let help : matched.help ≡ false = sym c.is_used.ensures ∙ c.if-is_used.false in
    let text = c.get_str.ensures ∙ first_value-rows (found_of c.args.matches.now) FORMAT.now in
    let file = c.get_str-file.ensures ∙ first_value-rows (found_of c.args.matches.now) FILE.now in
    let out = c.get_str-2.ensures ∙ first_value-rows (found_of c.args.matches.now) OUTPUT.now in
    let list = c.get_str-3.ensures ∙ first_value-rows (found_of c.args.matches.now) MESSAGES.now in
    let format = ap format_by (sym text) ∙ (sym c.format_of.ensures ∙ c.in_ok-format.was) in
    let input = ap₂ input_by (sym c.is_used-2.ensures) (sym file) ∙ answered_ok _ _ _ c.input_of.ensures c.in_ok-input.was in
    let reads = sym (ap is_some file) ∙ (is_some-texts c.get_str-file.result ∙ sym c.is_some.ensures) in
    let output = ap₂ (λ o s. output_by o s (is_some matched.file)) (sym out) (sym c.is_used-stdout.ensures)
    ∙ (ap (output_by _ c.is_used-stdout.result) reads ∙ answered_ok _ _ _ c.output_of.ensures c.in_ok-output.was) in
    let matched_is = answered_ok _ _ _ c.messages_of.ensures c.in_ok-messages.was in
    let messages : matched.messages ≡ c.in_ok-messages.messages = sym list ∙ cc in
    sym (runs_a_job matched _ _ _ _ _ help format input output messages (sym c.is_used-3.ensures))
