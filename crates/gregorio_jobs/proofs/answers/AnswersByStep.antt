-- The answer to what words say, by the steps of the code.
use Rattle.std.proofs.Common.{◌≡◌, ◌∙◌, Bool, true, false, Option, Some, None, Result, Ok, Err, refl}
use Rattle.std.specs.Prelude.{is_some}
use Rattle.std.specs.Option.{option_and_then}
use Rattle.clap.specs.Words.{Text}
use Rattle.gregorio_jobs.specs.declared.job.Format.{Format}
use Rattle.gregorio_jobs.specs.declared.job.Input.{Input}
use Rattle.gregorio_jobs.specs.declared.job.Output.{Output}
use Rattle.gregorio_jobs.specs.declared.job.Plan.{Plan}
use Rattle.gregorio_jobs.specs.declared.job.Plan.TheVariants.{Run}
use Rattle.gregorio_jobs.specs.declared.refusal.Refusal.{Refusal}
use Rattle.gregorio_jobs.specs.Wants.{ArgumentValues, answer, format_named, format_of}
use Rattle.gregorio_jobs.specs.machine.Plan.{format_by, input_by, output_by}

-- the first of these that refuses is the answer; else it is the job
abbrev by_steps : Result Format Refusal → Result Input Refusal → Result Output Refusal → Option Text → Bool → Result Plan Refusal
by_steps (Ok f) (Ok x) (Ok y) messages all_warnings = Ok (Run (record { format = f; input = x; output = y; messages = messages; all_warnings = all_warnings }))
by_steps (Ok f) (Ok x) (Err r) messages all_warnings = Err r
by_steps (Ok f) (Err r) output messages all_warnings = Err r
by_steps (Err r) input output messages all_warnings = Err r

steps_are : (help : Bool) (format : Option Text) (known : Option Format) (stdin : Bool) (file output : Option Text) (stdout : Bool) (messages : Option Text) (all_warnings : Bool)
    → help ≡ false → option_and_then format_named format ≡ known
    → answer (record { help = help; format = format; stdin = stdin; file = file; output = output; stdout = stdout; messages = messages; all_warnings = all_warnings })
    ≡ by_steps (format_by format) (input_by stdin file) (output_by output stdout (is_some file)) messages all_warnings
steps_are true format known stdin file output stdout messages all_warnings h e = absurd (cc h)
steps_are false None known stdin file output stdout messages all_warnings h e = refl
steps_are false (Some name) (Some f) true (Some x) output stdout messages all_warnings h e = rw e refl
steps_are false (Some name) (Some f) true None (Some y) true messages all_warnings h e = rw e refl
steps_are false (Some name) (Some f) true None None true messages all_warnings h e = rw e refl
steps_are false (Some name) (Some f) false (Some x) (Some y) true messages all_warnings h e = rw e refl
steps_are false (Some name) (Some f) false (Some x) None true messages all_warnings h e = rw e refl
steps_are false (Some name) _ _ _ _ _ messages all_warnings h e = rw e refl

is_by_steps : (s : ArgumentValues) → s.help ≡ false
    → answer s ≡ by_steps (format_by s.format) (input_by s.stdin s.file) (output_by s.output s.stdout (is_some s.file)) s.messages s.all_warnings
is_by_steps s h = steps_are s.help s.format (format_of s) s.stdin s.file s.output s.stdout s.messages s.all_warnings h refl

-- ---- the same of what was said

pub stops_at_format : (s : ArgumentValues) (r : Refusal) → s.help ≡ false → format_by s.format ≡ Err r → answer s ≡ Err r
stops_at_format s r h e = is_by_steps s h ∙ (λ i. by_steps (e i) (input_by s.stdin s.file) (output_by s.output s.stdout (is_some s.file)) s.messages s.all_warnings)

pub stops_at_input : (s : ArgumentValues) (f : Format) (r : Refusal) → s.help ≡ false → format_by s.format ≡ Ok f → input_by s.stdin s.file ≡ Err r → answer s ≡ Err r
stops_at_input s f r h format input = is_by_steps s h ∙ (λ i. by_steps (format i) (input i) (output_by s.output s.stdout (is_some s.file)) s.messages s.all_warnings)

pub stops_at_output : (s : ArgumentValues) (f : Format) (x : Input) (r : Refusal) → s.help ≡ false → format_by s.format ≡ Ok f → input_by s.stdin s.file ≡ Ok x
    → output_by s.output s.stdout (is_some s.file) ≡ Err r → answer s ≡ Err r
stops_at_output s f x r h format input output = is_by_steps s h ∙ (λ i. by_steps (format i) (input i) (output i) s.messages s.all_warnings)

pub runs_a_job : (s : ArgumentValues) (f : Format) (x : Input) (y : Output) (m : Option Text) (w : Bool)
    → s.help ≡ false → format_by s.format ≡ Ok f → input_by s.stdin s.file ≡ Ok x
    → output_by s.output s.stdout (is_some s.file) ≡ Ok y → s.messages ≡ m → s.all_warnings ≡ w
    → answer s ≡ Ok (Run (record { format = f; input = x; output = y; messages = m; all_warnings = w }))
runs_a_job s f x y m w h format input output messages all_warnings = is_by_steps s h ∙ (λ i. by_steps (format i) (input i) (output i) (messages i) (all_warnings i))
