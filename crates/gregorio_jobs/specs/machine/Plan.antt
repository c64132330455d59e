-- The answers of the steps of the plan.
use Rattle.std.specs.Prelude.{[], Bool, true, false, Option, Some, None, Result, Ok, Err}
use Rattle.std.specs.Option.{option_map_or}
use Rattle.clap.specs.Words.{App, Text}
use Rattle.clap.specs.Simple.{on_top}
use Rattle.clap.specs.declared.error.ErrorKind.{ErrorKind}
use Rattle.clap.specs.declared.error.ErrorKind.TheVariants.{OutOfMemory}
use Rattle.gregorio_jobs.specs.declared.job.Format.{Format}
use Rattle.gregorio_jobs.specs.declared.job.Input.{Input}
use Rattle.gregorio_jobs.specs.declared.job.Input.TheVariants.{Stdin, File as InputFile}
use Rattle.gregorio_jobs.specs.declared.job.Output.{Output}
use Rattle.gregorio_jobs.specs.declared.job.Output.TheVariants.{Stdout, File as OutputFile}
use Rattle.gregorio_jobs.specs.declared.refusal.Refusal.{Refusal}
use Rattle.gregorio_jobs.specs.declared.refusal.Refusal.TheVariants.{O0, O1, O2, O3, O4, O5, O6, O7}
use Rattle.gregorio_jobs.specs.Wants.{format_named}

-- a command without its arguments
abbrev pub without_rules : App → App
without_rules = on_top (λ s. record s { rules = [] })

abbrev pub refused_by : ErrorKind → Refusal
refused_by OutOfMemory = O0
refused_by kind = O1

abbrev pub format_by : Option Text → Result Format Refusal
format_by None = Err O2
format_by (Some name) = option_map_or Ok (format_named name) (Err O3)

abbrev pub input_by : Bool → Option Text → Result Input Refusal
input_by true (Some name) = Err O4
input_by false None = Err O5
input_by true None = Ok Stdin
input_by false (Some name) = Ok (InputFile name)

abbrev pub output_by : Option Text → Bool → Bool → Result Output Refusal
output_by (Some name) true reads_file = Err O6
output_by None false true = Err O7
output_by (Some name) false reads_file = Ok (OutputFile name)
output_by None true reads_file = Ok Stdout
output_by None false false = Ok Stdout
