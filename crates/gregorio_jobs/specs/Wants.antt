-- What words want, by the matches that `clap` states for the command.
use Rattle.std.specs.Prelude.{Bool, true, false, not, ◌&&◌, List, [], ◌∷◌, Option, Some, None, is_some, option_map, option_and_then, unwrap_or, find, Result, Ok, Err, codes, if◌then◌else◌}
use Rattle.std.specs.Option.{option_map_or}
use Rattle.std.specs.Str.{bytes_eq}
use Rattle.clap.specs.Words.{Kinds, Row, Text, fault_of, first_of, matches_of}
use Rattle.clap.specs.declared.parser.ValueSource.{ValueSource}
use Rattle.clap.specs.declared.parser.ValueSource.TheVariants.{CommandLine}
use Rattle.gregorio_jobs.specs.declared.arguments.TheConstants.{FORMAT, OUTPUT, MESSAGES, STDIN, STDOUT, WARNINGS, HELP, FILE}
use Rattle.gregorio_jobs.specs.declared.job.Format.{Format}
use Rattle.gregorio_jobs.specs.declared.job.Format.TheVariants.{Gabc, Dump}
use Rattle.gregorio_jobs.specs.declared.job.Input.TheVariants.{Stdin, File as InputFile}
use Rattle.gregorio_jobs.specs.declared.job.Output.TheVariants.{Stdout, File as OutputFile}
use Rattle.gregorio_jobs.specs.declared.job.Job.{Job}
use Rattle.gregorio_jobs.specs.declared.job.Plan.{Plan}
use Rattle.gregorio_jobs.specs.declared.job.Plan.TheVariants.{Help, Run}
use Rattle.gregorio_jobs.specs.declared.refusal.Refusal.{Refusal}
use Rattle.gregorio_jobs.specs.declared.refusal.Refusal.TheVariants.{O1, O2, O3, O4, O5, O6, O7}
use Rattle.gregorio_jobs.specs.Arguments.{gregorio_command}

abbrev pub is_from_words : Option ValueSource → Bool
is_from_words (Some CommandLine) = true
is_from_words source = false

-- the argument is there, and not by a default
abbrev pub is_used : Text → List Row → Bool
is_used id rows = is_from_words (option_and_then (λ (r : Row). r.source) (find (λ r. bytes_eq r.id id) rows))

-- What words say that the command takes: which flags are there, and the first value of each option
-- and of the word that is none.
pub record ArgumentValues : Type 0 where
  pub help : Bool
  pub format : Option Text
  pub stdin : Bool
  pub file : Option Text
  pub output : Option Text
  pub stdout : Bool
  pub messages : Option Text
  pub all_warnings : Bool

abbrev pub argument_values : List Row → ArgumentValues
argument_values rows = record {
  help = is_used HELP.now rows;
  format = first_of FORMAT.now rows;
  stdin = is_used STDIN.now rows;
  file = first_of FILE.now rows;
  output = first_of OUTPUT.now rows;
  stdout = is_used STDOUT.now rows;
  messages = first_of MESSAGES.now rows;
  all_warnings = is_used WARNINGS.now rows;
}

abbrev pub format_named : Text → Option Format
format_named name =
    if bytes_eq name (codes "gabc") then Some Gabc else (if bytes_eq name (codes "dump") then Some Dump else None)

-- the format, where one is given that is known
abbrev pub format_of : ArgumentValues → Option Format
format_of matched = option_and_then format_named matched.format

-- the refusals in their order, each with whether it applies
abbrev pub refusals : ArgumentValues → List (Bool × Refusal)
refusals matched =
    (not (is_some matched.format), O2)
    ∷ (not (is_some (format_of matched)), O3)
    ∷ (matched.stdin && is_some matched.file, O4)
    ∷ (not matched.stdin && not (is_some matched.file), O5)
    ∷ (is_some matched.output && matched.stdout, O6)
    ∷ (is_some matched.file && (not (is_some matched.output) && not matched.stdout), O7)
    ∷ []

abbrev pub first_refusal : ArgumentValues → Option Refusal
first_refusal matched = option_map (λ r. r.1) (find (λ r. r.0) (refusals matched))

-- the job; where no refusal applies, a format is given
abbrev pub job_of : ArgumentValues → Job
job_of matched = record {
  format = unwrap_or (format_of matched) Gabc;
  input = option_map_or InputFile matched.file Stdin;
  output = option_map_or OutputFile matched.output Stdout;
  messages = matched.messages;
  all_warnings = matched.all_warnings;
}

-- help if it is asked for; else the first refusal; else the job
abbrev pub answer : ArgumentValues → Result Plan Refusal
answer matched = if matched.help then Ok Help else option_map_or Err (first_refusal matched) (Ok (Run (job_of matched)))

abbrev pub answer_unless : Kinds → ArgumentValues → Result Plan Refusal
answer_unless [] matched = answer matched
answer_unless (kind ∷ kinds) matched = Err O1

-- `O1` where `clap` states that the command refuses the words; else the answer to what they say
abbrev pub wants : List Text → Result Plan Refusal
wants words = answer_unless (fault_of gregorio_command words) (argument_values (matches_of gregorio_command words))
