-- The outcome of a run, and its output, messages and status: functions of the job, the limits, the
-- bytes of the source and how it stopped.
use Rattle.std.specs.Prelude.{ℕ, List, [], ◌++◌, Bool, true, false, ◌||◌, not, Option, Some, None, is_some, codes, if◌then◌else◌}
use Rattle.std.specs.List.{flat_map, list_any}
use Rattle.gabc_places.specs.declared.limits.Limits.{Limits}
use Rattle.gabc_places.specs.declared.severity.Severity.{Severity}
use Rattle.gabc_places.specs.declared.severity.Severity.TheVariants.{Warning, Error}
use Rattle.gabc_places.specs.declared.code.Finding.{Finding}
use Rattle.gabc_places.specs.declared.code.Fault.{Fault}
use Rattle.gabc_places.specs.Code.{severity_of}
use Rattle.gabc_places.specs.Text.{decoded_of}
use Rattle.gabc_body.specs.declared.ending.InputEnding as score
use Rattle.gabc_body.specs.declared.ending.InputEnding.TheVariants as score_ending
use Rattle.gabc_body.specs.Syllable.{PlacedSyllable}
use Rattle.gabc_body.specs.declared.score.Score.{Score}
use Rattle.gabc_body.specs.Score.{score_of}
use Rattle.gregorio.specs.declared.source_ending.SourceEnding.{SourceEnding}
use Rattle.gregorio.specs.declared.source_ending.SourceEnding.TheVariants.{Whole as Ended, Broken}
use Rattle.gregorio_jobs.specs.declared.job.Format.{Format}
use Rattle.gregorio_jobs.specs.declared.job.Format.TheVariants.{Gabc, Dump}
use Rattle.gregorio_jobs.specs.declared.job.Input.{Input}
use Rattle.gregorio_jobs.specs.declared.job.Input.TheVariants.{Stdin, File}
use Rattle.gregorio_jobs.specs.declared.job.Job.{Job}
use Rattle.gregorio_jobs.specs.declared.job.Status.{Status}
use Rattle.gregorio_jobs.specs.declared.job.Status.TheVariants.{Whole, Errors, Fatal as FatalFault, ReadFault}
use Rattle.gregorio.specs.declared.outcome.Outcome.{Outcome}
use Rattle.gabc_write.specs.CanonicalFile.{score_text}
use Rattle.gabc_write.specs.DumpOfSyllables.{dump_text}
use Rattle.gabc_write.specs.Message.{line_of}

-- ---- the outcome

abbrev pub is_whole : SourceEnding → Bool
is_whole Ended = true
is_whole Broken = false

-- the end of the text: the fault that stopped it, if there is one, or else the end of the source
abbrev pub ending_by : SourceEnding → Option Fault → score.InputEnding
ending_by ending (Some fault) = score_ending.At fault
ending_by Broken None = score_ending.Broken
ending_by Ended None = score_ending.Whole

-- the source failed, and no fault stops the run
abbrev pub is_cut_short : SourceEnding → Option Fault → Bool
is_cut_short Broken None = true
is_cut_short ending fault = false

abbrev pub outcome_of : Limits → SourceEnding → List ℕ → Outcome
outcome_of limits ending bytes =
    let decoded = decoded_of limits (is_whole ending) bytes in
    let score = score_of limits (ending_by ending decoded.fault) decoded.text in
    record { score = score; broken = is_cut_short ending score.fault }

-- ---- the output and the messages

-- no fault stopped the reading, and the source did not fail
abbrev pub is_read_whole : Outcome → Bool
is_read_whole outcome = not (is_some outcome.score.fault || outcome.broken)

-- the text of these headers and syllables, of a whole score or of a part of one
abbrev pub text_in : Format → Bool → List (List ℕ × List ℕ) → List PlacedSyllable → List ℕ
text_in Gabc whole book syllables = score_text book syllables
text_in Dump whole book syllables = dump_text whole book syllables

-- nothing, if the headers are not whole
abbrev pub output_by : Format → Bool → Option (List (List ℕ × List ℕ)) → List PlacedSyllable → List ℕ
output_by format whole None syllables = []
output_by format whole (Some book) syllables = text_in format whole book syllables

abbrev pub output_of : Format → Outcome → List ℕ
output_of format outcome = output_by format (is_read_whole outcome) outcome.score.book outcome.score.syllables

abbrev pub is_warning : Severity → Bool
is_warning Warning = true
is_warning kind = false

abbrev pub is_error : Severity → Bool
is_error Error = true
is_error kind = false

-- a finding is shown: a warning only if all warnings are
abbrev pub is_shown : Bool → Finding → Bool
is_shown all_warnings finding = all_warnings || not (is_warning (severity_of finding.code))

abbrev pub shown_line : List ℕ → Bool → Finding → List ℕ
shown_line name all_warnings f = if is_shown all_warnings f then line_of name f.place f.code else []

abbrev pub fault_line : List ℕ → Option Fault → List ℕ
fault_line name None = []
fault_line name (Some fault) = line_of name fault.place fault.code

-- the name of the input in messages
abbrev pub input_name : Input → List ℕ
input_name Stdin = codes "<stdin>"
input_name (File name) = name

-- the lines of the findings of a score, and last that of its fatal fault, with this name of the
-- input
abbrev pub lines_of : List ℕ → Bool → Score → List ℕ
lines_of name all_warnings score = flat_map (shown_line name all_warnings) score.findings ++ fault_line name score.fault

abbrev pub messages_of : Job → Outcome → List ℕ
messages_of job outcome = lines_of (input_name job.input) job.all_warnings outcome.score

abbrev pub status_by : Option Fault → Bool → Bool → Status
status_by (Some fault) broken errors = FatalFault
status_by None true errors = ReadFault
status_by None false true = Errors
status_by None false false = Whole

abbrev pub is_error_finding : Finding → Bool
is_error_finding finding = is_error (severity_of finding.code)

-- a fatal fault hides the source's failure and errors, and a failure hides errors
abbrev pub status_with : Score → Bool → Status
status_with score broken = status_by score.fault broken (list_any is_error_finding score.findings)

abbrev pub status_of : Outcome → Status
status_of outcome = status_with outcome.score outcome.broken
