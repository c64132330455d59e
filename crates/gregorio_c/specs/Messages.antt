-- Messages as records.
use Rattle.std.specs.Prelude.{ℕ, List, [], ◌∷◌, ◌++◌, Bool, Option, Some, None, if◌then◌else◌}
use Rattle.std.specs.List.{flat_map}
use Rattle.gabc_places.specs.Code.{severity_of}
use Rattle.gabc_places.specs.declared.code.Code.{Code}
use Rattle.gabc_places.specs.declared.code.Fault.{Fault}
use Rattle.gabc_places.specs.declared.code.Finding.{Finding}
use Rattle.gabc_places.specs.declared.place.Place.{Place}
use Rattle.gabc_places.specs.declared.severity.Severity.{Severity}
use Rattle.gabc_places.specs.declared.severity.Severity.TheVariants.{Warning, Error, Fatal}
use Rattle.gabc_body.specs.declared.score.Score.{Score}
use Rattle.gabc_tree.specs.CodeNumber.{number_of_code}
use Rattle.gregorio.specs.Outcome.{is_shown}
use Rattle.gregorio_c.specs.declared.message.Message.{Message}

abbrev pub severity_number : Severity → ℕ
severity_number Warning = 0
severity_number Error = 1
severity_number Fatal = 2

-- the message of a code at a place
abbrev pub message_at : Place → Code → Message
message_at place code = record { line = place.line; column = place.column; severity = severity_number (severity_of code); code = number_of_code code }

abbrev pub shown_message : Bool → Finding → List Message
shown_message all_warnings f = if is_shown all_warnings f then message_at f.place f.code ∷ [] else []

abbrev pub fault_message : Option Fault → List Message
fault_message None = []
fault_message (Some fault) = message_at fault.place fault.code ∷ []

-- the messages of the findings of a score, warnings only if all are reported, and last that of its
-- fault
abbrev pub messages_by : Bool → Score → List Message
messages_by all_warnings score = flat_map (shown_message all_warnings) score.findings ++ fault_message score.fault
