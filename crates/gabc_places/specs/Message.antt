-- The words of a message: of a place, of a code, and of a code at a place.
use Rattle.std.specs.Prelude.{ℕ, List, ◌++◌, codes}
use Rattle.std.specs.Fmt.{decimal}
use Rattle.gabc_places.specs.declared.place.Place.{Place}
use Rattle.gabc_places.specs.declared.code.Code.{Code}
use Rattle.gabc_places.specs.declared.severity.Severity.{Severity}
use Rattle.gabc_places.specs.declared.severity.Severity.TheVariants.{Warning, Error, Fatal}
use Rattle.gabc_places.specs.Code.{severity_of, name_of, text_of}

abbrev pub word_of : Severity → List ℕ
word_of Warning = codes "warning"
word_of Error = codes "error"
word_of Fatal = codes "fatal"

-- `LINE:COLUMN`
abbrev pub place_text : Place → List ℕ
place_text place = decimal place.line ++ codes ":" ++ decimal place.column

-- `KIND: CODE: TEXT`
abbrev pub code_text : Code → List ℕ
code_text code = word_of (severity_of code) ++ codes ": " ++ name_of code ++ codes ": " ++ text_of code

-- `LINE:COLUMN: KIND: CODE: TEXT`
abbrev pub message_text : Place → Code → List ℕ
message_text place code = place_text place ++ codes ": " ++ code_text code
