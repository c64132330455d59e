-- The lines that report findings and faults.
use Rattle.std.specs.Prelude.{ℕ, List, ◌++◌, codes}
use Rattle.gabc_places.specs.declared.place.Place.{Place}
use Rattle.gabc_places.specs.declared.code.Code.{Code}
use Rattle.gabc_places.specs.Message.{message_text}

-- the line that reports a code at a place of the input with this name: `NAME:LINE:COLUMN: KIND:
-- CODE: TEXT` and LF
abbrev pub line_of : List ℕ → Place → Code → List ℕ
line_of name place code = name ++ codes ":" ++ message_text place code ++ codes "\n"
