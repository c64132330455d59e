-- What is shown of joined pitches is what is shown of the one and of the other.
use Rattle.std.proofs.Common.{◌≡◌, ◌++◌, List, ℕ, append_assoc, append-nil}
use Rattle.std.proofs.lemmas.List.{map-append}
use Rattle.gabc_marks.specs.Heads.{Bytes, Note as ShownNote, notes_of}
use Rattle.gabc_pen.proofs.HeadsJoin.{heads-append, planned-append, notes-append}
use Rattle.gabc_draw.proofs.PartsJoin.{groups-append}

pub shown-append : (bytes : Bytes) (a b : List ℕ) → notes_of bytes (a ++ b) ≡ notes_of bytes a ++ notes_of bytes b
shown-append bytes a b = map-append (ShownNote bytes) a b

pub ruleset joined = (groups-append, heads-append, planned-append, notes-append, shown-append, append_assoc, append-nil)
