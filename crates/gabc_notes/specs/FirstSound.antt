-- Whether a note or a clef comes first in a kept text.
use Rattle.std.specs.Prelude.{List, [], ◌∷◌, Bool, true, false, Option, Some, None}
use Rattle.gabc_notes.specs.Events.{ItemText}
use Rattle.gabc_notes.specs.declared.item.ItemKind.{ItemKind}
use Rattle.gabc_notes.specs.declared.item.ItemKind.TheVariants.{Note, Clef}

-- the first of these items that is a note or a clef is a note
abbrev pub first_sound : List ItemText → Option Bool
first_sound [] = None
first_sound ((Note, t) ∷ items) = Some true
first_sound ((Clef, t) ∷ items) = Some false
first_sound (i ∷ items) = first_sound items

-- it is a note, if it is one of the two
abbrev pub is_note : Option ItemKind → Option Bool
is_note (Some Note) = Some true
is_note (Some Clef) = Some false
is_note _ = None
