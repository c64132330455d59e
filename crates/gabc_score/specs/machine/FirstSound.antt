-- The first sound of a score, as a kind of items.
use Rattle.std.specs.Prelude.{Option, Some, None}
use Rattle.gabc_notes.specs.declared.item.ItemKind.{ItemKind}
use Rattle.gabc_notes.specs.declared.item.ItemKind.TheVariants as kind
use Rattle.gabc_score.specs.declared.first_sound.FirstSound.{FirstSound}
use Rattle.gabc_score.specs.declared.first_sound.FirstSound.TheVariants.{Note, Clef, Either}

-- After `Either`, as after a clef, no note before any clef is found.
abbrev pub kind_of : Option FirstSound → Option ItemKind
kind_of None = None
kind_of (Some Note) = Some kind.Note
kind_of (Some Clef) = Some kind.Clef
kind_of (Some Either) = Some kind.Clef
