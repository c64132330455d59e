-- The state of two slots after syllables that another pair has read.
use Rattle.std.specs.Prelude.{Bool, true, false, Option, Some, None}
use Rattle.gabc_notes.specs.declared.item.ItemKind.{ItemKind}
use Rattle.gabc_body.specs.declared.before.Before.{Before}
use Rattle.gabc_score.specs.declared.first_sound.FirstSound.TheVariants.{Either}
use Rattle.gabc_score.specs.Before.{preceding_of}
use Rattle.gabc_score.specs.machine.FirstSound.{kind_of}
use Rattle.gabc_score.specs.machine.Preceded.{gathered_after}
use Rattle.gabc_body.specs.witness.Gatherer.{Gathered}

-- If a note or a clef has come, it is not known which.
abbrev pub first_sounded : Bool → Option ItemKind
first_sounded true = kind_of (Some Either)
first_sounded false = None

-- the state gathered after the syllables that are reported
abbrev pub gathered_resumed : Before → Gathered → Gathered
gathered_resumed b g = record (gathered_after (preceding_of b) g) { first_kind = first_sounded b.sounded }
