-- Counts of the current syllable, by the part that reads the next character.
use Rattle.std.specs.Prelude.{◌≡◌, ◌+◌, ◌≤◌, List, [], length}
use Rattle.gabc_text.specs.witness.PiecesOwed.{pieces_owed}
use Rattle.gabc_body.specs.declared.events.BodyEvent.{BodyEvent}
use Rattle.gabc_score.specs.declared.body_stage.BodyPart.{BodyPart}
use Rattle.gabc_score.specs.declared.body_stage.BodyPart.TheVariants as part
use Rattle.gabc_body.specs.witness.BodyBuilder.{with_all}
use Rattle.gabc_body.specs.witness.Gatherer.{Gathered}
use Rattle.gabc_score.specs.machine.Slot.{FitEach}
use Rattle.gabc_body.specs.witness.SyllableBuilder.{OpenSyllable, nothing_open}

-- there are no more snippets than bytes before the current part, since each has its mark among them
abbrev pub CountsInNotes : OpenSyllable → Type 0
CountsInNotes o = (length o.snippets ≤ o.from) × (o.from ≤ length o.kept)

-- in the comment in front nothing is read; in a text there are no more pieces, with those that it
-- owes, than kept bytes, and no snippets
abbrev pub CountsHold : BodyPart → OpenSyllable → Type 0
CountsHold part.Comment o = o ≡ nothing_open
CountsHold (part.Text stage) o = (length o.view.pieces + pieces_owed stage ≤ length o.kept) × ((o.from ≤ length o.kept) × (o.snippets ≡ []))
CountsHold (part.Notes opened stage) o = CountsInNotes o
CountsHold (part.Nabc line opened stage) o = CountsInNotes o

-- With these events a part continues as the other: the counts hold again, and the events fit if the
-- kept text is within the limit.
pub record PartGoesOn (before after : BodyPart) (now : List BodyEvent) : Type 0 where
  pub counts : (g : Gathered) → CountsHold before g.builder → CountsHold after (with_all g now).builder
  pub fit : (g : Gathered) → CountsHold before g.builder → length g.builder.kept ≤ g.limit → FitEach g now
