-- A stage over a body that stands at the beginning of a text emits what the definition says of a text that begins there.
use Rattle.std.proofs.Common.{◌≡◌, ℕ, List, arith}
use Rattle.gabc_places.specs.declared.place.Place.{Place}
use Rattle.gabc_places.specs.Place.{placed_characters_from}
use Rattle.gabc_text.specs.Events.{CountsFit, events_by_point}
use Rattle.gabc_text.specs.TextStage.{fresh_stage}
use Rattle.gabc_text.specs.witness.EventsLeft as text
use Rattle.gabc_score.specs.declared.body_stage.BodyPart.TheVariants as part
use Rattle.gabc_body.specs.Events.{texts_by_definition, text_from, events_from}
use Rattle.gabc_score.specs.witness.BodyStage.{BodyStageState, running_events_left}
use Rattle.gabc_score.proofs.texts_of_body.StageAndDefinitionAgree.{same_texts, same_emitted}

pub from_beginning : ((at : Place) (t : List ℕ) → CountsFit at t → text.events_left (fresh_stage at) t ≡ events_by_point at t) → (r : BodyStageState) (at : Place) (t : List ℕ) → r.part ≡ part.Text (fresh_stage at) → CountsFit at t
    → (let xs = placed_characters_from at t in running_events_left r xs ≡ events_from texts_by_definition r.nabc_lines r.macros (text_from texts_by_definition at xs) xs)
from_beginning step r at t e fits = grind (arith, same_emitted, same_texts)
