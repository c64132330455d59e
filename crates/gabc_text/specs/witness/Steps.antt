-- The step of a stage over a text.
use Rattle.std.specs.Prelude.{◌≡◌, List, ◌∷◌}
use Rattle.gabc_places.specs.declared.place.Char.{Char}
use Rattle.gabc_text.specs.Events.{codes_of}
use Rattle.gabc_text.specs.declared.stage.TextStage.{TextStage}
use Rattle.gabc_text.specs.declared.text_event.TextEvent.{TextEvent}
use Rattle.gabc_text.specs.witness.EventsLeft.{events_left}
use Rattle.gabc_text.specs.witness.Keeps.{KeepsOn}

-- The stage takes a character with these events, and is `after` then.
pub record Steps (before : TextStage) (x : Char) (events : List TextEvent) (after : TextStage) : Type 0 where
  pub emits : (xs : List Char) → events_left before (codes_of (x ∷ xs)) ≡ events ∷ events_left after (codes_of xs)
  pub keeps : KeepsOn before x.c events after
