-- Events of texts as those of a body, and characters without a place.
use Rattle.std.specs.Prelude.{ℕ, List, map}
use Rattle.gabc_places.specs.declared.place.Char.{Char}
use Rattle.gabc_text.specs.declared.text_event.TextEvent.{TextEvent}
use Rattle.gabc_body.specs.declared.events.BodyEvent.{BodyEvent}
use Rattle.gabc_body.specs.declared.events.BodyEvent.TheVariants as event

abbrev pub kept_char : ℕ → Char
kept_char c = record { c = c; place = record { line = 0; column = 0 } }

abbrev pub text_events : List TextEvent → List BodyEvent
text_events events = map (λ (o : TextEvent). event.Text o) events
