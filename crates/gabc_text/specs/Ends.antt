-- A text ends once: with its `(`, or with the end of the input.
use Rattle.std.specs.Prelude.{◌≡◌, ℕ, List, [], ◌∷◌, ◌++◌, length, drop}
use Rattle.gabc_places.specs.StageLaw.{concat_of}
use Rattle.gabc_places.specs.declared.place.Place.{Place}
use Rattle.gabc_text.specs.declared.text_event.TextEnd.{TextEnd}
use Rattle.gabc_text.specs.declared.text_event.TextEnd.TheVariants as ending
use Rattle.gabc_text.specs.declared.text_event.TextEvent.{TextEvent}
use Rattle.gabc_text.specs.declared.text_event.TextEvent.TheVariants as out
use Rattle.gabc_text.specs.Events.{events_by_point, no_events_each, after_tokens}

-- the ends among the events
abbrev pub ends_in : List TextEvent → List TextEnd
ends_in [] = []
ends_in (out.Ended how ∷ os) = how ∷ ends_in os
ends_in (o ∷ os) = ends_in os

-- what is left of a text that ends so: the `(` of the notes and what follows it, or nothing
abbrev pub Leaves : TextEnd → List ℕ → Type 0
Leaves ending.Notes rest = rest ≡ 40 ∷ drop 1 rest
Leaves _ rest = rest ≡ []

-- After the prefix of a text its end is emitted, as the last of what is emitted there: in front of
-- what its tokens leave. Nothing before it is an end, and for the characters from there on nothing
-- more is emitted.
pub record EndsOnce (at : Place) (t : List ℕ) : Type 0 where
  pub prefix : List ℕ
  pub rest : List ℕ
  pub before : List (List TextEvent)
  pub last : List TextEvent
  pub how : TextEnd
  pub text_is : t ≡ prefix ++ rest
  pub rest_is : rest ≡ after_tokens t
  pub events_are : events_by_point at t ≡ before ++ (last ++ out.Ended how ∷ []) ∷ no_events_each rest
  pub one_each : length before ≡ length prefix
  pub none_before : ends_in (concat_of before) ≡ []
  pub none_in_last : ends_in last ≡ []
  pub leaves : Leaves how rest
