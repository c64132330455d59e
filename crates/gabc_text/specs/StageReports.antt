-- The reports of a stage beside the text that it keeps, by its rest.
use Rattle.std.specs.Prelude.{◌≡◌, ℕ, List, [], ◌∷◌, Bool, true, false, Option, Some, None}
use Rattle.std.specs.List.{All}
use Rattle.gabc_places.specs.Place.{saturating_next_place}
use Rattle.gabc_places.specs.StageLaw.{concat_of}
use Rattle.gabc_places.specs.declared.place.Char.{Char}
use Rattle.gabc_places.specs.declared.place.Place.{Place}
use Rattle.gabc_text.specs.declared.stage.TextStage.{TextStage}
use Rattle.gabc_text.specs.declared.text_event.TextEnd.TheVariants.{Cut}
use Rattle.gabc_text.specs.declared.text_event.TextEvent.{TextEvent}
use Rattle.gabc_text.specs.declared.text_event.TextEvent.TheVariants.{Ended}
use Rattle.gabc_text.specs.BuiltText.{kept_chars_in}
use Rattle.gabc_text.specs.witness.EventsLeft.{events_left}
use Rattle.gabc_text.specs.witness.StageReports.{next_of}

-- the place at which these events cut the text, if they do
abbrev pub cut_place : List TextEvent → Option Place
cut_place [] = None
cut_place (Ended (Cut place) ∷ events) = Some place
cut_place (event ∷ events) = cut_place events

-- the place of the opener, the `<` or `[` of what is open: where the text is cut if it ends here
abbrev pub opener_of : TextStage → Option Place
opener_of s = cut_place (concat_of (events_left s []))

-- nothing is emitted first, and something next
abbrev pub begins_silently : List (List TextEvent) → Bool
begins_silently ([] ∷ ((event ∷ events) ∷ later)) = true
begins_silently _ = false

-- a comment is open: with a `(` nothing is emitted, and something with the end after it
abbrev pub is_in_comment : TextStage → Bool
is_in_comment s = begins_silently (events_left s (40 ∷ []))

-- Each kept character of a text has the place of its character in the text, if the text begins at p
-- and counts stay at their last value. With its end nothing is kept.
abbrev pub KeptIsPlaced : Place → List ℕ → List (List TextEvent) → Type 0
KeptIsPlaced p [] lists = kept_chars_in (concat_of lists) ≡ []
KeptIsPlaced p (c ∷ t) [] = ⊥
KeptIsPlaced p (c ∷ t) (events ∷ lists) =
    All (λ (x : Char). x.place ≡ p) (kept_chars_in events) × KeptIsPlaced (saturating_next_place p c) t lists

-- p is the place of the next character: the kept characters of any text that follows have the
-- places that they have in one that begins at p
abbrev pub IsNext : TextStage → Place → Type 0
IsNext s p = (t : List ℕ) → KeptIsPlaced p t (events_left s t)

-- The reports of a stage that has ended: no opener, no comment, and the place of the next character
-- before its end.
pub record EndedInPlace (before after : TextStage) : Type 0 where
  pub opener : opener_of after ≡ None
  pub comment : is_in_comment after ≡ false
  pub next : next_of after ≡ next_of before
