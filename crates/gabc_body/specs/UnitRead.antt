-- A syllable as the one of a unit, and a unit that is read from any place on, after whatever was
-- emitted before.
use Rattle.std.specs.Prelude.{◌≡◌, ◌≢◌, ℕ, ◌<◌, ◌≤◌, List, [], ◌∷◌, ◌++◌, length, take}
use Rattle.gabc_places.specs.declared.place.Place.{Place}
use Rattle.gabc_places.specs.declared.place.Char.{Char}
use Rattle.gabc_places.specs.StageLaw.{concat_of}
use Rattle.gabc_body.specs.declared.events.BodyEvent.{BodyEvent}
use Rattle.gabc_body.specs.Body.{events_onto, cut_of}
use Rattle.gabc_body.specs.Events.{texts_by_definition, text_from, events_from}
use Rattle.gabc_body.specs.Syllable.{UnplacedSyllable, since_close, kept_of, all_syllables, is_eu, is_nlba}
use Rattle.gabc_body.specs.SyllablesOfUnits.{ScoreUnit, characters_in, score_unit, HoldsUnit}
use Rattle.gabc_body.specs.SpansPast.{eu_past, nlba_past}
use Rattle.gabc_body.specs.Units.{BodyUnit}
use Rattle.gabc_body.specs.WithinLimits.{KeepsWithin}

-- A syllable holds some unit with notes: one snippet, if there are no NABC lines. That is said of
-- the syllable alone, whatever it was read from.
pub record HoldsSomeUnit (lines : ℕ) (m : UnplacedSyllable) : Type 0 where
  pub unit : ScoreUnit
  pub noted : unit.snippets ≢ []
  pub single : lines ≡ 0 → length unit.snippets ≤ 1
  pub holds : HoldsUnit lines unit m

-- the events of the first n of these characters, if a text begins with them at this place
abbrev pub first_events : ℕ → ℕ → Place → List Char → ℕ → List BodyEvent
first_events lines macros at xs n = concat_of (take n (events_from texts_by_definition lines macros (text_from texts_by_definition at xs) xs))

module _ (lines macros : ℕ) (at : Place) (u : BodyUnit) (after : List Char) (before : List BodyEvent) where
  -- the events, the nearest first, after the first n characters of a unit whose text begins at this
  -- place, with the characters `after` after it and the events `before` before it
  abbrev pub emitted_within : ℕ → List BodyEvent
  emitted_within n = events_onto (first_events lines macros at (characters_in u ++ after) n) before

  abbrev pub emitted_through : List BodyEvent
  emitted_through = emitted_within (length (characters_in u))

  -- The unit is read as one syllable, whole with its last character and not before, and nothing of
  -- the next one is read. The syllable holds the unit; the spans open after it follow from those
  -- before. No more is kept on the way, nor of the syllable, than the unit keeps. The unit leaves
  -- no bracket open.
  pub record GivesOneSyllable : Type 0 where
    pub made : UnplacedSyllable
    pub none_earlier : (n : ℕ) → n < length (characters_in u) → all_syllables (emitted_within n) ≡ all_syllables before
    pub given : all_syllables emitted_through ≡ all_syllables before ++ made ∷ []
    pub nothing_after : since_close emitted_through ≡ []
    pub holds : HoldsUnit lines (score_unit u after) made
    pub few_on_the_way : (limit n : ℕ) → KeepsWithin limit (score_unit u after) → n ≤ length (characters_in u) → length (kept_of (since_close (emitted_within n))) ≤ limit
    pub few : (limit : ℕ) → KeepsWithin limit (score_unit u after) → length made.kept ≤ limit
    pub eu_is : made.eu ≡ eu_past made (is_eu before)
    pub nlba_is : made.nlba ≡ nlba_past made (is_nlba before)
    pub open_eu : is_eu emitted_through ≡ made.eu
    pub open_nlba : is_nlba emitted_through ≡ made.nlba
    pub uncut : cut_of emitted_through ≡ cut_of before
