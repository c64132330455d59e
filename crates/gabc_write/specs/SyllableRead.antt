-- A syllable that is read again from its own canonical text, apart from the score that has it.
use Rattle.std.specs.Prelude.{◌≡◌, ℕ, ◌<◌, ◌≤◌, ◌||◌, Bool, List, [], ◌∷◌, ◌++◌, length, encode_utf8_all}
use Rattle.std.specs.List.{All}
use Rattle.gabc_places.specs.declared.place.Place.{Place}
use Rattle.gabc_places.specs.Place.{placed_characters_from}
use Rattle.gabc_notes.specs.ReadAgain.{IsWarning}
use Rattle.gabc_body.specs.declared.events.BodyEvent.{BodyEvent}
use Rattle.gabc_body.specs.declared.syllable.Position.{Position}
use Rattle.gabc_body.specs.Body.{events_onto, findings_of}
use Rattle.gabc_body.specs.Canonical.{canonical}
use Rattle.gabc_body.specs.ReadAlone.{IsReadAsOne}
use Rattle.gabc_body.specs.SpansPast.{eu_past, nlba_past}
use Rattle.gabc_body.specs.Syllable.{UnplacedSyllable, since_close, kept_of, all_syllables, is_eu, is_nlba}
use Rattle.gabc_body.specs.UnitRead.{HoldsSomeUnit, first_events}
use Rattle.gabc_write.specs.SyllableMeaning.{meaning_of}

-- a syllable of a score: the first one begins a word, whatever its text says
abbrev pub as_it_stands : Bool → UnplacedSyllable → UnplacedSyllable
as_it_stands first m = record m { text = record m.text { word_start = first || m.text.word_start } }

-- two syllables say the same, whatever their position in their word, but for the spans that are
-- open after them
abbrev pub SaysTheSame : UnplacedSyllable → UnplacedSyllable → Type 0
SaysTheSame n m =
    (position : Position) → meaning_of (record { made = n; position = position }) ≡ meaning_of (record { made = record m { eu = n.eu; nlba = n.nlba }; position = position })

module _ (lines macros : ℕ) (m : UnplacedSyllable) (text : List ℕ) (at : Place) (before : List BodyEvent) where
  -- what was emitted, the nearest first, after the first n characters of this text, which begins at
  -- this place, with this before it
  abbrev pub emitted_within : ℕ → List BodyEvent
  emitted_within n = events_onto (first_events lines macros at (placed_characters_from at text) n) before

  abbrev pub emitted_through : List BodyEvent
  emitted_through = emitted_within (length text)

  -- The text of a syllable, read by itself, is one syllable, whole with the last character. It says
  -- the same, and after the same spans it leaves the same open. It holds a unit, too, and has the
  -- same canonical text. What is found are warnings. No more bytes are kept on the way, nor of the
  -- syllable, than the text has.
  pub record IsReadByItself : Type 0 where
    pub again : UnplacedSyllable
    pub none_earlier : (n : ℕ) → n < length text → all_syllables (emitted_within n) ≡ all_syllables before
    pub one : all_syllables emitted_through ≡ all_syllables before ++ again ∷ []
    pub nothing_after : since_close emitted_through ≡ []
    pub warnings : All IsWarning (findings_of (events_onto (first_events lines macros at (placed_characters_from at text) (length text)) []))
    pub few_on_the_way : (n : ℕ) → n ≤ length text → length (kept_of (since_close (emitted_within n))) ≤ length (encode_utf8_all text)
    pub few : length again.kept ≤ length (encode_utf8_all text)
    pub holds : HoldsSomeUnit lines again
    pub says : SaysTheSame again m
    pub eu_is : again.eu ≡ eu_past m (is_eu before)
    pub nlba_is : again.nlba ≡ nlba_past m (is_nlba before)
    pub open_eu : is_eu emitted_through ≡ again.eu
    pub open_nlba : is_nlba emitted_through ≡ again.nlba
    pub same_text : canonical again.text.word_start again ≡ canonical m.text.word_start m

-- so is the canonical text of a syllable, wherever it begins
pub record IsReadFromItsText (lines macros : ℕ) (m : UnplacedSyllable) : Type 0 where
  pub text : List ℕ
  pub bytes : canonical m.text.word_start m ≡ encode_utf8_all text
  pub read : (at : Place) (before : List BodyEvent) → since_close before ≡ [] → IsReadByItself lines macros m text at before

-- so it is whether the syllable is the first one of a score or not
abbrev pub IsReadWhereItStands : ℕ → ℕ → UnplacedSyllable → Type 0
IsReadWhereItStands lines macros m = (first : Bool) → IsReadFromItsText lines macros (as_it_stands first m)

-- The canonical text of a syllable, as it is or as that of the first one of a score, is one
-- syllable by itself.
abbrev pub IsWrittenAsOne : ℕ → ℕ → UnplacedSyllable → Type 0
IsWrittenAsOne lines macros m =
    (first : Bool) → (text : List ℕ) × ((canonical (first || m.text.word_start) m ≡ encode_utf8_all text) × IsReadAsOne lines macros text)
