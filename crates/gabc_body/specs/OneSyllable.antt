-- A text that is one syllable, by all its events.
use Rattle.std.specs.Prelude.{◌≡◌, ℕ, ◌<◌, ◌≤◌, List, [], ◌∷◌, ◌++◌, length}
use Rattle.std.specs.List.{All}
use Rattle.gabc_places.specs.declared.place.Place.{Place}
use Rattle.gabc_places.specs.Place.{placed_characters_from}
use Rattle.gabc_notes.specs.ReadAgain.{IsWarning}
use Rattle.gabc_body.specs.declared.before.Spans.{Spans}
use Rattle.gabc_body.specs.declared.events.BodyEvent.{BodyEvent}
use Rattle.gabc_body.specs.Body.{events_onto, findings_of}
use Rattle.gabc_body.specs.OpenSpans.{LeavesOpen}
use Rattle.gabc_body.specs.Syllable.{UnplacedSyllable, since_close, kept_of, all_syllables}
use Rattle.gabc_body.specs.UnitRead.{first_events}

module _ (lines macros : ℕ) (at : Place) (text : List ℕ) where
  -- the events of the first n characters of a text that begins at this place
  abbrev pub emitted_first : ℕ → List BodyEvent
  emitted_first n = first_events lines macros at (placed_characters_from at text) n

  -- the same after `before`, the nearest first
  abbrev pub emitted_after : List BodyEvent → ℕ → List BodyEvent
  emitted_after before n = events_onto (emitted_first n) before

  -- If these spans are open, the text is this one syllable, whole with the last character and not
  -- before, and no more than `limit` bytes are kept on the way. All findings are warnings.
  pub record IsOneSyllable (spans : Spans) (limit : ℕ) (m : UnplacedSyllable) : Type 0 where
    pub before : List BodyEvent
    pub leaves : LeavesOpen spans before
    pub none_earlier : (n : ℕ) → n < length text → all_syllables (emitted_after before n) ≡ all_syllables before
    pub one : all_syllables (emitted_after before (length text)) ≡ all_syllables before ++ m ∷ []
    pub few : (n : ℕ) → n ≤ length text → length (kept_of (since_close (emitted_after before n))) ≤ limit
    pub warnings : All IsWarning (findings_of (emitted_after [] (length text)))

  -- Alone, with nothing before it, the text is one syllable, whole with the last character and not
  -- before.
  pub record IsOneAlone : Type 0 where
    pub syllable : UnplacedSyllable
    pub none_earlier : (n : ℕ) → n < length text → all_syllables (emitted_after [] n) ≡ []
    pub one : all_syllables (emitted_after [] (length text)) ≡ syllable ∷ []
