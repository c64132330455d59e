-- A text that is read alone, at whatever place it is and whatever was read before.
use Rattle.std.specs.Prelude.{◌≡◌, ℕ, ◌<◌, ◌≤◌, List, [], ◌∷◌, length, take, Bool, false}
use Rattle.std.specs.List.{All}
use Rattle.gabc_places.specs.Place.{placed_characters_from}
use Rattle.gabc_places.specs.declared.place.Char.{Char}
use Rattle.gabc_notes.specs.ReadAgain.{IsWarning}
use Rattle.gabc_body.specs.declared.before.Spans.{Spans}
use Rattle.gabc_body.specs.Reading.{BodyRead, at_start, kept_bytes, past}
use Rattle.gabc_body.specs.ScoreEvents.{first_place}
use Rattle.gabc_body.specs.Syllable.{UnplacedSyllable}

-- the body read past these characters, if no limit is passed
abbrev pub read_of : ℕ → ℕ → BodyRead → List Char → BodyRead
read_of lines macros b [] = b
read_of lines macros b (x ∷ xs) = read_of lines macros (past lines macros b x) xs

-- the body read before a text, after these syllables, by the spans open after them, and by whether
-- a note or a clef has come
abbrev pub begun_after : List UnplacedSyllable → Bool → Bool → Bool → BodyRead
begun_after made eu nlba sounded = record { made = made; eu = eu; nlba = nlba; sounded = sounded; found = []; reading = at_start false }

-- the body read past the first n characters of a text, before which these spans are open
abbrev pub read_first : ℕ → ℕ → Spans → List ℕ → ℕ → BodyRead
read_first lines macros spans t n = read_of lines macros (begun_after [] spans.eu spans.nlba false) (take n (placed_characters_from first_place t))

abbrev pub no_spans : Spans
no_spans = record { eu = false; nlba = false }

-- Alone the text is one syllable, whole with the last character and not before.
pub record IsReadAsOne (lines macros : ℕ) (t : List ℕ) : Type 0 where
  pub syllable : UnplacedSyllable
  pub none_earlier : (n : ℕ) → n < length t → (read_first lines macros no_spans t n).made ≡ []
  pub one : (read_first lines macros no_spans t (length t)).made ≡ syllable ∷ []

-- If `spans` are open before it, the text is the one syllable `m`, whole with its last character
-- and not before. No front of it keeps more than `limit` bytes. All findings are warnings.
pub record IsReadAsSyllable (lines macros : ℕ) (t : List ℕ) (spans : Spans) (limit : ℕ) (m : UnplacedSyllable) : Type 0 where
  pub none_earlier : (n : ℕ) → n < length t → (read_first lines macros spans t n).made ≡ []
  pub one : (read_first lines macros spans t (length t)).made ≡ m ∷ []
  pub few : (n : ℕ) → n ≤ length t → length (kept_bytes (read_first lines macros spans t n).reading) ≤ limit
  pub warnings : All IsWarning (read_first lines macros spans t (length t)).found
