-- The kept text of a syllable that is not whole, read by itself: all of it is kept again, and this
-- is open after it.
use Rattle.std.specs.Prelude.{◌≡◌, ℕ, List, [], ◌++◌, length, Bool, true, false, ◌&&◌, ◌==◌, reverse, is_some}
use Rattle.gabc_places.specs.Fate.{Comment}
use Rattle.gabc_text.specs.Token.{tokens}
use Rattle.gabc_text.specs.View.{is_cut}
use Rattle.gabc_notes.specs.KeptNotes.{in_raw}
use Rattle.gabc_body.specs.ReadAlone.{no_spans, read_first}
use Rattle.gabc_body.specs.Reading.{BodyRead, Part, InText, InNotes, fate_by}
use Rattle.gabc_score.specs.declared.body_tells.Openers.{Openers}

-- the reading of a text by itself
abbrev pub read_alone : ℕ → ℕ → List ℕ → BodyRead
read_alone lines macros t = read_first lines macros no_spans t (length t)

-- a `(` has ended the text
abbrev pub is_in_notes : Part → Bool
is_in_notes InText = false
is_in_notes (InNotes line) = true

-- a tag, a raw part, a translation or a raw bracket is open
abbrev pub is_inside : Part → List ℕ → Bool
is_inside InText kept = is_cut (reverse (tokens kept))
is_inside (InNotes line) kept = (line == 0) && in_raw kept

-- Read by itself all of the text is kept, and no syllable is whole. A comment is open after it only
-- if a `%` begins one. The openers say what else is open, whatever their places.
pub record IsKeptAgain (lines macros : ℕ) (t : List ℕ) (openers : Openers) (comment : Bool) : Type 0 where
  pub kept : (let r = (read_alone lines macros t).reading in r.before ++ r.kept) ≡ t
  pub none : (read_alone lines macros t).made ≡ []
  pub percent : comment ≡ true → (let r = (read_alone lines macros t).reading in fate_by lines r.part r.kept 37) ≡ Comment
  pub notes : is_some openers.notes ≡ is_in_notes (read_alone lines macros t).reading.part
  pub inner : is_some openers.inner ≡ (let r = (read_alone lines macros t).reading in is_inside r.part r.kept)
