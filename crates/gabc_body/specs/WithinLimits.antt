-- Syllables that are within the limits, and units that pass none while they are read.
use Rattle.std.specs.Prelude.{ℕ, ◌+◌, ◌≤◌, List, length, encode_utf8_all}
use Rattle.std.specs.List.{All, flat_map}
use Rattle.gabc_places.specs.declared.limits.Limits.{Limits}
use Rattle.gabc_text.specs.View.{kept}
use Rattle.gabc_body.specs.Canonical.{canonical_in_place}
use Rattle.gabc_body.specs.Syllable.{PlacedSyllable}
use Rattle.gabc_body.specs.SyllablesOfUnits.{ScoreUnit}

-- No canonical text of these syllables is longer than a syllable may be, and their canonical file
-- is no longer than the input may be; `head` is the number of bytes of its headers with `%%`.
pub record CanonicalWithin (limits : Limits) (head : ℕ) (syllables : List PlacedSyllable) : Type 0 where
  pub texts : All (λ (s : PlacedSyllable). length (canonical_in_place s) ≤ limits.syllable) syllables
  pub file : head + length (flat_map canonical_in_place syllables) + 1 ≤ limits.input

-- the same, and no kept text is longer than a syllable may be
pub record AreWithin (limits : Limits) (head : ℕ) (syllables : List PlacedSyllable) : Type 0 where
  pub kept_texts : All (λ (s : PlacedSyllable). length s.made.kept ≤ limits.syllable) syllables
  pub canonical : CanonicalWithin limits head syllables

-- While it is read, a unit keeps at most `limit` bytes: the kept text of its text, and its notes.
abbrev pub KeepsWithin : ℕ → ScoreUnit → Type 0
KeepsWithin limit u = length (encode_utf8_all (kept u.text)) + length (encode_utf8_all u.notes) ≤ limit
