-- The canonical file of a book and syllables.
use Rattle.std.specs.Prelude.{ℕ, List, ◌++◌, codes, encode_utf8_all}
use Rattle.std.specs.List.{flat_map}
use Rattle.gabc_headers.specs.Canonical.{canonical_heads}
use Rattle.gabc_body.specs.Syllable.{PlacedSyllable}
use Rattle.gabc_body.specs.Canonical.{canonical_in_place}

-- the canonical texts of the syllables
abbrev pub canonical_text_of : List PlacedSyllable → List ℕ
canonical_text_of syllables = flat_map canonical_in_place syllables

-- the header lines, `%%`, the syllables and LF
abbrev pub score_text : List (List ℕ × List ℕ) → List PlacedSyllable → List ℕ
score_text book syllables = encode_utf8_all (canonical_heads book) ++ (canonical_text_of syllables ++ codes "\n")
