-- The canonical text of the pending syllable.
use Rattle.std.specs.Prelude.{ℕ, ◌||◌, List, [], Bool, Option, Some, None}
use Rattle.gabc_body.specs.Canonical.{canonical}
use Rattle.gabc_body.specs.Syllable.{UnplacedSyllable}

-- the canonical text, by whether it is the first syllable of the score; empty, if none is pending
abbrev pub text_when_held : Bool → Option UnplacedSyllable → List ℕ
text_when_held first None = []
text_when_held first (Some m) = canonical (first || m.text.word_start) m
