-- The canonical text of a syllable, and its position in its word.
use Rattle.std.specs.Prelude.{◌≡◌, ◌≤◌, ℕ, ◌||◌, List, [], ◌∷◌, ◌++◌, Bool, true, false, cond, length, drop, Option, Some, None, codes}
use Rattle.std.specs.List.{sum_by}
use Rattle.gabc_places.specs.declared.place.Span.{Span}
use Rattle.gabc_text.specs.Canonical.{canonical_text}
use Rattle.gabc_body.specs.declared.snippets.Snippet.{Snippet}
use Rattle.gabc_body.specs.declared.syllable.Position.{Position}
use Rattle.gabc_body.specs.declared.syllable.Position.TheVariants.{One, Beginning, Middle, End}
use Rattle.gabc_body.specs.Syllable.{UnplacedSyllable, PlacedSyllable, slice}

-- ---- the canonical text

abbrev pub translation_text : List ℕ → Option Span → List ℕ
translation_text kept None = []
translation_text kept (Some span) = codes "[" ++ (slice span kept ++ codes "]")

-- the snippets, with `|` between them
abbrev pub with_bars : List ℕ → List Snippet → List ℕ
with_bars kept [] = []
with_bars kept (s ∷ []) = slice s.span kept
with_bars kept (s ∷ t ∷ rest) = slice s.span kept ++ (codes "|" ++ with_bars kept (t ∷ rest))

-- the canonical text of a syllable that begins a word or not, in bytes
abbrev pub canonical : Bool → UnplacedSyllable → List ℕ
canonical starts m =
    cond starts (10 ∷ []) []
    ++ (canonical_text m.text m.kept
    ++ (translation_text m.kept m.text.translation
    ++ (codes "(" ++ (with_bars m.kept m.snippets ++ codes ")"))))

-- From byte `n` on the kept text of a syllable is its canonical text without the LF before a word.
pub record IsKeptFrom (n : ℕ) (m : UnplacedSyllable) : Type 0 where
  pub within : n ≤ length m.kept
  pub rest_is : canonical false m ≡ drop n m.kept

-- the same for a byte, if one is known
abbrev pub StandsFrom : Option ℕ → UnplacedSyllable → Type 0
StandsFrom None m = Unit {0}
StandsFrom (Some n) m = IsKeptFrom n m

-- The canonical texts of syllables. The first syllable of a score begins a word; `first` says that
-- these begin with it.
abbrev pub canonicals : Bool → List UnplacedSyllable → List (List ℕ)
canonicals first [] = []
canonicals first (m ∷ ms) = canonical (first || m.text.word_start) m ∷ canonicals false ms

-- the bytes of all of them
abbrev pub canonical_bytes : List UnplacedSyllable → ℕ
canonical_bytes ms = sum_by (λ (text : List ℕ). length text) (canonicals true ms)

-- ---- the position

-- the position of a syllable, by whether it begins a word, and whether the next one does
abbrev pub position_by : Bool → Bool → Position
position_by true true = One
position_by true false = Beginning
position_by false true = End
position_by false false = Middle

-- whether a syllable at this position begins its word
abbrev pub starts_word : Position → Bool
starts_word One = true
starts_word Beginning = true
starts_word Middle = false
starts_word End = false

-- the canonical text of a syllable at its position
abbrev pub canonical_in_place : PlacedSyllable → List ℕ
canonical_in_place s = canonical (starts_word s.position) s.made

-- the end of the list counts as a word's beginning
abbrev pub next_starts : List UnplacedSyllable → Bool
next_starts [] = true
next_starts (m ∷ ms) = m.text.word_start

abbrev pub placed_syllables_by : Bool → List UnplacedSyllable → List PlacedSyllable
placed_syllables_by first [] = []
placed_syllables_by first (m ∷ ms) = record { made = m; position = position_by (first || m.text.word_start) (next_starts ms) } ∷ placed_syllables_by false ms

-- the syllables of a score with their positions
abbrev pub with_positions : List UnplacedSyllable → List PlacedSyllable
with_positions ms = placed_syllables_by true ms
