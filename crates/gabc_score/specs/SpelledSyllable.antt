-- A regular syllable by the slices that spell it.
use Rattle.std.specs.Prelude.{◌≡◌, ℕ, List, [], ◌∷◌, true, false, length, Option, Some, None, encode_utf8_all}
use Rattle.std.specs.Str.{IsUtf8}
use Rattle.gabc_text.specs.RegularText.{text_part, translation_part}
use Rattle.gabc_score.specs.declared.spelled.SpelledSyllable.{SpelledSyllable}
use Rattle.gabc_score.specs.declared.spelled.SpelledSnippets.{SpelledSnippets}
use Rattle.gabc_score.specs.declared.spelled.SpelledSnippet.{SpelledSnippet}
use Rattle.gabc_body.specs.Canonical.{canonical_in_place, starts_word}
use Rattle.gabc_score.specs.GivesSyllables.{spelled_canonical}
use Rattle.gabc_score.specs.RegularSyllable.{SaysText, SyllableParts, AreRegularFrom, IsRegularSyllable, canonical_spelled, has_gap, kept_spelled, notes_spelled, snippet_texts, snippets_spelled, with_lines}
use Rattle.gabc_body.specs.Syllable.{PlacedSyllable}

-- The slices are the bytes of a regular syllable, and its text has as many bytes as they say.
pub record IsSpelling (r : SpelledSyllable) : Type 0 where
  pub parts : SyllableParts
  pub regular : IsRegularSyllable r.lines parts
  pub canonical_is : r.canonical.now ≡ encode_utf8_all (canonical_spelled false parts)
  pub opening_is : r.opening ≡ length (encode_utf8_all parts.text)
  pub utf8 : IsUtf8 r.canonical.now

-- ---- snippets with their lines

-- the first of some snippets
abbrev pub first_of : List (List ℕ) → List ℕ → List ℕ
first_of [] final = final
first_of (s ∷ nexts) final = s

-- These regular snippets are the remaining ones, each with its line.
pub record AreToCome (it : SpelledSnippets) (nexts : List (List ℕ)) (final : List ℕ) : Type 0 where
  pub regular : AreRegularFrom it.lines it.line nexts final
  pub single : it.lines ≡ 0 → nexts ≡ []
  pub rest_is : it.rest.now ≡ encode_utf8_all (notes_spelled nexts final)
  pub utf8 : IsUtf8 it.rest.now
  pub goes_on : it.over ≡ false

-- These are the remaining ones, or none.
abbrev pub ToCome : SpelledSnippets → List (ℕ × List ℕ) → Type 0
ToCome it [] = it.over ≡ true
ToCome it (t ∷ texts) = (nexts : List (List ℕ)) × ((final : List ℕ) × (AreToCome it nexts final × (t ∷ texts ≡ with_lines it.lines it.line nexts final)))

-- the first of these, if one is left, and the remaining ones then
abbrev pub GivesNext : Option SpelledSnippet → List (ℕ × List ℕ) → SpelledSnippets → Type 0
GivesNext None texts after = texts ≡ []
GivesNext (Some s) texts after = (more : List (ℕ × List ℕ)) × ((texts ≡ (s.line, s.text.now) ∷ more) × ToCome after more)

-- ---- the syllable

-- These are its text and its translation with its brackets.
abbrev pub AreTextsOf : SpelledSyllable → List ℕ → List ℕ → Type 0
AreTextsOf r text translation =
    (is : IsSpelling r) → (text ≡ encode_utf8_all (text_part is.parts.text)) × (translation ≡ encode_utf8_all (translation_part is.parts.text))

-- Slices spell a syllable: its position in its word, its open spans, whether it begins after
-- blanks, its kept text, its canonical text, its text and its translation, and its snippets, each
-- in its place.
pub record Spells (r : SpelledSyllable) (s : PlacedSyllable) : Type 0 where
  pub spelling : IsSpelling r
  pub position : s.position ≡ r.position
  pub eu : s.made.eu ≡ r.spans.eu
  pub nlba : s.made.nlba ≡ r.spans.nlba
  pub gap : has_gap spelling.parts.gap ≡ starts_word r.position
  pub word_start : s.made.text.word_start ≡ has_gap spelling.parts.gap
  pub kept : s.made.kept ≡ encode_utf8_all (kept_spelled spelling.parts)
  pub canonical : canonical_in_place s ≡ spelled_canonical (starts_word r.position) r.canonical.now
  pub text : SaysText s.made spelling.parts.text
  pub snippets : snippet_texts s.made ≡ with_lines r.lines 0 spelling.parts.nexts spelling.parts.final
  pub spans : s.made.snippets ≡ snippets_spelled r.lines spelling.parts
