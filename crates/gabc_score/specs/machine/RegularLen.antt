-- The length of the regular syllable with which a text begins.
use Rattle.std.specs.Prelude.{◌≡◌, ◌≢◌, ℕ, ◌+◌, ◌<◌, ◌≤◌, List, [], ◌∷◌, ◌++◌, Bool, true, false, ◌&&◌, nat_lt, length, take, drop, encode_utf8_all, Option, Some, None}
use Rattle.std.specs.List.{All}
use Rattle.std.specs.Str.{chars, IsAscii, IsUtf8}
use Rattle.std.specs.String.Boundary.{IsSplitPoint}
use Rattle.gabc_places.specs.TextOfAnInput.{IsPlain, IsText}
use Rattle.gabc_text.specs.RegularText.{is_gap, mark_at, tags_of}
use Rattle.gabc_text.specs.ViewFacts.{span_tags}
use Rattle.gabc_body.specs.declared.before.Spans.{Spans}
use Rattle.gabc_score.specs.declared.regular.RegularLen.{RegularLen}
use Rattle.gabc_text.specs.declared.span_mark.SpanMark.{SpanMark}
use Rattle.gabc_text.specs.declared.span_mark.SpanMark.TheVariants.{OpensEu, ClosesEu, OpensNlba, ClosesNlba}
use Rattle.gabc_score.specs.RegularSyllable.{SyllableParts, AreRegularFrom, IsRegularSyllable, spelled, notes_spelled, canonical_spelled}

-- ---- bytes

-- neither a CR nor the first byte of U+FEFF
abbrev pub IsPlainByte : ℕ → Type 0
IsPlainByte b = (b ≢ 13) × (b ≢ 0xEF)

-- ---- a span mark

-- the spans open after a mark or none, by those open before it
abbrev pub past_mark : Option SpanMark → Spans → Spans
past_mark None spans = spans
past_mark (Some OpensEu) spans = record spans { eu = true }
past_mark (Some ClosesEu) spans = record spans { eu = false }
past_mark (Some OpensNlba) spans = record spans { nlba = true }
past_mark (Some ClosesNlba) spans = record spans { nlba = false }

-- ---- the gap before a text

-- blanks and comments that have ended, of ASCII that an input may have
pub record IsPlainGap (bytes : List ℕ) : Type 0 where
  pub is : is_gap bytes ≡ true
  pub ascii : IsAscii bytes
  pub plain : All IsPlain bytes

-- a byte of printable ASCII
abbrev pub is_printable : ℕ → Bool
is_printable b = nat_lt 31 b && nat_lt b 127

-- ---- snippets

-- snippets, each with a `|` after it
abbrev pub with_bars_after : List (List ℕ) → List ℕ
with_bars_after [] = []
with_bars_after (s ∷ snippets) = s ++ 124 ∷ with_bars_after snippets

-- The first n bytes of a text are regular snippets, each with a `|` after it, and the next snippet
-- is on line `line`.
pub record SnippetsBefore (lines : ℕ) (text : List ℕ) (n line : ℕ) : Type 0 where
  pub before : List (List ℕ)
  pub within : n ≤ length text
  pub utf8 : IsUtf8 (take n text)
  pub spelled_are : chars (take n text) ≡ with_bars_after before
  pub goes_on : (nexts : List (List ℕ)) (final : List ℕ) → AreRegularFrom lines line nexts final → AreRegularFrom lines 0 (before ++ nexts) final
  pub single : lines ≡ 0 → before ≡ []

-- The first n bytes of a text are the snippets of a regular syllable with their marks.
pub record BeginsWithSnippets (lines : ℕ) (text : List ℕ) (n : ℕ) : Type 0 where
  pub nexts : List (List ℕ)
  pub final : List ℕ
  pub within : n ≤ length text
  pub utf8 : IsUtf8 (take n text)
  pub spelled_are : chars (take n text) ≡ notes_spelled nexts final
  pub regular : AreRegularFrom lines 0 nexts final
  pub single : lines ≡ 0 → nexts ≡ []

-- ---- the syllable

-- The text begins with a regular syllable: `n` has the bytes of its gap, those before its `(`, and
-- all of them. Its characters may be those of an input's text, and its text has no span mark but
-- one with which it begins.
pub record BeginsRegularly (lines : ℕ) (text : List ℕ) (n : RegularLen) : Type 0 where
  pub syllable : SyllableParts
  pub is_regular : IsRegularSyllable lines syllable
  pub some : n.gap < n.len
  pub cut : IsSplitPoint text n.len
  pub cut_gap : IsSplitPoint text n.gap
  pub is_text : IsText (take n.len text)
  pub characters_are : chars (take n.len text) ≡ spelled syllable
  pub gap_is : n.gap ≡ length syllable.gap
  pub opening_is : n.opening ≡ n.gap + length (encode_utf8_all syllable.text)
  pub rest_is : drop n.gap (take n.len text) ≡ encode_utf8_all (canonical_spelled false syllable)
  pub mark_is : span_tags syllable.text ≡ tags_of (mark_at (drop n.gap (take n.len text)))
