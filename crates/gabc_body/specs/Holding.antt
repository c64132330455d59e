-- What a syllable holds: the parts of its kept text, for which its view and the spans of its
-- snippets stand.
use Rattle.std.specs.Prelude.{◌≡◌, ◌⊎◌, ℕ, zero, suc, ◌+◌, ◌%◌, List, [], ◌∷◌, ◌++◌, map, length, reverse, Option, Some, None, codes, encode_utf8_all}
use Rattle.std.specs.List.{All, flat_map}
use Rattle.gabc_places.specs.declared.place.Char.{Char}
use Rattle.gabc_patterns.specs.LongestItems.{IsSnippet}
use Rattle.gabc_patterns.specs.Function.{trim}
use Rattle.gabc_headers.specs.Book.{nabc_lines_of}
use Rattle.gabc_text.specs.View.{kept}
use Rattle.gabc_text.specs.TextRead.{view_in}
use Rattle.gabc_text.specs.ViewFacts.{StandsFor, StandsForView}
use Rattle.gabc_text.specs.Events.{codes_of}
use Rattle.gabc_notes.specs.Table.{gabc}
use Rattle.gabc_notes.specs.Events as notes
use Rattle.gabc_nabc.specs.Table.{nabc}
use Rattle.gabc_nabc.specs.Events as nabc
use Rattle.gabc_body.specs.declared.score.Score.{Score}
use Rattle.gabc_body.specs.declared.snippets.Snippet.{Snippet}
use Rattle.gabc_body.specs.Syllable.{UnplacedSyllable, slice, text_at}
use Rattle.gabc_body.specs.Body.{empty_snippet}

-- ---- the notes

-- a snippet, the characters of the input that it was read from, and its kept text
pub record ReadSnippet : Type 0 where
  pub snippet : Snippet
  pub characters : List Char
  pub kept : List ℕ

-- a snippet of GABC on line 0, of NABC on each other line
abbrev pub IsSnippetOf : ℕ → List ℕ → Type 0
IsSnippetOf zero t = IsSnippet gabc t
IsSnippetOf (suc line) t = IsSnippet nabc t

-- the kept text of a snippet on a line, read from these characters, without an unfinished end
abbrev pub kept_on_line : ℕ → List Char → List ℕ
kept_on_line zero xs = trim gabc (notes.kept (reverse xs))
kept_on_line (suc line) xs = trim nabc (nabc.kept_of (codes_of xs))

-- a `(`, and a part of each of these snippets with a `|` after it
abbrev pub bracket_with : (ReadSnippet → List ℕ) → List ReadSnippet → List ℕ
bracket_with part before = codes "(" ++ flat_map (λ s. part s ++ codes "|") before

-- a part of each of these snippets and of the last, with `|` between them, from the `(` to the `)`
abbrev pub in_brackets : (ReadSnippet → List ℕ) → List ReadSnippet → ReadSnippet → List ℕ
in_brackets part earlier last = bracket_with part earlier ++ (part last ++ codes ")")

-- After this text and these snippets, a snippet stands for its kept text, which its characters keep
-- and which is a snippet of its line. This is the line whose turn it is, of GABC and `lines` lines
-- of NABC.
pub record IsHeld (lines : ℕ) (whole text : List ℕ) (before : List ReadSnippet) (s : ReadSnippet) : Type 0 where
  pub line_is : s.snippet.line ≡ length before % (lines + 1)
  pub kept_is : s.kept ≡ kept_on_line s.snippet.line s.characters
  pub is_snippet : IsSnippetOf s.snippet.line s.kept
  pub stands : StandsFor whole s.snippet.span s.kept
  pub after : stands.prefix ≡ text ++ bracket_with (λ b. b.kept) before

-- Notes that were read from these characters: after the text the whole has the kept texts of their
-- snippets, each in its place.
pub record HoldsNotes (lines : ℕ) (characters whole text : List ℕ) (snippets : List Snippet) : Type 0 where
  pub earlier : List ReadSnippet
  pub last : ReadSnippet
  pub characters_are : characters ≡ in_brackets (λ s. codes_of s.characters) earlier last
  pub whole_is : whole ≡ text ++ in_brackets (λ s. s.kept) earlier last
  pub snippets_are : snippets ≡ map (λ s. s.snippet) (earlier ++ last ∷ [])
  pub each : (before after : List ReadSnippet) (s : ReadSnippet) → earlier ++ last ∷ [] ≡ before ++ s ∷ after → IsHeld lines whole text before s

-- No notes: the whole is the text, and the one snippet is empty, after it.
pub record HoldsNoNotes (characters whole text : List ℕ) (snippets : List Snippet) : Type 0 where
  pub characters_are : characters ≡ []
  pub whole_is : whole ≡ text
  pub snippets_are : snippets ≡ empty_snippet (encode_utf8_all whole) ∷ []

-- ---- the syllable

-- A syllable holds its parts. The characters of its text are somewhere in the input, and after them
-- those of its notes. Its view is the view of the text that begins there, and the spans of the view
-- stand for what it says in the whole that the syllable keeps: the kept text of its text, and its
-- notes.
pub record Holds (Notes : List ℕ → List ℕ → List ℕ → List Snippet → Type 0) (input : List ℕ) (m : UnplacedSyllable) : Type 0 where
  pub before : List ℕ
  pub text : List ℕ
  pub input_is : input ≡ before ++ text
  pub of_text : List ℕ
  pub of_notes : List ℕ
  pub after : List ℕ
  pub text_is : text ≡ of_text ++ (of_notes ++ after)
  pub whole : List ℕ
  pub kept_is : m.kept ≡ encode_utf8_all whole
  pub view_is : m.text ≡ view_in text
  pub stands : StandsForView whole m.text text
  pub notes : Notes of_notes whole (kept text) m.snippets

-- a syllable with its notes
abbrev pub HoldsWithNotes : List ℕ → ℕ → UnplacedSyllable → Type 0
HoldsWithNotes input lines m = Holds (HoldsNotes lines) input m

-- a syllable, with its notes or without
abbrev pub HoldsParts : List ℕ → ℕ → UnplacedSyllable → Type 0
HoldsParts input lines m = HoldsWithNotes input lines m ⊎ Holds HoldsNoNotes input m

-- the span of each snippet begins and ends between characters: its text is its bytes
abbrev pub HasWholeSnippets : UnplacedSyllable → Type 0
HasWholeSnippets m = All (λ (s : Snippet). text_at s.span m.kept ≡ slice s.span m.kept) m.snippets

-- the NABC lines of a score
abbrev pub lines_by : Option (List (List ℕ × List ℕ)) → ℕ
lines_by None = 0
lines_by (Some book) = nabc_lines_of book

abbrev pub lines_of : Score → ℕ
lines_of score = lines_by score.book
