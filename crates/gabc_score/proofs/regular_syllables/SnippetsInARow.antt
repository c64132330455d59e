-- The snippets of a regular syllable stand one after another.
use Rattle.std.proofs.Common.{◌≡◌, ℕ, ◌+◌, ◌%◌, List, [], ◌∷◌, ◌++◌, map, length, codes, refl, sym, ap, ap₂, ◌∙◌, arith, append_assoc, length-append}
use Rattle.std.proofs.Math.Numerals.{add-one}
use lib.Utf8.{encodes}
use Rattle.gabc_text.specs.View.{bytes_of}
use Rattle.gabc_text.proofs.tokens.CountsOfTexts.{bytes_append}
use Rattle.gabc_body.specs.declared.snippets.Snippet.{Snippet}
use Rattle.gabc_body.specs.Events.{next_line}
use Rattle.gabc_body.specs.Holding.{ReadSnippet, bracket_with, IsHeld}
use Rattle.gabc_body.specs.Syllable.{snippet_at}
use Rattle.gabc_body.proofs.holding.SnippetsLieInKeptText.{bracket_more, next_turn}
use Rattle.gabc_body.proofs.texts_of_body.BodyFits.{bytes_encodes}
use Rattle.gabc_score.specs.RegularSyllable.{spans_from, with_lines}
use Rattle.gabc_score.proofs.resuming.PartsAreOne.{nothing_marked}
use Rattle.gabc_score.proofs.regular_syllables.RegularPartsEnd.{head_same, tail_same}

abbrev kept_of : ReadSnippet → List ℕ
kept_of s = s.kept

abbrev pub kept_texts : List ReadSnippet → List (List ℕ)
kept_texts ss = map kept_of ss

-- the line after that of a snippet
pub turn_after : (lines line : ℕ) (before : List ReadSnippet) (s : ReadSnippet) → line ≡ length before % (lines + 1) → next_line lines line ≡ length (before ++ s ∷ []) % (lines + 1)
turn_after lines line before s l = ap (next_line lines) l ∙ next_turn lines (length before) ∙ ap (λ (m : ℕ). m % (lines + 1)) (sym (length-append before (s ∷ []) ∙ add-one (length before)))

-- ---- bytes

-- the bytes before a snippet: the text, a `(`, and those before it with their marks
abbrev bytes_before : List ℕ → List ReadSnippet → ℕ
bytes_before text before = bytes_of (text ++ bracket_with kept_of before)

pub first_byte : (text t : List ℕ) → text ≡ t → length (encodes t) + 1 ≡ bytes_before text []
first_byte text t e =
    let all = bytes_append text (codes "(") in
    let is = ap bytes_of e ∙ bytes_encodes t in
    omega (arith, all, is)

one_more : (text : List ℕ) (before : List ReadSnippet) (s : ReadSnippet) → bytes_before text (before ++ s ∷ []) ≡ bytes_before text before + bytes_of s.kept + 1
one_more text before s =
    let all = ap (λ (u : List ℕ). bytes_of (text ++ u)) (sym (bracket_more kept_of before s)) ∙ ap bytes_of (sym (append_assoc text (bracket_with kept_of before) (s.kept ++ codes "|")))
    ∙ bytes_append (text ++ bracket_with kept_of before) (s.kept ++ codes "|") in
    let last = bytes_append s.kept (codes "|") in
    omega (arith, all, last)

-- ---- places

module _ (lines : ℕ) (all text : List ℕ) where
  in_its_place : (before : List ReadSnippet) (s : ReadSnippet) (line at : ℕ) (t : List ℕ) → line ≡ length before % (lines + 1) → at ≡ bytes_before text before → IsHeld lines all text before s → s.kept ≡ t
      → s.snippet ≡ snippet_at line at (encodes t)
  in_its_place before s line at t l a h e =
      let from_is : s.snippet.span.from ≡ at = h.stands.from_is ∙ ap bytes_of h.after ∙ sym a in
      let kept_is : bytes_of s.kept ≡ length (encodes t) = ap bytes_of e ∙ bytes_encodes t in
      let to_is : s.snippet.span.to ≡ at + length (encodes t) =
      h.stands.to_is ∙ bytes_append h.stands.prefix s.kept ∙ ap₂ (λ (m n : ℕ). m + n) (ap bytes_of h.after ∙ sym a) kept_is in
      λ i. record { line = (h.line_is ∙ sym l) i; span = record { from = from_is i; to = to_is i } }

  -- each snippet stands after the mark of the one before it
  pub in_a_row : (nexts : List (List ℕ)) (final : List ℕ) (line at : ℕ) (before ss : List ReadSnippet) → line ≡ length before % (lines + 1) → at ≡ bytes_before text before → kept_texts ss ≡ nexts ++ final ∷ []
      → ((b a : List ReadSnippet) (s : ReadSnippet) → before ++ ss ≡ b ++ s ∷ a → IsHeld lines all text b s)
      → map (λ (s : ReadSnippet). s.snippet) ss ≡ spans_from at (with_lines lines line nexts final)
  in_a_row nexts final line at before [] l f e h = absurd (nothing_marked nexts [] final e)
  in_a_row [] final line at before (s ∷ z ∷ ss) l f e h = absurd (let k = tail_same s.kept final (kept_texts (z ∷ ss)) [] e in cc)
  in_a_row [] final line at before (s ∷ []) l f e h =
      ap (λ (x : Snippet). x ∷ []) (in_its_place before s line at final l f (h before [] s refl) (head_same s.kept final [] [] e))
  in_a_row (t ∷ nexts) final line at before (s ∷ ss) l f e h =
      let kept_is = head_same s.kept t (kept_texts ss) (nexts ++ final ∷ []) e in
      let more = one_more text before s in
      let len = ap bytes_of kept_is ∙ bytes_encodes t in
      ap₂ (λ (x : Snippet) (xs : List Snippet). x ∷ xs) (in_its_place before s line at t l f (h before ss s refl) kept_is)
      (in_a_row nexts final (next_line lines line) (at + length (encodes t) + 1) (before ++ s ∷ []) ss (turn_after lines line before s l) (omega (arith, f, more, len))
      (tail_same s.kept t (kept_texts ss) (nexts ++ final ∷ []) e) (λ b a z k. h b a z (sym (append_assoc before (s ∷ []) ss) ∙ k)))
