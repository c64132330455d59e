-- The slices of a regular syllable as it is spelled.
use Rattle.std.proofs.Common.{◌≡◌, ℕ, suc, ◌+◌, ◌<◌, List, [], ◌∷◌, ◌++◌, Bool, true, false, length, encode_utf8_all, refl, sym, ap, ◌∙◌, arith, append_assoc, length-append}
use Rattle.std.proofs.lemmas.Str.{encode_ascii, encodes-append}
use Rattle.gabc_body.specs.Canonical.{starts_word}
use Rattle.gabc_body.specs.Events.{next_line}
use Rattle.gabc_body.specs.Syllable.{PlacedSyllable}
use Rattle.gabc_score.specs.RegularSyllable.{gap_kept, has_gap, notes_spelled, spans_from, with_lines}
use Rattle.gabc_score.specs.SpelledSyllable.{IsSpelling, Spells}
use Rattle.gabc_score.specs.declared.spelled.SpelledSyllable.{SpelledSyllable}
use Rattle.gabc_tree.specs.machine.SyllableSlices.{gap_of}

-- ---- the kept text

gap_bytes : (starts : Bool) → encode_utf8_all (gap_of starts) ≡ gap_of starts
gap_bytes true = ap (λ (bytes : List ℕ). bytes ++ []) (encode_ascii 32 (omega arith))
gap_bytes false = refl

module _ (r : SpelledSyllable) (s : PlacedSyllable) (h : Spells r s) where
  gap_is : encode_utf8_all (gap_kept h.spelling.parts.gap) ≡ gap_of (starts_word r.position)
  gap_is = gap_bytes (has_gap h.spelling.parts.gap) ∙ ap gap_of h.gap

  pub kept_is : s.made.kept ≡ gap_of (starts_word r.position) ++ r.canonical.now
  kept_is =
      let p = h.spelling.parts in
      let rest = p.text ++ 40 ∷ notes_spelled p.nexts p.final in
      h.kept
      ∙ ap encode_utf8_all (append_assoc (gap_kept p.gap) p.text (40 ∷ notes_spelled p.nexts p.final))
      ∙ encodes-append (gap_kept p.gap) rest
      ∙ ap (λ (g : List ℕ). g ++ encode_utf8_all rest) gap_is
      ∙ ap (λ (c : List ℕ). gap_of (starts_word r.position) ++ c) (sym h.spelling.canonical_is)

  from_is : length (encode_utf8_all (gap_kept h.spelling.parts.gap ++ h.spelling.parts.text)) + 1 ≡ length (gap_of (starts_word r.position)) + r.opening + 1
  from_is =
      let p = h.spelling.parts in
      let both = ap (λ (l : List ℕ). length l) (encodes-append (gap_kept p.gap) p.text) in
      let each = length-append (encode_utf8_all (gap_kept p.gap)) (encode_utf8_all p.text) in
      let gap = ap (λ (l : List ℕ). length l) gap_is in
      let opening = h.spelling.opening_is in
      omega (arith, both, each, gap, opening)

  pub snippets_are : s.made.snippets ≡ spans_from (length (gap_of (starts_word r.position)) + r.opening + 1) (with_lines r.lines 0 h.spelling.parts.nexts h.spelling.parts.final)
  snippets_are = h.spans ∙ ap (λ (n : ℕ). spans_from n (with_lines r.lines 0 h.spelling.parts.nexts h.spelling.parts.final)) from_is

-- ---- how many bytes snippets have

-- with a mark after each
abbrev pub total : List (ℕ × List ℕ) → ℕ
total [] = 0
total (t ∷ texts) = length t.1 + 1 + total texts

-- a character of one byte, and those after it
low_first : (c : ℕ) (rest : List ℕ) → c < 128 → length (encode_utf8_all (c ∷ rest)) ≡ suc (length (encode_utf8_all rest))
low_first c rest low = ap (λ (bytes : List ℕ). length (bytes ++ encode_utf8_all rest)) (encode_ascii c low)

notes_total : (lines line : ℕ) (nexts : List (List ℕ)) (final : List ℕ) → total (with_lines lines line nexts final) ≡ length (encode_utf8_all (notes_spelled nexts final))
notes_total lines line [] final =
    let all = ap (λ (l : List ℕ). length l) (encodes-append final (41 ∷ [])) in
    let each = length-append (encode_utf8_all final) (encode_utf8_all (41 ∷ [])) in
    let last : length (encode_utf8_all (41 ∷ [])) ≡ 1 = low_first 41 [] (omega arith) in
    omega (arith, all, each, last)
notes_total lines line (s ∷ nexts) final =
    let rest = notes_spelled nexts final in
    let all = ap (λ (l : List ℕ). length l) (encodes-append s (124 ∷ rest)) in
    let each = length-append (encode_utf8_all s) (encode_utf8_all (124 ∷ rest)) in
    let mark = low_first 124 rest (omega arith) in
    let more = notes_total lines (next_line lines line) nexts final in
    omega (arith, all, each, mark, more)

pub canonical_total : (r : SpelledSyllable) (is : IsSpelling r) → r.opening + 1 + total (with_lines r.lines 0 is.parts.nexts is.parts.final) ≡ length r.canonical.now
canonical_total r is =
    let p = is.parts in
    let rest = notes_spelled p.nexts p.final in
    let whole = ap (λ (l : List ℕ). length l) (is.canonical_is ∙ encodes-append p.text (40 ∷ rest)) in
    let each = length-append (encode_utf8_all p.text) (encode_utf8_all (40 ∷ rest)) in
    let mark = low_first 40 rest (omega arith) in
    let notes = notes_total r.lines 0 p.nexts p.final in
    let opening = is.opening_is in
    omega (arith, whole, each, mark, notes, opening)
