-- The dump of a syllable is short: at most 64 bytes for each byte of its canonical text, and 256.
use Rattle.std.proofs.Common.{◌≡◌, ℕ, ◌+◌, ◌*◌, ◌-◌, ◌≤◌, ◌<◌, ◌^◌, ◌&&◌, List, [], ◌∷◌, ◌++◌, Bool, true, false, cond, nat_le, Option, length, length-append, length-take, length-drop, drop, codes, arith, refl, IsUtf8, if◌then◌else◌}
use Rattle.std.specs.List.{All}
use Rattle.std.specs.Fmt.{decimal}
use Rattle.std.proofs.lemmas.Bool.{leb-true, and_parts}
use Rattle.std.proofs.lemmas.Fmt.{length-decimal-le}
use Rattle.std.proofs.lemmas.List.Elements.{All-head, All-tail}
use Rattle.std.proofs.lemmas.Str.{IsUtf8-between}
use Rattle.gabc_score.proofs.score_events.TextsArePlain.{seam_boundary}
use Rattle.gabc_places.specs.declared.place.Span.{Span}
use Rattle.gabc_neumes.specs.InForce.{InForce, passed}
use Rattle.gabc_text.specs.Canonical.{canonical_text}
use Rattle.gabc_body.specs.Canonical.{translation_text, with_bars, canonical, starts_word}
use Rattle.gabc_body.specs.Syllable.{PlacedSyllable, is_seam, slice, text_at}
use Rattle.gabc_body.specs.declared.snippets.Snippet.{Snippet}
use Rattle.gabc_body.specs.declared.syllable.Position.{Position}
use Rattle.gabc_write.specs.DumpOfSyllables.{position_word, first_line, line_of_text, line_of_translation, first_steps, steps_of_snippet, lines_of_snippet, lines_of_snippets, lines_of_syllable}
use Rattle.gabc_write.proofs.dump_is_short.LineOfItem.{last_short}
use Rattle.gabc_write.proofs.dump_is_short.LinesOfSnippets.{NamesAreShort, notes_short, nabc_short}

-- ---- the text of a span

-- it is a text, with no more bytes than the span has
pub text_short : (span : Span) (bytes : List ℕ) → IsUtf8 bytes → IsUtf8 (text_at span bytes) × (length (text_at span bytes) ≤ length (slice span bytes))
unfolding slice
text_short span bytes u = by (nat_le span.from span.to && (nat_le span.to (length bytes) && (is_seam (drop span.from bytes) && is_seam (drop span.to bytes)))) refl
  where
    by : (b : Bool) → (nat_le span.from span.to && (nat_le span.to (length bytes) && (is_seam (drop span.from bytes) && is_seam (drop span.to bytes)))) ≡ b
        → IsUtf8 (cond b (slice span bytes) []) × (length (cond b (slice span bytes) []) ≤ length (slice span bytes))
    by true e =
        let x = and_parts _ _ e in
        let y = and_parts _ _ x.1 in
        let z = and_parts _ _ y.1 in
        let order = leb-true span.from span.to x.0 in
        let within = leb-true span.to (length bytes) y.0 in
        (IsUtf8-between bytes span.from span.to u order (seam_boundary bytes span.from (omega arith) z.0) (seam_boundary bytes span.to within z.1), omega arith)
    by false e = (([], (refl, refl)), omega arith)

-- ---- the lines of a syllable

position_short : (p : Position) → length (position_word p) ≤ 9
position_short p = grind arith

flag_short : (b : Bool) (word : List ℕ) → length (if b then word else []) ≤ length word
flag_short b word = grind arith

pub first_short : (number : ℕ) (s : PlacedSyllable) → number < 2 ^ 64 → length (first_line number s) ≤ 48
first_short number s l =
    let digits : length (decimal number) ≤ 20 = length-decimal-le 20 number (omega arith) (omega arith) l in
    let eu : List ℕ = if s.made.eu then codes " eu" else [] in
    let nlba : List ℕ = if s.made.nlba then codes " nlba" else [] in
    omega (
      arith,
      length-append (decimal number) (codes " " ++ (position_word s.position ++ (eu ++ (nlba ++ codes "\n")))),
      length-append (position_word s.position) (eu ++ (nlba ++ codes "\n")),
      length-append eu (nlba ++ codes "\n"),
      length-append nlba (codes "\n"),
      position_short s.position,
      flag_short s.made.eu (codes " eu"),
      flag_short s.made.nlba (codes " nlba"),
      digits,
    )

text_line_short : (t : List ℕ) → length (line_of_text t) ≤ 64 * length t
text_line_short t = grind (arith, last_short)

translation_short : (kept : List ℕ) (span : Option Span) → length (line_of_translation kept span) ≤ 64 * length (translation_text kept span)
translation_short kept span = grind (arith, last_short, length-append)

module _ (short : NamesAreShort) (kept : List ℕ) (u : IsUtf8 kept) (l : length kept < 2 ^ 64) where
  slice_within : (span : Span) → length (slice span kept) ≤ length kept
  unfolding slice
  slice_within span = omega (arith, length-take (span.to - span.from) (drop span.from kept), length-drop span.from kept)

  snippet_short : (outset : InForce) (s : Snippet) → s.line < 256 → length (lines_of_snippet outset kept s) ≤ 64 * (length (slice s.span kept) + 1)
  snippet_short outset s m = grind (arith, text_short, notes_short, slice_within, nabc_short)

  snippets_short : (outset : InForce) (ss : List Snippet) → All (λ s. s.line < 256) ss → length (lines_of_snippets outset kept ss) ≤ 64 * (length (with_bars kept ss) + 1)
  snippets_short outset [] h = omega arith
  snippets_short outset (s ∷ []) h = omega (arith, length-append (lines_of_snippet outset kept s) [], snippet_short outset s (All-head (λ (x : Snippet). x.line < 256) s [] h))
  snippets_short outset (s ∷ t ∷ ss) h =
      let after : InForce = passed outset (steps_of_snippet kept s) in
      let first = snippet_short outset s (All-head (λ (x : Snippet). x.line < 256) s (t ∷ ss) h) in
      let later = snippets_short after (t ∷ ss) (All-tail (λ (x : Snippet). x.line < 256) s (t ∷ ss) h) in
      omega (
        arith,
        length-append (lines_of_snippet outset kept s) (lines_of_snippets after kept (t ∷ ss)),
        length-append (slice s.span kept) (codes "|" ++ with_bars kept (t ∷ ss)),
        first,
        later,
      )

-- what the lines of a syllable have at most, and its canonical text at least
pub parts_of_syllable : (number : ℕ) (outset : InForce) (s : PlacedSyllable) → number < 2 ^ 64
    → (let m = s.made in
    let text = canonical_text m.text m.kept in
    (length (lines_of_syllable number outset s) ≤ 48 + (length (line_of_text text) + (length (line_of_translation m.kept m.text.translation) + length (lines_of_snippets (passed outset (first_steps s.position)) m.kept m.snippets))))
    × (length text + (length (translation_text m.kept m.text.translation) + (length (with_bars m.kept m.snippets) + 2)) ≤ length (canonical (starts_word s.position) m)))
parts_of_syllable number outset s l =
    let m = s.made in
    let start : List ℕ = cond (starts_word s.position) (10 ∷ []) [] in
    let text = canonical_text m.text m.kept in
    let translation = translation_text m.kept m.text.translation in
    let notes = with_bars m.kept m.snippets in
    let translation_line = line_of_translation m.kept m.text.translation in
    let snippets = lines_of_snippets (passed outset (first_steps s.position)) m.kept m.snippets in
    let first = first_short number s l in
    let lines = length-append (first_line number s) (line_of_text text ++ (translation_line ++ snippets)) in
    let canonical = length-append start (text ++ (translation ++ (codes "(" ++ (notes ++ codes ")")))) in (
      omega (arith, first, lines, length-append (line_of_text text) (translation_line ++ snippets), length-append translation_line snippets),
      omega (arith, canonical, length-append text (translation ++ (codes "(" ++ (notes ++ codes ")"))), length-append translation (codes "(" ++ (notes ++ codes ")")), length-append notes (codes ")")),
    )

-- the lines of a syllable, by its canonical text
pub syllable_short : NamesAreShort → (number : ℕ) (outset : InForce) (s : PlacedSyllable) → number < 2 ^ 64 → IsUtf8 s.made.kept → length s.made.kept < 2 ^ 64
    → All (λ (x : Snippet). x.line < 256) s.made.snippets → length (lines_of_syllable number outset s) ≤ 64 * length (canonical (starts_word s.position) s.made) + 256
syllable_short short number outset s l u k h = grind (arith, length-append, first_short, text_line_short, translation_short, snippets_short)
