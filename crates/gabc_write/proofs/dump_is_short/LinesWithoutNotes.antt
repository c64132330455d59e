-- The dump of a syllable without notes is shorter: at most 2 bytes for each byte of its canonical text, and 128.
use Rattle.std.proofs.Common.{◌≡◌, ℕ, ◌+◌, ◌*◌, ◌-◌, ◌≤◌, ◌<◌, ◌^◌, List, [], ◌∷◌, true, Option, length, length-append, take, drop, arith, refl, ap, ◌∙◌}
use Rattle.std.proofs.lemmas.Bool.{eqb-true, and_parts}
use Rattle.gabc_places.specs.declared.place.Span.{Span}
use Rattle.gabc_neumes.specs.InForce.{InForce, passed}
use Rattle.gabc_text.specs.Canonical.{canonical_text}
use Rattle.gabc_body.specs.Canonical.{translation_text, canonical, starts_word}
use Rattle.gabc_score.specs.NoNotes.{are_no_notes, has_no_notes}
use Rattle.gabc_body.specs.Syllable.{PlacedSyllable, slice, text_at}
use Rattle.gabc_body.specs.declared.snippets.Snippet.{Snippet}
use Rattle.gabc_write.specs.DumpOfNotes.{lines_of_notes}
use Rattle.gabc_write.specs.DumpOfSyllables.{line_of_text, line_of_translation, first_steps, lines_of_snippets, lines_of_syllable}
use Rattle.gabc_write.proofs.dump_is_short.LineOfItem.{last_short}
use Rattle.gabc_write.proofs.dump_is_short.LinesOfSnippets.{notes_short}
use Rattle.gabc_write.proofs.dump_is_short.LinesOfSyllable.{parts_of_syllable}

-- ---- an empty snippet

none_taken : (n : ℕ) (bytes : List ℕ) → take (n - n) bytes ≡ []
none_taken n bytes = let none : n - n ≡ 0 = omega arith in rw none refl

empty_slice : (span : Span) (bytes : List ℕ) → span.from ≡ span.to → slice span bytes ≡ []
unfolding slice
empty_slice span bytes e = ap (λ (n : ℕ). take (span.to - n) (drop span.from bytes)) e ∙ none_taken span.to (drop span.from bytes)

empty_text : (span : Span) (bytes : List ℕ) → span.from ≡ span.to → text_at span bytes ≡ []
empty_text span bytes e = grind (arith, empty_slice)

no_notes_short : (outset : InForce) → length (lines_of_notes outset []) ≤ 7
no_notes_short outset = omega (arith, notes_short outset [] ([], (refl, refl)) (omega arith))

-- the lines of snippets that are no notes
snippets_short : (outset : InForce) (kept : List ℕ) (snippets : List Snippet) → are_no_notes snippets ≡ true → length (lines_of_snippets outset kept snippets) ≤ 7
snippets_short outset kept [] none = absurd (cc)
snippets_short outset kept (s ∷ []) none = grind (arith, and_parts, empty_text, eqb-true, length-append, no_notes_short)
snippets_short outset kept (s ∷ t ∷ snippets) none = absurd (cc)

-- ---- the lines of a syllable

text_line_shorter : (t : List ℕ) → length (line_of_text t) ≤ 2 * length t + 6
text_line_shorter t = grind (arith, last_short)

translation_shorter : (kept : List ℕ) (span : Option Span) → length (line_of_translation kept span) ≤ 2 * length (translation_text kept span) + 9
translation_shorter kept span = grind (arith, last_short, length-append)

pub shorter_without_notes : (number : ℕ) (outset : InForce) (s : PlacedSyllable) → number < 2 ^ 64 → has_no_notes s.made ≡ true
    → length (lines_of_syllable number outset s) ≤ 2 * length (canonical (starts_word s.position) s.made) + 128
shorter_without_notes number outset s l none =
    let m = s.made in
    let parts = parts_of_syllable number outset s l in
    let snippets = snippets_short (passed outset (first_steps s.position)) m.kept m.snippets none in
    omega (arith, parts.0, parts.1, text_line_shorter (canonical_text m.text m.kept), translation_shorter m.kept m.text.translation, snippets)
