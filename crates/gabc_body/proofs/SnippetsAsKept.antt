-- Snippets that follow one another in the kept text, each after its mark, and a text before them: all of it is one part of the kept text.
use Rattle.std.proofs.Common.{◌≡◌, ℕ, ◌+◌, ◌-◌, ◌<◌, ◌≤◌, List, ◌∷◌, ◌++◌, length, take, drop, get_or, refl, sym, ap, ◌∙◌, arith, add-one, drop-cons, append_assoc, codes, false, Option}
use Rattle.std.specs.Option.{is_some}
use Rattle.std.proofs.lemmas.List.{take-append-drop, drop-drop}
use Rattle.gabc_places.specs.declared.place.Span.{Span}
use Rattle.gabc_text.specs.Canonical.{span_bytes}
use Rattle.gabc_body.specs.declared.snippets.Snippet.{Snippet}
use Rattle.gabc_body.specs.Syllable.{slice}
use Rattle.gabc_body.specs.Canonical.{translation_text, with_bars}
use Rattle.gabc_body.specs.machine.SyllableText.{snippets_after_bars}
use Rattle.gabc_body.proofs.SnippetsWithBars.{bars_after_first}

-- what lies between a and b, and then all from b on
part_and_rest : (xs : List ℕ) (a b : ℕ) → a ≤ b → take (b - a) (drop a xs) ++ drop b xs ≡ drop a xs
part_and_rest xs a b h =
    let e : a + (b - a) ≡ b = omega arith in
    let rest : drop b xs ≡ drop (b - a) (drop a xs) = sym (drop-drop (b - a) a xs ∙ ap (λ (n : ℕ). drop n xs) e) in
    rw rest (take-append-drop (b - a) (drop a xs))

-- a span, and then all after it
span_and_rest : (kept : List ℕ) (s : Span) → s.from ≤ s.to → slice s kept ++ drop s.to kept ≡ drop s.from kept
unfolding slice
span_and_rest kept s h = part_and_rest kept s.from s.to h

-- a mark, the span after it, and then all after that
mark_and_span : (kept : List ℕ) (i mark : ℕ) (s : Span) → i < length kept → get_or kept i 0 ≡ mark → s.from ≡ i + 1 → s.from ≤ s.to
    → mark ∷ (slice s kept ++ drop s.to kept) ≡ drop i kept
mark_and_span kept i mark s h m f o =
    let first : drop i kept ≡ get_or kept i 0 ∷ drop (i + 1) kept = rw add-one (drop-cons kept i 0 h) in
    rw (span_and_rest kept s o, first, m, f) refl

-- a step over the next snippet
pub next_as_kept : (kept : List ℕ) (snippets : List Snippet) (i end : ℕ) (d : Snippet) → i < length snippets
    → end < length kept → get_or kept end 0 ≡ 124 → (get_or snippets i d).span.from ≡ end + 1
    → (get_or snippets i d).span.from ≤ (get_or snippets i d).span.to
    → snippets_after_bars kept (drop (i + 1) snippets) ++ codes ")" ≡ drop (get_or snippets i d).span.to kept
    → snippets_after_bars kept (drop i snippets) ++ codes ")" ≡ drop end kept
next_as_kept kept snippets i end d h w m f o rest = grind (arith, add-one, drop-cons, append_assoc, mark_and_span)

-- the notes in their brackets
pub notes_as_kept : (kept : List ℕ) (first : Snippet) (others : List Snippet) (from : ℕ) → from < length kept → get_or kept from 0 ≡ 40
    → first.span.from ≡ from + 1 → first.span.from ≤ first.span.to → snippets_after_bars kept others ++ codes ")" ≡ drop first.span.to kept
    → codes "(" ++ (with_bars kept (first ∷ others) ++ codes ")") ≡ drop from kept
notes_as_kept kept first others from h m f o rest = grind (arith, append_assoc, bars_after_first, mark_and_span)

-- a text, and then all after it
text_and_rest : (kept : List ℕ) (text : Span) → text.from ≤ text.to → text.to ≤ length kept → span_bytes kept text ++ drop text.to kept ≡ drop text.from kept
text_and_rest kept text h k = grind (arith, part_and_rest)

-- a text without a translation that ends where the notes begin, and the notes
pub text_as_kept : (kept part notes : List ℕ) (text : Span) (translation : Option Span) → part ≡ span_bytes kept text → false ≡ is_some translation
    → notes ≡ drop text.to kept → text.from ≤ text.to → text.to ≤ length kept → part ++ (translation_text kept translation ++ notes) ≡ drop text.from kept
text_as_kept kept part notes text translation p t n h k = grind (arith, text_and_rest)
