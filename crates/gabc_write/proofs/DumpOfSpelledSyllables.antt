-- The lines of a syllable that slices spell.
use Rattle.std.proofs.Common.{◌≡◌, ℕ, ◌+◌, ◌<◌, ◌≤◌, true, false, List, [], ◌∷◌, ◌++◌, Option, length, map, refl, sym, ap, ap₂, subst, ◌∙◌, arith, append_assoc, length-append, IsUtf8, All, codes}
use Rattle.std.proofs.lemmas.List.{take_at}
use Rattle.std.proofs.lemmas.List.Elements.{All-cons, All-head, All-nil, All-tail}
use Rattle.std.proofs.lemmas.Str.{chars_from_encodes, scalars-chars}
use lib.Utf8.{scalars, encodes}
use Rattle.gabc_places.specs.declared.place.Span.{Span}
use Rattle.gabc_neumes.specs.InForce.{InForce, ScoreStep, passed}
use Rattle.gabc_body.specs.declared.snippets.Snippet.{Snippet}
use Rattle.gabc_score.specs.declared.spelled.SpelledSyllable.{SpelledSyllable}
use Rattle.gabc_body.specs.Canonical.{translation_text}
use Rattle.gabc_score.specs.RegularSyllable.{canonical_spelled, gap_kept, line_and_text, notes_spelled, with_lines}
use Rattle.gabc_score.specs.SpelledSyllable.{AreTextsOf, Spells}
use Rattle.gabc_body.specs.Syllable.{PlacedSyllable}
use Rattle.gabc_write.specs.DumpOfNotes.{last_text}
use Rattle.gabc_write.specs.DumpOfSyllables.{first_line, first_line_by, first_steps, line_of_text, line_of_translation, lines_of_snippets, lines_of_syllable, lines_on, steps_of_snippet, steps_of_snippets, steps_of_syllable}
use Rattle.gabc_write.specs.machine.DumpOfTexts.{IsOnLine, line_of_bracketed, lines_of_texts, steps_of_texts}

-- ---- snippets by their texts

snippet_lines : (kept : List ℕ) (f : InForce) (ss : List Snippet) → lines_of_snippets f kept ss ≡ lines_of_texts f (map (line_and_text kept) ss)
snippet_lines kept f [] = refl
snippet_lines kept f (s ∷ ss) = ap (λ (l : List ℕ). lines_on f s.line (line_and_text kept s).1 ++ l) (snippet_lines kept (passed f (steps_of_snippet kept s)) ss)

snippet_steps : (kept : List ℕ) (ss : List Snippet) → steps_of_snippets kept ss ≡ steps_of_texts (map (line_and_text kept) ss)
snippet_steps kept [] = refl
snippet_steps kept (s ∷ ss) = ap (λ (l : List ScoreStep). steps_of_snippet kept s ++ l) (snippet_steps kept ss)

few_lines : (kept : List ℕ) (ss : List Snippet) → All IsOnLine (map (line_and_text kept) ss) → All (λ (s : Snippet). s.line < 256) ss
few_lines kept [] h = All-nil (λ (s : Snippet). s.line < 256)
few_lines kept (s ∷ ss) h =
    All-cons (λ (s : Snippet). s.line < 256) s ss (All-head IsOnLine (line_and_text kept s) (map (line_and_text kept) ss) h)
    (few_lines kept ss (All-tail IsOnLine (line_and_text kept s) (map (line_and_text kept) ss) h))

-- ---- a translation by its brackets

bracketed : (q : List ℕ) → codes "translation:" ++ last_text q ≡ line_of_bracketed (91 ∷ (q ++ 93 ∷ []))
bracketed [] = refl
bracketed (c ∷ q) =
    ap (λ (l : List ℕ). codes "translation:" ++ last_text l)
    (sym (take_at (c ∷ q) (93 ∷ []) (length (q ++ 93 ∷ [])) (let n = length-append q (93 ∷ []) in omega (arith, n))))

translation_line : (kept : List ℕ) (o : Option Span) → line_of_translation kept o ≡ line_of_bracketed (translation_text kept o)
translation_line kept o = grind (arith, bracketed)

module _ (r : SpelledSyllable) (s : PlacedSyllable) (h : Spells r s) where
  abbrev pub texts : List (ℕ × List ℕ)
  texts = with_lines r.lines 0 h.spelling.parts.nexts h.spelling.parts.final

  lines_are : (f : InForce) → lines_of_snippets f s.made.kept s.made.snippets ≡ lines_of_texts f texts
  lines_are f = snippet_lines s.made.kept f s.made.snippets ∙ ap (lines_of_texts f) h.snippets

  pub steps_are : steps_of_syllable s ≡ first_steps r.position ++ steps_of_texts texts
  steps_are = ap₂ (λ (xs ys : List ScoreStep). xs ++ ys) (ap first_steps h.position) (snippet_steps s.made.kept s.made.snippets ∙ ap steps_of_texts h.snippets)

  module _ (text translation : List ℕ) (are : AreTextsOf r text translation) where
    first_is : (number : ℕ) → first_line number s ≡ first_line_by number r.position r.spans.eu r.spans.nlba
    first_is number = grind arith

    translation_is : line_of_translation s.made.kept s.made.text.translation ≡ line_of_bracketed translation
    translation_is = translation_line s.made.kept s.made.text.translation ∙ ap line_of_bracketed (h.text.translation ∙ sym (are h.spelling).1)

    pub all_lines : (number : ℕ) (f : InForce)
        → lines_of_syllable number f s ≡ first_line_by number r.position r.spans.eu r.spans.nlba ++ (line_of_text text ++ (line_of_bracketed translation ++ lines_of_texts (passed f (first_steps r.position)) texts))
    all_lines number f = grind (arith, first_is, translation_is, lines_are)

  -- ---- what is kept is short

  canonical_scalars : scalars (canonical_spelled false h.spelling.parts) ≡ true
  canonical_scalars = ap scalars (chars_from_encodes (canonical_spelled false h.spelling.parts) r.canonical.now h.spelling.utf8 (sym h.spelling.canonical_is)) ∙ scalars-chars r.canonical.now h.spelling.utf8

  kept_is : s.made.kept ≡ encodes (gap_kept h.spelling.parts.gap ++ canonical_spelled false h.spelling.parts)
  kept_is = h.kept ∙ ap encodes (append_assoc (gap_kept h.spelling.parts.gap) h.spelling.parts.text (40 ∷ notes_spelled h.spelling.parts.nexts h.spelling.parts.final))

  pub kept_utf8 : IsUtf8 s.made.kept
  kept_utf8 = grind (arith, kept_is, canonical_scalars)

  pub kept_few : length s.made.kept ≤ length r.canonical.now + 1
  unfolding lib.Utf8.encode
  kept_few = grind (arith, kept_is)

  pub few : All IsOnLine texts → All (λ (x : Snippet). x.line < 256) s.made.snippets
  few all = few_lines s.made.kept s.made.snippets (subst (All IsOnLine) (sym h.snippets) all)
