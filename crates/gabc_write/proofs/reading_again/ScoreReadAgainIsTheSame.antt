-- The score of a canonical file that passes no limit says the same, and has the same canonical file.
use Rattle.std.proofs.Common.{◌≡◌, ◌≢◌, ℕ, ◌<◌, ◌^◌, ◌≤◌, List, [], ◌∷◌, ◌++◌, map, length, Some, None, refl, sym, ap, ap₂, subst, ◌∙◌, arith}
use Rattle.std.specs.List.{All}
use Rattle.std.proofs.lemmas.Str.{encodes-append}
use lib.Utf8.{encodes}
use Rattle.gabc_places.specs.declared.limits.Limits.{Limits}
use Rattle.gabc_places.specs.declared.place.Char.{Char}
use Rattle.gabc_headers.specs.Book.{nabc_lines_of, macros_of}
use Rattle.gabc_headers.specs.Canonical.{canonical_heads}
use Rattle.gabc_body.specs.declared.ending.InputEnding.TheVariants.{Whole}
use Rattle.gabc_body.specs.declared.score.Score.{Score}
use Rattle.gabc_body.specs.Events.{texts_by_definition, next_line}
use Rattle.gabc_body.specs.witness.EmittedScore.{emitted_score_by, emitted_score}
use Rattle.gabc_body.specs.Syllable.{PlacedSyllable}
use Rattle.gabc_body.specs.Units.{EndedPart, BodyUnit, LastUnit, JustText, BodyCutting, IsCut}
use Rattle.gabc_body.specs.SyllablesOfUnits.{ScoreUnit, closed_units, score_units, AreSyllablesOf, body_characters, IsBodyCut}
use Rattle.gabc_write.specs.SyllableAgain.{kept_snippets, AreSnippetsAgain}
use Rattle.gabc_write.specs.BodyAgain.{SyllableFacts, SayAgain, FirstTextBeginsWord, AreOwnFacts, ArePrinted, AreFactsOf, printed_body}
use Rattle.gabc_write.specs.FileAgain.{printed_file, IsFileAgain}
use Rattle.gabc_write.specs.ScoreAgain.{IsSameScore}

-- ---- what the units keep

module _ (lines macros : ℕ) where
  pub kept_again : (line : ℕ) (es : List EndedPart) (after : List Char) (ss : List (List ℕ)) → AreSnippetsAgain lines macros line es after ss
      → kept_snippets lines line (map (λ (e : EndedPart). e.characters) es) ≡ ss
  kept_again line [] after [] h = refl
  kept_again line (e ∷ es) after (s ∷ ss) h =
      ap₂ (λ (x : List ℕ) (xs : List (List ℕ)). x ∷ xs) h.0.kept (kept_again (next_line lines line) es after ss h.1)
  kept_again line _ after _ h = absurd h

  pub some_parts : (nexts : List EndedPart) (final : EndedPart) → map (λ (e : EndedPart). e.characters) (nexts ++ final ∷ []) ≢ []
  some_parts [] final e = absurd (cc)
  some_parts (n ∷ nexts) final e = absurd (cc)

  pub same_facts : (units : List BodyUnit) (last : LastUnit) (facts others : List SyllableFacts) → SayAgain lines macros units last facts
      → AreOwnFacts lines (closed_units units last ++ []) others → others ≡ facts
  same_facts [] last [] [] h k = refl
  same_facts [] last [] (g ∷ others) h k = absurd k
  same_facts [] last (f ∷ facts) others h k = absurd h
  same_facts (u ∷ units) last [] others h k = absurd h
  same_facts (u ∷ units) last (f ∷ facts) [] h k = absurd k
  same_facts (u ∷ units) last (f ∷ facts) (g ∷ others) h k = grind (arith, same_facts units last facts others h.1 k.1, some_parts, kept_again)

-- ---- the score

module _ (single : (macros : ℕ) (xs : List Char) (cut : BodyCutting) → IsCut texts_by_definition 0 macros xs cut → All (λ (u : ScoreUnit). length u.snippets ≤ 1) (score_units cut.units))
    (first : (lines macros : ℕ) (xs : List Char) (cut : BodyCutting) → IsCut texts_by_definition lines macros xs cut → FirstTextBeginsWord (score_units cut.units))
    (whole : (limits : Limits) (t : List ℕ) (book : List (List ℕ × List ℕ)) (cut : BodyCutting) → length (encodes t) < 2 ^ 63
    → (emitted_score limits Whole t).book ≡ Some book → IsBodyCut book t cut → (emitted_score limits Whole t).fault ≡ None
    → AreSyllablesOf (nabc_lines_of book) (score_units cut.units) (emitted_score limits Whole t).syllables)
    (printed : (lines : ℕ) (units : List ScoreUnit) (syllables : List PlacedSyllable) → AreSyllablesOf lines units syllables → FirstTextBeginsWord units
    → (lines ≡ 0 → All (λ (u : ScoreUnit). length u.snippets ≤ 1) units) → ArePrinted lines units syllables) where
  pub same_score : (limits : Limits) (book : List (List ℕ × List ℕ)) (facts : List SyllableFacts) → IsFileAgain limits book facts
      → length (encodes (printed_file book facts)) < 2 ^ 63 → (emitted_score limits Whole (printed_file book facts)).fault ≡ None
      → IsSameScore book facts (emitted_score limits Whole (printed_file book facts))
  same_score limits book facts file short fault =
      let t : List ℕ = printed_file book facts in
      let lines : ℕ = nabc_lines_of book in
      let cut : BodyCutting = record { comment = []; units = Some (record { closed = file.units; last = JustText file.last }) } in
      let again : Score = emitted_score limits Whole t in
      let book_is : again.book ≡ Some book = ap (λ r. (emitted_score_by limits Whole t r).book) file.heads in
      let syllables_are = whole limits t book cut short book_is file.cut fault in
      let p = printed lines (score_units cut.units) again.syllables syllables_are (first lines (macros_of book) (body_characters t) cut file.cut)
      (λ e. single (macros_of book) (body_characters t) cut (subst (λ (n : ℕ). IsCut texts_by_definition n (macros_of book) (body_characters t) cut) e file.cut)) in
      let own : AreOwnFacts lines (closed_units file.units (JustText file.last) ++ []) p.facts =
      subst (λ (us : List ScoreUnit). AreOwnFacts lines (closed_units file.units (JustText file.last) ++ us) p.facts) file.no_more p.own in
      let same : p.facts ≡ facts = same_facts lines (macros_of book) file.units (JustText file.last) facts p.facts file.again own in
      record {
        book_is = book_is;
        units = score_units cut.units;
        syllables_are = syllables_are;
        facts_are = subst (AreFactsOf (score_units cut.units) again.syllables) same p.facts_are;
        bytes = ap (λ (x : List ℕ). encodes (canonical_heads book) ++ x) p.bytes ∙ sym (encodes-append (canonical_heads book) (printed_body p.facts))
            ∙ ap (λ (fs : List SyllableFacts). encodes (printed_file book fs)) same;
      }
