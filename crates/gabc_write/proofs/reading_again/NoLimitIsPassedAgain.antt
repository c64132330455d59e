-- If a canonical file is read again, no limit is passed.
use Rattle.std.proofs.Common.{◌≡◌, ℕ, ◌+◌, ◌≤◌, ◌<◌, ◌^◌, List, [], ◌∷◌, ◌++◌, length, length-append, cond, codes, Some, None, refl, sym, ap, subst, ◌∙◌, arith}
use Rattle.std.specs.List.{All}
use Rattle.std.proofs.lemmas.List.Elements.{All-nil, All-cons, All-head, All-tail, All-weaker}
use Rattle.std.proofs.lemmas.Str.{encodes-append}
use lib.Utf8.{encode, encodes}
use Rattle.gabc_places.specs.declared.limits.Limits.{Limits}
use Rattle.gabc_places.specs.LargerLimits.{AreNoLess}
use Rattle.gabc_places.specs.declared.place.Char.{Char}
use Rattle.gabc_headers.specs.Book.{nabc_lines_of, macros_of}
use Rattle.gabc_headers.specs.Canonical.{canonical_heads}
use Rattle.gabc_text.specs.Events.{codes_of}
use Rattle.gabc_text.specs.Printed.{print, text_tokens, translation_tokens, text_of_tokens}
use Rattle.gabc_text.specs.ViewFacts.{ViewFacts}
use Rattle.gabc_body.specs.declared.ending.InputEnding.TheVariants.{Whole}
use Rattle.gabc_body.specs.Canonical.{canonical_in_place}
use Rattle.gabc_body.specs.Events.{texts_by_definition}
use Rattle.gabc_body.specs.witness.EmittedScore.{emitted_score_by, emitted_score}
use Rattle.gabc_body.specs.Syllable.{PlacedSyllable}
use Rattle.gabc_body.specs.Units.{BodyUnit, LastUnit, JustText, BodyCutting, IsCut}
use Rattle.gabc_body.specs.SyllablesOfUnits.{ScoreUnit, score_unit, characters_from, closed_units, score_units, AreSyllablesOf, body_characters, IsBodyCut}
use Rattle.gabc_body.specs.WithinLimits.{CanonicalWithin, KeepsWithin}
use Rattle.gabc_write.specs.SyllableAgain.{printed_syllable, SaysAgain}
use Rattle.gabc_write.specs.BodyAgain.{SyllableFacts, printed_body, SayAgain, FirstTextBeginsWord, ArePrintedTexts, AreOwnFacts, ArePrinted}
use Rattle.gabc_write.specs.CanonicalFile.{canonical_text_of, score_text}
use Rattle.gabc_write.specs.FileAgain.{printed_file, IsFileAgain}
use Rattle.gabc_write.proofs.reading_again.ScoreReadAgainIsTheSame.{same_facts}

abbrev size : List ℕ → ℕ
size t = length (encodes t)

-- no printed syllable is longer than that
abbrev pub AllShort : ℕ → List SyllableFacts → Type 0
AllShort limit facts = All (λ (f : SyllableFacts). size (printed_syllable f.view f.snippets) ≤ limit) facts

-- the canonical texts of syllables are as long as what they print
pub printed_short : (limit : ℕ) (syllables : List PlacedSyllable) (facts : List SyllableFacts) → ArePrintedTexts syllables facts
    → All (λ (s : PlacedSyllable). length (canonical_in_place s) ≤ limit) syllables → AllShort limit facts
printed_short limit [] [] h k = All-nil (λ (f : SyllableFacts). size (printed_syllable f.view f.snippets) ≤ limit)
printed_short limit (s ∷ syllables) (f ∷ facts) h k =
    All-cons (λ (f : SyllableFacts). size (printed_syllable f.view f.snippets) ≤ limit) f facts
    (subst (λ (t : List ℕ). length t ≤ limit) h.0 (All-head (λ (s : PlacedSyllable). length (canonical_in_place s) ≤ limit) s syllables k))
    (printed_short limit syllables facts h.1 (All-tail (λ (s : PlacedSyllable). length (canonical_in_place s) ≤ limit) s syllables k))
printed_short limit _ _ h k = absurd h

texts_short : (limit : ℕ) (syllables : List PlacedSyllable) (facts : List SyllableFacts) → ArePrintedTexts syllables facts
    → AllShort limit facts → All (λ (s : PlacedSyllable). length (canonical_in_place s) ≤ limit) syllables
texts_short limit [] [] h k = All-nil (λ (s : PlacedSyllable). length (canonical_in_place s) ≤ limit)
texts_short limit (s ∷ syllables) (f ∷ facts) h k =
    All-cons (λ (s : PlacedSyllable). length (canonical_in_place s) ≤ limit) s syllables
    (subst (λ (t : List ℕ). length t ≤ limit) (sym h.0) (All-head (λ (f : SyllableFacts). size (printed_syllable f.view f.snippets) ≤ limit) f facts k))
    (texts_short limit syllables facts h.1 (All-tail (λ (f : SyllableFacts). size (printed_syllable f.view f.snippets) ≤ limit) f facts k))
texts_short limit _ _ h k = absurd h

-- what is within limits is within larger ones
pub within_larger : (limits larger : Limits) (head : ℕ) (syllables : List PlacedSyllable) → AreNoLess limits larger → CanonicalWithin limits head syllables → CanonicalWithin larger head syllables
within_larger limits larger head syllables no_less w = grind (arith, All-weaker)

-- ---- what units keep

-- the kept text of a printed text is as long as that: its LF is kept as a blank
kept_size : (v : ViewFacts) → size (cond v.word_start (codes " ") [] ++ text_of_tokens (text_tokens v ++ translation_tokens v.translation)) ≡ size (print v)
unfolding encode
kept_size v = grind arith

module _ (lines macros limit : ℕ) where
  pub one_keeps : (u : BodyUnit) (after : List Char) (v : ViewFacts) (ss : List (List ℕ)) → SaysAgain lines macros u after v ss → size (printed_syllable v ss) ≤ limit → KeepsWithin limit (score_unit u after)
  one_keeps u after v ss h few = grind (arith, kept_size, encodes-append, length-append)

  all_keep : (units : List BodyUnit) (last : LastUnit) (facts : List SyllableFacts) → SayAgain lines macros units last facts → AllShort limit facts → All (KeepsWithin limit) (closed_units units last)
  all_keep [] last [] h k = All-nil (KeepsWithin limit)
  all_keep (u ∷ units) last (f ∷ facts) h k =
      All-cons (KeepsWithin limit) (score_unit u (characters_from units last)) (closed_units units last)
      (one_keeps u (characters_from units last) f.view f.snippets h.0 (All-head (λ (f : SyllableFacts). size (printed_syllable f.view f.snippets) ≤ limit) f facts k))
      (all_keep units last facts h.1 (All-tail (λ (f : SyllableFacts). size (printed_syllable f.view f.snippets) ≤ limit) f facts k))
  all_keep _ last _ h k = absurd h

-- ---- the file

file_size : (book : List (List ℕ × List ℕ)) (syllables : List PlacedSyllable) → length (score_text book syllables) ≡ size (canonical_heads book) + length (canonical_text_of syllables) + 1
file_size book syllables = grind (arith, length-append)

-- the canonical file of a score that is within the limits is no longer than the input may be
pub file_fits : (limits : Limits) (book : List (List ℕ × List ℕ)) (syllables : List PlacedSyllable) → CanonicalWithin limits (size (canonical_heads book)) syllables → length (score_text book syllables) ≤ limits.input
file_fits limits book syllables w = let e : length (score_text book syllables) ≡ size (canonical_heads book) + length (canonical_text_of syllables) + 1 = file_size book syllables in omega (arith, w.file)

module _ (single : (macros : ℕ) (xs : List Char) (cut : BodyCutting) → IsCut texts_by_definition 0 macros xs cut → All (λ (u : ScoreUnit). length u.snippets ≤ 1) (score_units cut.units))
    (first : (lines macros : ℕ) (xs : List Char) (cut : BodyCutting) → IsCut texts_by_definition lines macros xs cut → FirstTextBeginsWord (score_units cut.units))
    (printed : (lines : ℕ) (units : List ScoreUnit) (syllables : List PlacedSyllable) → AreSyllablesOf lines units syllables → FirstTextBeginsWord units
    → (lines ≡ 0 → All (λ (u : ScoreUnit). length u.snippets ≤ 1) units) → ArePrinted lines units syllables)
    (no_limit : (limits : Limits) (t : List ℕ) (book : List (List ℕ × List ℕ)) (cut : BodyCutting) (units : List BodyUnit) (last : List Char) → length (encodes t) < 2 ^ 63
    → (emitted_score limits Whole t).book ≡ Some book → IsBodyCut book t cut → cut.units ≡ Some (record { closed = units; last = JustText last }) → codes_of last ≡ 10 ∷ []
    → All (KeepsWithin limits.syllable) (closed_units units (JustText last))
    → ((syllables : List PlacedSyllable) → AreSyllablesOf (nabc_lines_of book) (score_units cut.units) syllables → CanonicalWithin limits (size (canonical_heads book)) syllables)
    → (emitted_score limits Whole t).fault ≡ None) where
  module _ (limits : Limits) (book : List (List ℕ × List ℕ)) (facts : List SyllableFacts) (file : IsFileAgain limits book facts) (texts : AllShort limits.syllable facts) (fits : size (printed_file book facts) ≤ limits.input) where
    abbrev t : List ℕ
    t = printed_file book facts

    abbrev lines : ℕ
    lines = nabc_lines_of book

    abbrev cut : BodyCutting
    cut = record { comment = []; units = Some (record { closed = file.units; last = JustText file.last }) }

    -- syllables of these units print what was printed
    within : (syllables : List PlacedSyllable) → AreSyllablesOf lines (score_units cut.units) syllables → CanonicalWithin limits (size (canonical_heads book)) syllables
    within syllables h =
        let p = printed lines (score_units cut.units) syllables h (first lines (macros_of book) (body_characters t) cut file.cut)
        (λ e. single (macros_of book) (body_characters t) cut (subst (λ (n : ℕ). IsCut texts_by_definition n (macros_of book) (body_characters t) cut) e file.cut)) in
        let own : AreOwnFacts lines (closed_units file.units (JustText file.last) ++ []) p.facts =
        subst (λ (us : List ScoreUnit). AreOwnFacts lines (closed_units file.units (JustText file.last) ++ us) p.facts) file.no_more p.own in
        let same : p.facts ≡ facts = same_facts lines (macros_of book) file.units (JustText file.last) facts p.facts file.again own in
        let bytes : score_text book syllables ≡ encodes (printed_file book facts) =
        ap (λ (x : List ℕ). encodes (canonical_heads book) ++ x) p.bytes ∙ sym (encodes-append (canonical_heads book) (printed_body p.facts)) ∙ ap (λ (fs : List SyllableFacts). encodes (printed_file book fs)) same in
        let all : length (score_text book syllables) ≡ size (printed_file book facts) = ap length bytes in
        let parts : length (score_text book syllables) ≡ size (canonical_heads book) + length (canonical_text_of syllables) + 1 = file_size book syllables in
        record { texts = texts_short limits.syllable syllables p.facts p.texts (subst (AllShort limits.syllable) (sym same) texts); file = omega arith }

    pub none_again : (emitted_score limits Whole t).fault ≡ None
    none_again =
        no_limit limits t book cut file.units file.last (omega (arith, limits.in_range.input_most)) (ap (λ r. (emitted_score_by limits Whole t r).book) file.heads) file.cut refl file.last_is
        (all_keep lines (macros_of book) limits.syllable file.units (JustText file.last) facts file.again texts) within
