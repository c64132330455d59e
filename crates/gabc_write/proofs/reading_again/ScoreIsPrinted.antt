-- The canonical file of a score is a printed file.
use Rattle.std.proofs.Common.{◌≡◌, ◌≢◌, ℕ, zero, suc, ◌-◌, ◌<◌, ◌^◌, ◌≤◌, List, [], ◌∷◌, ◌++◌, take, length, Bool, true, Option, Some, None, Ok, refl, sym, ap, subst, ◌∙◌, arith}
use Rattle.std.specs.List.{All}
use Rattle.std.specs.Char.{IsScalar}
use Rattle.std.proofs.lemmas.List.Elements.{All-nil, All-cons, All-head, All-tail, All-take, All-drop}
use Rattle.std.proofs.lemmas.Str.{encodes-append}
use lib.Utf8.{encodes}
use Rattle.gabc_body.proofs.texts_of_body.TextEmitsThroughEnd.{codes_append}
use Rattle.gabc_body.proofs.holding.ScoreHoldsParts.{codes_placed}
use Rattle.gabc_body.proofs.units.UnitsEndAtMarks.{IsSingle}
use Rattle.gabc_places.specs.declared.limits.Limits.{Limits}
use Rattle.gabc_places.specs.LargerLimits.{AreNoLess}
use Rattle.gabc_places.specs.declared.place.Char.{Char}
use Rattle.gabc_places.specs.declared.code.Fault.{Fault}
use Rattle.gabc_headers.specs.declared.heads.Heads.{Heads}
use Rattle.gabc_headers.specs.Book.{nabc_lines_of, macros_of}
use Rattle.gabc_headers.specs.Canonical.{canonical_heads}
use Rattle.gabc_headers.specs.Heads.{heads_of}
use Rattle.gabc_text.specs.Events.{codes_of}
use Rattle.gabc_body.specs.declared.ending.InputEnding.{InputEnding}
use Rattle.gabc_body.specs.declared.ending.InputEnding.TheVariants.{Whole, Broken, At}
use Rattle.gabc_body.specs.Events.{Texts, texts_by_definition}
use Rattle.gabc_body.specs.Score.{heads_text, after_heads}
use Rattle.gabc_body.specs.witness.EmittedScore.{emitted_score}
use Rattle.gabc_body.specs.Syllable.{PlacedSyllable}
use Rattle.gabc_body.specs.Units.{BodyUnit, LastUnit, Units, BodyCutting, IsCut}
use Rattle.gabc_body.specs.SyllablesOfUnits.{ScoreUnit, with_ends, snippets_in, characters_in, last_in, characters_from, unit_characters, closed_units, last_units, score_units, count_within, units_within, AreSyllablesOf, body_characters, IsBodyCut, AreBeforeBodyStop}
use Rattle.gabc_write.specs.PlainText.{IsText, AreUnitTexts}
use Rattle.gabc_places.specs.Text.{decoded_of}
use Rattle.gabc_places.specs.TextOfAnInput.{IsPlain}
use Rattle.gabc_write.specs.BodyAgain.{SyllableFacts, AreSyllables, FirstBeginsWord, FirstTextBeginsWord, ArePrinted, printed_body, AreFactsOf}
use Rattle.gabc_write.specs.FileAgain.{printed_file, IsFileAgain}
use Rattle.gabc_write.specs.ScoreAgain.{IsPrintedScore, IsSameScore, IsScoreAgain}
use Rattle.gabc_notes.specs.ReadAgain.{IsWarning}
use Rattle.gabc_body.specs.WithinLimits.{CanonicalWithin, AreWithin}
use Rattle.gabc_write.specs.SyllableMeaning.{AreSame}
use Rattle.gabc_write.proofs.reading_again.NoLimitIsPassedAgain.{AllShort, printed_short, within_larger, file_fits}
use Rattle.gabc_write.proofs.plain.PlainCharacters.{is_plain, plain, append, parts_of, is_text, text_plain}
use Rattle.gabc_write.proofs.plain.BookIsPlain.{heads_plain}

-- ---- the units of a text

abbrev plain_characters : List Char → Type 0
plain_characters xs = plain (codes_of xs) ≡ true

halves : (xs ys : List Char) → plain_characters (xs ++ ys) → plain_characters xs × plain_characters ys
halves xs ys h = parts_of is_plain (codes_of xs) (codes_of ys) (ap plain (sym (codes_append xs ys)) ∙ h)

closed_texts : (units : List BodyUnit) (last : LastUnit) → plain_characters (characters_from units last) → AreUnitTexts (closed_units units last)
closed_texts [] last h = tt
closed_texts (u ∷ units) last h =
    let g = halves (characters_in u) (characters_from units last) h in
    let notes = halves u.text.characters (u.text.end ∷ with_ends (snippets_in u)) g.0 in
    ((is_text (codes_of (characters_in u ++ characters_from units last)) h, is_text (codes_of (u.text.end ∷ with_ends (snippets_in u))) notes.1), closed_texts units last g.1)

last_plain : (units : List BodyUnit) (last : LastUnit) → plain_characters (characters_from units last) → plain_characters (last_in last)
last_plain [] last h = h
last_plain (u ∷ units) last h = last_plain units last (halves (characters_in u) (characters_from units last) h).1

last_texts : (last : LastUnit) → plain_characters (last_in last) → AreUnitTexts (last_units last)
last_texts last h = grind (arith, is_text)

texts_append : (us vs : List ScoreUnit) → AreUnitTexts us → AreUnitTexts vs → AreUnitTexts (us ++ vs)
texts_append [] vs h k = k
texts_append (u ∷ us) vs h k = (h.0, texts_append us vs h.1 k)

texts_taken : (n : ℕ) (us : List ScoreUnit) → AreUnitTexts us → AreUnitTexts (take n us)
texts_taken zero [] h = tt
texts_taken zero (u ∷ us) h = tt
texts_taken (suc n) [] h = tt
texts_taken (suc n) (u ∷ us) h = (h.0, texts_taken n us h.1)

unit_texts : (units : Option Units) → plain_characters (unit_characters units) → AreUnitTexts (score_units units)
unit_texts units h = grind (arith, texts_append, closed_texts, last_texts, last_plain)

within_texts : (n : ℕ) (units : Option Units) → plain_characters (unit_characters units) → AreUnitTexts (units_within n units)
within_texts n units h = grind (arith, texts_taken, closed_texts)

-- ---- the first of them

first_taken : (n : ℕ) (us vs : List ScoreUnit) → FirstTextBeginsWord (us ++ vs) → FirstTextBeginsWord (take n us)
first_taken n us vs h = grind arith

first_within : (n : ℕ) (units : Option Units) → FirstTextBeginsWord (score_units units) → FirstTextBeginsWord (units_within n units)
first_within n units h = grind (arith, first_taken)

all_left : (us vs : List ScoreUnit) → All IsSingle (us ++ vs) → All IsSingle us
all_left [] vs h = All-nil IsSingle
all_left (u ∷ us) vs h = All-cons IsSingle u us (All-head IsSingle u (us ++ vs) h) (all_left us vs (All-tail IsSingle u (us ++ vs) h))

single_within : (n : ℕ) (units : Option Units) → All IsSingle (score_units units) → All IsSingle (units_within n units)
single_within n None h = All-nil IsSingle
single_within n (Some u) h = All-take IsSingle (count_within n u.closed) (closed_units u.closed u.last) (all_left (closed_units u.closed u.last) (last_units u.last) h)

-- ---- the score

pub record UnitsAre (t : List ℕ) (book : List (List ℕ × List ℕ)) (syllables : List PlacedSyllable) : Type 0 where
  pub units : List ScoreUnit
  pub syllables_are : AreSyllablesOf (nabc_lines_of book) units syllables
  pub first : FirstTextBeginsWord units
  pub single : nabc_lines_of book ≡ 0 → All IsSingle units
  pub texts : IsText t → AreUnitTexts units

record HeadsAre (limits : Limits) (t : List ℕ) (book : List (List ℕ × List ℕ)) : Type 0 where
  heads : Heads
  read : heads_of limits t ≡ Ok heads
  book_is : heads.book ≡ book

heads_are : (limits : Limits) (ending : InputEnding) (t : List ℕ) (book : List (List ℕ × List ℕ)) → (emitted_score limits ending t).book ≡ Some book → HeadsAre limits t book
heads_are limits ending t book = grind arith

module _ (one : (texts : Texts) (lines macros : ℕ) (xs : List Char) → (cut : BodyCutting) × IsCut texts lines macros xs cut)
    (single : (macros : ℕ) (xs : List Char) (cut : BodyCutting) → IsCut texts_by_definition 0 macros xs cut → All (λ (u : ScoreUnit). length u.snippets ≤ 1) (score_units cut.units))
    (characters : (texts : Texts) (lines macros : ℕ) (xs : List Char) (cut : BodyCutting) → IsCut texts lines macros xs cut → xs ≡ cut.comment ++ unit_characters cut.units)
    (first : (lines macros : ℕ) (xs : List Char) (cut : BodyCutting) → IsCut texts_by_definition lines macros xs cut → FirstTextBeginsWord (score_units cut.units))
    (whole : (limits : Limits) (t : List ℕ) (book : List (List ℕ × List ℕ)) (cut : BodyCutting) → length (encodes t) < 2 ^ 63
    → (emitted_score limits Whole t).book ≡ Some book → IsBodyCut book t cut → (emitted_score limits Whole t).fault ≡ None
    → AreSyllablesOf (nabc_lines_of book) (score_units cut.units) (emitted_score limits Whole t).syllables)
    (stopped : (limits : Limits) (ending : InputEnding) (t : List ℕ) (book : List (List ℕ × List ℕ)) (cut : BodyCutting) (n : ℕ) → length (encodes t) < 2 ^ 63
    → (emitted_score limits ending t).book ≡ Some book → IsBodyCut book t cut → AreBeforeBodyStop limits book t n → ¬ ((ending ≡ Whole) × ((emitted_score limits ending t).fault ≡ None))
    → AreSyllablesOf (nabc_lines_of book) (units_within (n - length cut.comment) cut.units) (emitted_score limits ending t).syllables)
    (stop : (limits : Limits) (book : List (List ℕ × List ℕ)) (t : List ℕ) → (n : ℕ) × AreBeforeBodyStop limits book t n)
    (printed : (lines : ℕ) (units : List ScoreUnit) (syllables : List PlacedSyllable) → AreSyllablesOf lines units syllables → FirstTextBeginsWord units
    → (lines ≡ 0 → All (λ (u : ScoreUnit). length u.snippets ≤ 1) units) → ArePrinted lines units syllables) where
  module _ (limits : Limits) (t : List ℕ) (book : List (List ℕ × List ℕ)) (cut : BodyCutting) (is_cut : IsBodyCut book t cut) (short : length (encodes t) < 2 ^ 63) where
    units_plain : IsText t → plain_characters (unit_characters cut.units)
    units_plain h =
        let after : IsText (after_heads t) = record { scalars = All-drop IsScalar _ t h.scalars; plain = All-drop IsPlain _ t h.plain } in
        let body : plain_characters (body_characters t) = ap plain (codes_placed (heads_text t) (after_heads t)) ∙ text_plain (after_heads t) after in
        (halves cut.comment (unit_characters cut.units) (subst plain_characters (characters texts_by_definition (nabc_lines_of book) (macros_of book) (body_characters t) cut is_cut) body)).1

    begins : FirstTextBeginsWord (score_units cut.units)
    begins = first (nabc_lines_of book) (macros_of book) (body_characters t) cut is_cut

    singles : nabc_lines_of book ≡ 0 → All IsSingle (score_units cut.units)
    singles e = single (macros_of book) (body_characters t) cut (subst (λ (lines : ℕ). IsCut texts_by_definition lines (macros_of book) (body_characters t) cut) e is_cut)

    stopped_units : (ending : InputEnding) → (emitted_score limits ending t).book ≡ Some book → ¬ ((ending ≡ Whole) × ((emitted_score limits ending t).fault ≡ None)) → UnitsAre t book (emitted_score limits ending t).syllables
    stopped_units ending h early =
        let (n, before) = stop limits book t in
        let m : ℕ = n - length cut.comment in
        record {
          units = units_within m cut.units;
          syllables_are = stopped limits ending t book cut n short h is_cut before early;
          first = first_within m cut.units begins;
          single = λ e. single_within m cut.units (singles e);
          texts = λ k. within_texts m cut.units (units_plain k);
        }

    whole_units : (o : Option Fault) → (emitted_score limits Whole t).fault ≡ o → (emitted_score limits Whole t).book ≡ Some book → UnitsAre t book (emitted_score limits Whole t).syllables
    whole_units None e h = record {
      units = score_units cut.units;
      syllables_are = whole limits t book cut short h is_cut e;
      first = begins;
      single = singles;
      texts = λ k. unit_texts cut.units (units_plain k);
    }
    whole_units (Some fault) e h = stopped_units Whole h (λ p. absurd (let none = p.1 in cc))

    units_are : (ending : InputEnding) → (emitted_score limits ending t).book ≡ Some book → UnitsAre t book (emitted_score limits ending t).syllables
    units_are Whole h = whole_units (emitted_score limits Whole t).fault refl h
    units_are Broken h = stopped_units Broken h (λ p. absurd (let whole = p.0 in cc))
    units_are (At fault) h = stopped_units (At fault) h (λ p. absurd (let whole = p.0 in cc))

  pub score_units_are : (limits : Limits) (ending : InputEnding) (t : List ℕ) (book : List (List ℕ × List ℕ)) → length (encodes t) < 2 ^ 63
      → (emitted_score limits ending t).book ≡ Some book → UnitsAre t book (emitted_score limits ending t).syllables
  score_units_are limits ending t book short h =
      let (cut, is_cut) = one texts_by_definition (nabc_lines_of book) (macros_of book) (body_characters t) in
      units_are limits t book cut is_cut short ending h

  pub score_printed : (limits : Limits) (ending : InputEnding) (t : List ℕ) (book : List (List ℕ × List ℕ)) → length (encodes t) < 2 ^ 63
      → (emitted_score limits ending t).book ≡ Some book → IsPrintedScore t book (emitted_score limits ending t).syllables
  score_printed limits ending t book short h =
      let u = score_units_are limits ending t book short h in
      let p = printed (nabc_lines_of book) u.units (emitted_score limits ending t).syllables u.syllables_are u.first u.single in
      let heads = heads_are limits ending t book h in
      record {
        units = u.units;
        facts = p.facts;
        syllables_are = u.syllables_are;
        facts_are = p.facts_are;
        are_syllables = p.are_syllables;
        first = p.first;
        texts = p.texts;
        bytes = ap (λ (x : List ℕ). encodes (canonical_heads book) ++ x) p.bytes ∙ sym (encodes-append (canonical_heads book) (printed_body p.facts));
        text = λ k. is_text (printed_file book p.facts) (append is_plain (canonical_heads book) (printed_body p.facts)
            (subst (λ (b : List (List ℕ × List ℕ)). plain (canonical_heads b) ≡ true) heads.book_is (heads_plain limits t heads.heads heads.read (text_plain t k)))
            (text_plain (printed_body p.facts) (p.plain (u.texts k))));
      }

-- ---- read again

pub score_again : (printed : (limits : Limits) (ending : InputEnding) (t : List ℕ) (book : List (List ℕ × List ℕ)) → length (encodes t) < 2 ^ 63
    → (emitted_score limits ending t).book ≡ Some book → IsPrintedScore t book (emitted_score limits ending t).syllables)
    → (decoded : (limits : Limits) (ended : Bool) (text : List ℕ) → All IsScalar text → All (λ c. (c ≢ 13) × (c ≢ 0xFEFF)) text → length (encodes text) ≤ limits.input
    → decoded_of limits ended (encodes text) ≡ record { text = text; fault = None })
    → (file : (limits larger : Limits) (t : List ℕ) (heads : Heads) (facts : List SyllableFacts) → AreNoLess limits larger → heads_of limits t ≡ Ok heads → AreSyllables (nabc_lines_of heads.book) facts
    → FirstBeginsWord facts → IsFileAgain larger heads.book facts)
    → (same : (limits : Limits) (book : List (List ℕ × List ℕ)) (facts : List SyllableFacts) → IsFileAgain limits book facts
    → length (encodes (printed_file book facts)) < 2 ^ 63 → (emitted_score limits Whole (printed_file book facts)).fault ≡ None
    → IsSameScore book facts (emitted_score limits Whole (printed_file book facts)))
    → (well_read : (limits : Limits) (ending : InputEnding) (t : List ℕ) (book : List (List ℕ × List ℕ)) → (emitted_score limits ending t).book ≡ Some book
    → AreWithin limits (length (encodes (canonical_heads book))) (emitted_score limits ending t).syllables)
    → (none : (limits : Limits) (book : List (List ℕ × List ℕ)) (facts : List SyllableFacts) → IsFileAgain limits book facts → AllShort limits.syllable facts
    → length (encodes (printed_file book facts)) ≤ limits.input → (emitted_score limits Whole (printed_file book facts)).fault ≡ None)
    → (warns : (limits : Limits) (book : List (List ℕ × List ℕ)) (facts : List SyllableFacts) → IsFileAgain limits book facts → All IsWarning (emitted_score limits Whole (printed_file book facts)).findings)
    → (equal : (lines : ℕ) (units others : List ScoreUnit) (ss ts : List PlacedSyllable) (facts : List SyllableFacts) → AreSyllablesOf lines units ss → AreSyllablesOf lines others ts
    → AreFactsOf units ss facts → AreFactsOf others ts facts → FirstBeginsWord facts → AreSame ss ts)
    → (limits larger : Limits) (ending : InputEnding) (t : List ℕ) (book : List (List ℕ × List ℕ)) → AreNoLess limits larger → length (encodes t) < 2 ^ 63 → IsText t
    → (emitted_score limits ending t).book ≡ Some book → IsScoreAgain larger t book (emitted_score limits ending t).syllables
score_again printed decoded file same well_read none warns equal limits larger ending t book no_less short text h =
    let syllables = (emitted_score limits ending t).syllables in
    let p = printed limits ending t book short h in
    let heads = heads_are limits ending t book h in
    let own = p.text text in
    let read : IsFileAgain larger book p.facts = subst (λ (b : List (List ℕ × List ℕ)). IsFileAgain larger b p.facts) heads.book_is
    (file limits larger t heads.heads p.facts no_less heads.read (subst (λ (b : List (List ℕ × List ℕ)). AreSyllables (nabc_lines_of b) p.facts) (sym heads.book_is) p.are_syllables) p.first) in
    let w : CanonicalWithin larger (length (encodes (canonical_heads book))) syllables = within_larger limits larger _ syllables no_less (well_read limits ending t book h).canonical in
    let fits = file_fits larger book syllables w in
    let size : length (encodes (printed_file book p.facts)) ≤ larger.input = subst (λ (bytes : List ℕ). length bytes ≤ larger.input) p.bytes fits in
    let no_fault = none larger book p.facts read (printed_short larger.syllable syllables p.facts p.texts w.texts) size in
    let again = same larger book p.facts read (omega (arith, size, larger.in_range.input_most)) no_fault in
    record {
      printed = p;
      fits = fits;
      decoded = λ ended. subst (λ (bytes : List ℕ). decoded_of larger ended bytes ≡ record { text = printed_file book p.facts; fault = None }) (sym p.bytes)
          (decoded larger ended (printed_file book p.facts) own.scalars own.plain size);
      file = read;
      no_fault = no_fault;
      warnings = warns larger book p.facts read;
      same = again;
      same_meaning = equal (nabc_lines_of book) again.units p.units _ syllables p.facts again.syllables_are p.syllables_are again.facts_are p.facts_are p.first;
      same_file = again.bytes ∙ sym p.bytes;
    }
