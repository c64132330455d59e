-- The canonical texts of a score's syllables are printed syllables, one after the other, the first
-- of which begins a word.
use Rattle.std.proofs.Common.{◌≡◌, ℕ, ◌≤◌, List, [], ◌∷◌, ◌++◌, length, length-append, Bool, true, false, if◌then◌else◌, Option, Some, None, refl, sym, ap, subst, ◌∙◌, append_assoc, arith, codes}
use Rattle.std.specs.List.{All, flat_map}
use Rattle.std.specs.Option.{option_map}
use Rattle.std.proofs.lemmas.Bool.{eqb-true}
use Rattle.std.proofs.lemmas.List.Elements.{All-head, All-tail}
use Rattle.std.proofs.lemmas.Str.{encodes-append}
use lib.Utf8.{encode, encodes}
use Rattle.gabc_body.proofs.within_limits.CodesOfLimits.{begins_there}
use Rattle.gabc_body.proofs.syllables_of_units.UnitsGiveSyllables.{units_whole}
use Rattle.gabc_body.proofs.units.UnitsEndAtMarks.{IsSingle}
use Rattle.gabc_places.specs.declared.place.Char.{Char}
use Rattle.gabc_text.specs.Events.{codes_of}
use Rattle.gabc_text.specs.TextRead.{view_in}
use Rattle.gabc_text.specs.TextView.{ViewContent}
use Rattle.gabc_text.specs.ViewFacts.{view_facts}
use Rattle.gabc_body.specs.Body.{has_text}
use Rattle.gabc_body.specs.Events.{texts_by_definition}
use Rattle.gabc_body.specs.Syllable.{UnplacedSyllable, PlacedSyllable}
use Rattle.gabc_body.specs.Canonical.{canonical, canonical_in_place, starts_word}
use Rattle.gabc_body.specs.Units.{BodyUnit, LastUnit, JustText, OpenNotes, Units, BodyCutting, cutting_of, BeginsWithLf, IsCutFrom, IsCut}
use Rattle.gabc_body.specs.SyllablesOfUnits.{ScoreUnit, HoldsUnit, AreSyllablesOf, begins_word, next_begins_word, characters_in, characters_from, closed_units, last_units, score_units}
use Rattle.gabc_write.specs.SyllableAgain.{printed_syllable, IsPrinted}
use Rattle.gabc_write.specs.BodyAgain.{SyllableFacts, printed_body, AreSyllables, FirstBeginsWord, FirstTextBeginsWord, AreFactsOf, AreOwnFacts, ArePrintedTexts, ArePrinted}
use Rattle.gabc_write.specs.PlainText.{IsText, AreUnitTexts}
use Rattle.gabc_write.proofs.plain.PlainCharacters.{is_plain, append, is_text, text_plain}

-- ---- the first unit

module _ (begins : (t : List ℕ) → (view_facts (10 ∷ t)).word_start ≡ true) where
  feed_begins : (xs : List Char) → BeginsWithLf xs → (view_facts (codes_of xs)).word_start ≡ true
  feed_begins xs h = grind (arith, eqb-true)

  first_of : (units : List BodyUnit) (last : LastUnit) → BeginsWithLf (characters_from units last) → FirstTextBeginsWord (closed_units units last ++ last_units last)
  first_of (u ∷ units) last h = feed_begins (characters_in u ++ characters_from units last) h
  first_of [] (OpenNotes text nexts xs) h = tt
  first_of [] (JustText xs) h = by (has_text (view_in (codes_of xs)))
    where
      by : (b : Bool) → FirstTextBeginsWord (if b then record { text = codes_of xs; notes = []; snippets = [] } ∷ [] else [])
      by true = feed_begins xs h
      by false = tt

  -- the text of the first unit begins with the LF after the comment
  pub first_text_begins : (lines macros : ℕ) (xs : List Char) (cut : BodyCutting) → IsCut texts_by_definition lines macros xs cut → FirstTextBeginsWord (score_units cut.units)
  first_text_begins lines macros xs cut h = by cut.units h
    where
      by : (units : Option Units) → IsCutFrom texts_by_definition lines macros xs cut.comment (option_map (cutting_of lines) units) → FirstTextBeginsWord (score_units units)
      by None k = tt
      by (Some u) k = first_of u.closed u.last (subst BeginsWithLf (units_whole lines u.closed u.last) k.1.1.0)

-- ---- the syllables

feed : codes "\n" ≡ encodes (10 ∷ [])
unfolding encode
feed = refl

joined : (s t : List ℕ) → IsText s → IsText t → IsText (s ++ t)
joined s t h k = is_text (s ++ t) (append is_plain s t (text_plain s h) (text_plain t k))

module _ (lines : ℕ) (one : (u : ScoreUnit) (m : UnplacedSyllable) → HoldsUnit lines u m → (lines ≡ 0 → length u.snippets ≤ 1) → IsPrinted lines u m)
    (all : List ScoreUnit) (made : List PlacedSyllable) (syllables : AreSyllablesOf lines all made) (first : FirstTextBeginsWord all) where
  -- those after n
  record After (units : List ScoreUnit) (ss : List PlacedSyllable) : Type 0 where
    facts : List SyllableFacts
    are_syllables : AreSyllables lines facts
    facts_are : AreFactsOf units ss facts
    own : AreOwnFacts lines units facts
    texts : ArePrintedTexts ss facts
    bytes : flat_map canonical_in_place ss ++ codes "\n" ≡ encodes (printed_body facts)
    plain : AreUnitTexts units → IsText (printed_body facts)

  -- a unit begins a word if its text does: the first one's does
  begins_as : (before after : List ScoreUnit) (u : ScoreUnit) → all ≡ before ++ u ∷ after → begins_word before u ≡ (view_in u.text).word_start
  begins_as before after u e = grind arith

  after : (before units : List ScoreUnit) (earlier ss : List PlacedSyllable) → all ≡ before ++ units → made ≡ earlier ++ ss → length earlier ≡ length before → length ss ≡ length units
      → (lines ≡ 0 → All IsSingle units) → After units ss
  after before [] earlier [] e f n m single = record { facts = []; are_syllables = tt; facts_are = tt; own = tt; texts = tt; bytes = feed; plain = λ h. is_text (10 ∷ []) refl }
  after before (u ∷ units) earlier (s ∷ ss) e f n m single =
      let h = syllables.each before units u earlier ss s e f n in
      let p = one u s.made h.holds (λ z. All-head IsSingle u units (single z)) in
      let r = after (before ++ u ∷ []) units (earlier ++ s ∷ []) ss (e ∙ sym (append_assoc before (u ∷ []) units)) (f ∙ sym (append_assoc earlier (s ∷ []) ss))
      (omega (arith, length-append before (u ∷ []), length-append earlier (s ∷ []), n)) (omega (arith, m)) (λ z. All-tail IsSingle u units (single z)) in
      let starts : starts_word s.position ≡ s.made.text.word_start =
      ap starts_word h.position_is ∙ begins_there (begins_word before u) (next_begins_word units) ∙ begins_as before units u e ∙ sym (ap (λ (v : ViewContent). v.word_start) h.holds.view_is) in
      let here : canonical_in_place s ≡ encodes (printed_syllable (view_facts u.text) p.snippets) = ap (λ (b : Bool). canonical b s.made) starts ∙ p.bytes in
      record {
        facts = record { view = view_facts u.text; snippets = p.snippets } ∷ r.facts;
        are_syllables = (((u.text, refl), p.are_snippets), r.are_syllables);
        facts_are = ((refl, p.texts), r.facts_are);
        own = ((refl, p.own), r.own);
        texts = (here, r.texts);
        bytes = append_assoc (canonical_in_place s) (flat_map canonical_in_place ss) (codes "\n") ∙ ap (λ (x : List ℕ). x ++ (flat_map canonical_in_place ss ++ codes "\n")) here
            ∙ ap (λ (x : List ℕ). encodes (printed_syllable (view_facts u.text) p.snippets) ++ x) r.bytes ∙ sym (encodes-append (printed_syllable (view_facts u.text) p.snippets) (printed_body r.facts));
        plain = λ k. joined (printed_syllable (view_facts u.text) p.snippets) (printed_body r.facts) (p.plain k.0.0 k.0.1) (r.plain k.1);
      }
  after before _ earlier _ e f n m single = absurd (omega (arith, m))

  first_is : (units : List ScoreUnit) (ss : List PlacedSyllable) (facts : List SyllableFacts) → FirstTextBeginsWord units → AreFactsOf units ss facts → FirstBeginsWord facts
  first_is units ss facts h g = grind arith

  pub are_printed : (lines ≡ 0 → All IsSingle all) → ArePrinted lines all made
  are_printed single =
      let r = after [] all [] made refl refl refl syllables.count single in
      record { facts = r.facts; are_syllables = r.are_syllables; first = first_is all made r.facts first r.facts_are; facts_are = r.facts_are; own = r.own; texts = r.texts; bytes = r.bytes; plain = r.plain }
