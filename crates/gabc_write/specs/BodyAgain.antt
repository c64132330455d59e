-- The printed syllables of a body, read again as its units.
use Rattle.std.specs.Prelude.{◌≡◌, ◌≢◌, ℕ, List, [], ◌∷◌, ◌++◌, map, true, Some, codes, encode_utf8_all}
use Rattle.gabc_places.specs.declared.place.Place.{Place}
use Rattle.gabc_places.specs.declared.place.Char.{Char}
use Rattle.gabc_places.specs.Place.{placed_characters_from}
use Rattle.gabc_text.specs.Events.{codes_of}
use Rattle.gabc_text.specs.ViewFacts.{ViewFacts, view_facts}
use Rattle.gabc_body.specs.Events.{texts_by_definition}
use Rattle.gabc_body.specs.Units.{BodyUnit, LastUnit, JustText, IsCut}
use Rattle.gabc_body.specs.SyllablesOfUnits.{ScoreUnit, characters_from, last_units}
use Rattle.gabc_body.specs.declared.snippets.Snippet.{Snippet}
use Rattle.gabc_body.specs.Syllable.{PlacedSyllable, slice}
use Rattle.gabc_body.specs.Canonical.{canonical_in_place}
use Rattle.gabc_write.specs.CanonicalFile.{canonical_text_of}
use Rattle.gabc_write.specs.PlainText.{IsText, AreUnitTexts}
use Rattle.gabc_write.specs.SyllableAgain.{printed_syllable, kept_snippets, AreSnippets, SaysAgain}

-- what is said of a syllable: by its text, and its snippets
pub record SyllableFacts : Type 0 where
  pub view : ViewFacts
  pub snippets : List (List ℕ)

-- the printed syllables, and the LF that ends a file
abbrev pub printed_body : List SyllableFacts → List ℕ
printed_body [] = 10 ∷ []
printed_body (s ∷ ss) = printed_syllable s.view s.snippets ++ printed_body ss

-- each says what a text says, and has snippets of their lines
abbrev pub AreSyllables : ℕ → List SyllableFacts → Type 0
AreSyllables lines [] = Unit {0}
AreSyllables lines (s ∷ ss) = (((t : List ℕ) × (s.view ≡ view_facts t)) × AreSnippets lines s.snippets) × AreSyllables lines ss

-- the first of them, if there is one, begins a word
abbrev pub FirstBeginsWord : List SyllableFacts → Type 0
FirstBeginsWord [] = Unit {0}
FirstBeginsWord (s ∷ ss) = s.view.word_start ≡ true

-- the units, one for each syllable, say the same
abbrev pub SayAgain : ℕ → ℕ → List BodyUnit → LastUnit → List SyllableFacts → Type 0
SayAgain lines macros [] last [] = Unit {0}
SayAgain lines macros (u ∷ units) last (s ∷ ss) = SaysAgain lines macros u (characters_from units last) s.view s.snippets × SayAgain lines macros units last ss
SayAgain lines macros _ last _ = ⊥

-- A body of printed syllables from this place on is cut, without a comment, into units that say the
-- same, and into a last text of an LF, which is no unit.
pub record IsBodyAgain (lines macros : ℕ) (at : Place) (ss : List SyllableFacts) : Type 0 where
  pub units : List BodyUnit
  pub last : List Char
  pub cut : IsCut texts_by_definition lines macros (placed_characters_from at (printed_body ss)) (record { comment = []; units = Some (record { closed = units; last = JustText last }) })
  pub again : SayAgain lines macros units (JustText last) ss
  pub last_is : codes_of last ≡ 10 ∷ []
  pub no_more : last_units (JustText last) ≡ []

-- ---- the body of a score

-- the text of the first unit, if there is one, begins a word
abbrev pub FirstTextBeginsWord : List ScoreUnit → Type 0
FirstTextBeginsWord [] = Unit {0}
FirstTextBeginsWord (u ∷ units) = (view_facts u.text).word_start ≡ true

-- this is said by the text of each unit, and by the snippets of its syllable
abbrev pub AreFactsOf : List ScoreUnit → List PlacedSyllable → List SyllableFacts → Type 0
AreFactsOf [] [] [] = Unit {0}
AreFactsOf (u ∷ units) (s ∷ syllables) (f ∷ facts) =
    ((f.view ≡ view_facts u.text) × (map (λ (x : Snippet). slice x.span s.made.kept) s.made.snippets ≡ map encode_utf8_all f.snippets)) × AreFactsOf units syllables facts
AreFactsOf _ _ _ = ⊥

-- these are the canonical texts of the syllables, one for each
abbrev pub ArePrintedTexts : List PlacedSyllable → List SyllableFacts → Type 0
ArePrintedTexts [] [] = Unit {0}
ArePrintedTexts (s ∷ syllables) (f ∷ facts) = (canonical_in_place s ≡ encode_utf8_all (printed_syllable f.view f.snippets)) × ArePrintedTexts syllables facts
ArePrintedTexts _ _ = ⊥

-- this is said by the text of each unit, and by what its own snippets keep, if it has notes
abbrev pub AreOwnFacts : ℕ → List ScoreUnit → List SyllableFacts → Type 0
AreOwnFacts lines [] [] = Unit {0}
AreOwnFacts lines (u ∷ units) (f ∷ facts) = ((f.view ≡ view_facts u.text) × (u.snippets ≢ [] → f.snippets ≡ kept_snippets lines 0 u.snippets)) × AreOwnFacts lines units facts
AreOwnFacts lines _ _ = ⊥

-- The canonical texts of these syllables of units, with the LF that ends a file, are the printed
-- body of what they say. Its characters are plain if the units' are.
pub record ArePrinted (lines : ℕ) (units : List ScoreUnit) (syllables : List PlacedSyllable) : Type 0 where
  pub facts : List SyllableFacts
  pub are_syllables : AreSyllables lines facts
  pub first : FirstBeginsWord facts
  pub facts_are : AreFactsOf units syllables facts
  pub own : AreOwnFacts lines units facts
  pub texts : ArePrintedTexts syllables facts
  pub bytes : canonical_text_of syllables ++ codes "\n" ≡ encode_utf8_all (printed_body facts)
  pub plain : AreUnitTexts units → IsText (printed_body facts)
