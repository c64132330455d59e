-- The canonical file of a score, as a text.
use Rattle.std.specs.Prelude.{◌≡◌, ◌≤◌, ℕ, List, length, Bool, Some, None, encode_utf8_all}
use Rattle.gabc_places.specs.declared.limits.Limits.{Limits}
use Rattle.gabc_places.specs.Text.{decoded_of}
use Rattle.std.specs.List.{All}
use Rattle.gabc_notes.specs.ReadAgain.{IsWarning}
use Rattle.gabc_headers.specs.Book.{nabc_lines_of}
use Rattle.gabc_body.specs.declared.ending.InputEnding.TheVariants.{Whole}
use Rattle.gabc_body.specs.declared.score.Score.{Score}
use Rattle.gabc_body.specs.witness.EmittedScore.{emitted_score}
use Rattle.gabc_body.specs.Syllable.{PlacedSyllable}
use Rattle.gabc_body.specs.SyllablesOfUnits.{ScoreUnit, AreSyllablesOf}
use Rattle.gabc_write.specs.BodyAgain.{SyllableFacts, AreSyllables, FirstBeginsWord, AreFactsOf, ArePrintedTexts}
use Rattle.gabc_write.specs.CanonicalFile.{score_text}
use Rattle.gabc_write.specs.FileAgain.{printed_file, IsFileAgain}
use Rattle.gabc_write.specs.PlainText.{IsText}
use Rattle.gabc_write.specs.SyllableMeaning.{AreSame}

-- The canonical lines of this book and the canonical texts of these syllables are a file of what
-- the units of the syllables say. If the input was decoded from bytes, the file reads as a text
-- that was.
pub record IsPrintedScore (input : List ℕ) (book : List (List ℕ × List ℕ)) (syllables : List PlacedSyllable) : Type 0 where
  pub units : List ScoreUnit
  pub facts : List SyllableFacts
  pub syllables_are : AreSyllablesOf (nabc_lines_of book) units syllables
  pub facts_are : AreFactsOf units syllables facts
  pub are_syllables : AreSyllables (nabc_lines_of book) facts
  pub first : FirstBeginsWord facts
  pub texts : ArePrintedTexts syllables facts
  pub bytes : score_text book syllables ≡ encode_utf8_all (printed_file book facts)
  pub text : IsText input → IsText (printed_file book facts)

-- A score has this book and syllables of which this is said, and its canonical file is the file of
-- these.
pub record IsSameScore (book : List (List ℕ × List ℕ)) (facts : List SyllableFacts) (again : Score) : Type 0 where
  pub book_is : again.book ≡ Some book
  pub units : List ScoreUnit
  pub syllables_are : AreSyllablesOf (nabc_lines_of book) units again.syllables
  pub facts_are : AreFactsOf units again.syllables facts
  pub bytes : score_text book again.syllables ≡ encode_utf8_all (printed_file book facts)

-- The canonical file of this book and these syllables is read again, under these limits: it has no
-- more bytes than the limit of the input, they are decoded without a fault, and the text is read as
-- the book and cut into units that say the same as the syllables' units. Its score has no fault and
-- no error and is the same: it has this book, its syllables say the same, and its canonical file is
-- this file.
pub record IsScoreAgain (limits : Limits) (input : List ℕ) (book : List (List ℕ × List ℕ)) (syllables : List PlacedSyllable) : Type 0 where
  pub printed : IsPrintedScore input book syllables
  pub fits : length (score_text book syllables) ≤ limits.input
  pub decoded : (ended : Bool) → decoded_of limits ended (score_text book syllables) ≡ record { text = printed_file book printed.facts; fault = None }
  pub file : IsFileAgain limits book printed.facts
  pub no_fault : (emitted_score limits Whole (printed_file book printed.facts)).fault ≡ None
  pub warnings : All IsWarning (emitted_score limits Whole (printed_file book printed.facts)).findings
  pub same : IsSameScore book printed.facts (emitted_score limits Whole (printed_file book printed.facts))
  pub same_meaning : AreSame (emitted_score limits Whole (printed_file book printed.facts)).syllables syllables
  pub same_file : score_text book (emitted_score limits Whole (printed_file book printed.facts)).syllables ≡ score_text book syllables
