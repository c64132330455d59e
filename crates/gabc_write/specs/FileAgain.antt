-- A canonical file, read again as its headers and its units.
use Rattle.std.specs.Prelude.{◌≡◌, ℕ, List, [], ◌∷◌, ◌++◌, Some, Ok}
use Rattle.gabc_places.specs.declared.limits.Limits.{Limits}
use Rattle.gabc_headers.specs.Book.{nabc_lines_of, macros_of}
use Rattle.gabc_headers.specs.Canonical.{canonical_heads}
use Rattle.gabc_headers.specs.Heads.{heads_of}
use Rattle.gabc_headers.specs.HeadsAgain.{heads_again}
use Rattle.gabc_text.specs.Events.{codes_of}
use Rattle.gabc_body.specs.Units.{BodyUnit, JustText}
use Rattle.gabc_body.specs.SyllablesOfUnits.{last_units, IsBodyCut}
use Rattle.gabc_places.specs.declared.place.Char.{Char}
use Rattle.gabc_write.specs.BodyAgain.{SyllableFacts, printed_body, SayAgain}

-- the canonical lines of a book, `%%`, and the printed syllables with the LF that ends the file
abbrev pub printed_file : List (List ℕ × List ℕ) → List SyllableFacts → List ℕ
printed_file book facts = canonical_heads book ++ printed_body facts

-- The file of this book and these syllables is read as the book, and its body is cut, without a
-- comment, into units that say the same, and into a last text of an LF, which is no unit.
pub record IsFileAgain (limits : Limits) (book : List (List ℕ × List ℕ)) (facts : List SyllableFacts) : Type 0 where
  pub heads : heads_of limits (printed_file book facts) ≡ Ok (heads_again book)
  pub units : List BodyUnit
  pub last : List Char
  pub cut : IsBodyCut book (printed_file book facts) (record { comment = []; units = Some (record { closed = units; last = JustText last }) })
  pub again : SayAgain (nabc_lines_of book) (macros_of book) units (JustText last) facts
  pub last_is : codes_of last ≡ 10 ∷ []
  pub no_more : last_units (JustText last) ≡ []
