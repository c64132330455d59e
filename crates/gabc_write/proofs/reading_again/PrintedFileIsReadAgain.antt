-- A canonical file is read as its book, and its body as its units.
use Rattle.std.proofs.Common.{◌≡◌, ℕ, List, ◌++◌, length, length-append, Ok, arith}
use Rattle.std.proofs.Math.Seq.{take-append_seam, drop-append_seam}
use Rattle.gabc_places.specs.declared.limits.Limits.{Limits}
use Rattle.gabc_places.specs.Place.{place_after, placed_characters_from}
use Rattle.gabc_places.proofs.PlacesOfAText.{placed_after}
use Rattle.gabc_headers.specs.Book.{nabc_lines_of, macros_of}
use Rattle.gabc_headers.specs.Canonical.{header_lines, canonical_heads}
use Rattle.gabc_headers.specs.Heads.{head_len, heads_of}
use Rattle.gabc_headers.specs.HeadsAgain.{heads_again}
use Rattle.gabc_body.specs.SyllablesOfUnits.{body_characters}
use Rattle.gabc_write.specs.BodyAgain.{SyllableFacts, IsBodyAgain}
use Rattle.gabc_write.specs.FileAgain.{printed_file, IsFileAgain}

-- the characters of the body
body_is : (book : List (List ℕ × List ℕ)) (more : List ℕ) → head_len (canonical_heads book ++ more) ≡ length (header_lines book)
    → body_characters (canonical_heads book ++ more) ≡ placed_characters_from (place_after (canonical_heads book)) more
body_is book more e = grind (arith, length-append, take-append_seam, drop-append_seam, placed_after)

pub file_is : (limits : Limits) (book : List (List ℕ × List ℕ)) (facts : List SyllableFacts) → heads_of limits (printed_file book facts) ≡ Ok (heads_again book)
    → head_len (printed_file book facts) ≡ length (header_lines book)
    → IsBodyAgain (nabc_lines_of book) (macros_of book) (place_after (canonical_heads book)) facts → IsFileAgain limits book facts
file_is limits book facts h e b = grind (arith, body_is)
