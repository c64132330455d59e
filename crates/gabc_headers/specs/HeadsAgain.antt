-- What the headers say that are read from a book's canonical lines.
use Rattle.std.specs.Prelude.{ℕ, List, [], ◌∷◌, cond, codes}
use Rattle.gabc_places.specs.declared.code.Code.TheVariants.{W1}
use Rattle.gabc_places.specs.declared.code.Finding.{Finding}
use Rattle.gabc_places.specs.Place.{place_after}
use Rattle.gabc_headers.specs.declared.heads.Heads.{Heads}
use Rattle.gabc_headers.specs.Lines.{bytes_len}
use Rattle.gabc_headers.specs.Book.{has_header}
use Rattle.gabc_headers.specs.Canonical.{header_lines, canonical_heads}

-- no header `name`, found at the line `%%` after the header lines
abbrev pub nameless : List (List ℕ × List ℕ) → Finding
nameless book = record { place = place_after (header_lines book); code = W1 }

-- the book, all of its lines before the body, and nothing found but that there is no header `name`,
-- if there is none
abbrev pub heads_again : List (List ℕ × List ℕ) → Heads
heads_again book = record {
  book = book;
  body = bytes_len (canonical_heads book);
  findings = cond (has_header (codes "name") book) [] (nameless book ∷ []);
}
