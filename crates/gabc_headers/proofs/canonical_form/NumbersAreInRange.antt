-- The numbers that the headers of a book give are in range.
use Rattle.std.proofs.Common.{◌≡◌, ℕ, zero, suc, ◌^◌, ◌<◌, ◌≤◌, Bool, List, codes, Option, arith}
use Rattle.std.specs.List.{position}
use Rattle.std.specs.Option.{unwrap_or}
use Rattle.std.proofs.lemmas.List.Quantifiers.{position-Some}
use Rattle.std.proofs.Math.Nat.{pow-suc}
use Rattle.gabc_headers.specs.Book.{lines_by, macros_below, macros_of, nabc_lines_of, nabc_values, value_named}
use Rattle.gabc_headers.specs.Canonical.{canonical_heads}
use Rattle.gabc_headers.specs.Lines.{bytes_len}
use Rattle.gabc_headers.specs.NabcLines.{values_in_range}
use Rattle.gabc_headers.proofs.canonical_form.HeadersEndInTwoPercents.{heads_len}

in_table : (f : List ℕ → Bool) → unwrap_or (position f values_in_range) 0 ≤ 4
in_table f = grind (arith, position-Some)

few_lines : nabc_values ≡ values_in_range → (o : Option (List ℕ)) → lines_by o ≤ 4
few_lines table o = grind (arith, in_table)

pub lines_in_range : nabc_values ≡ values_in_range → (book : List (List ℕ × List ℕ)) → nabc_lines_of book ≤ 4
lines_in_range table book = few_lines table (value_named (codes "nabc-lines") book)

below : (book : List (List ℕ × List ℕ)) (n : ℕ) → macros_below book n < 2 ^ n
below book zero = omega arith
below book (suc n) = grind (arith, below book n, pow-suc)

pub macros_in_range : (book : List (List ℕ × List ℕ)) → macros_of book < 1024
macros_in_range book = below book 10

-- with their `%%`
pub mark_is_counted : (book : List (List ℕ × List ℕ)) → 2 ≤ bytes_len (canonical_heads book)
mark_is_counted book = let e = heads_len book in omega (arith, e)
