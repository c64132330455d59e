-- The dump of headers is at most three times as long as their canonical lines, and the first line.
use Rattle.std.proofs.Common.{◌≡◌, ℕ, ◌+◌, ◌*◌, ◌≤◌, List, [], ◌∷◌, ◌++◌, Bool, length, length-append, ap, ◌∙◌, codes, arith}
use Rattle.std.proofs.lemmas.Str.{encodes-append}
use Rattle.std.specs.List.{flat_map}
use lib.Utf8.{encode, encodes}
use Rattle.gabc_headers.specs.Canonical.{header_lines, canonical_heads, printed_value}
use Rattle.gabc_headers.specs.Canonical as canonical
use Rattle.gabc_write.specs.DumpLines.{escaped_byte, escaped, line_of_header, dump_heads}

escaped_two : (c : ℕ) → length (escaped_byte c) ≤ 2
escaped_two c = grind arith

pub escaped_short : (text : List ℕ) → length (escaped text) ≤ 2 * length text
escaped_short [] = omega arith
escaped_short (c ∷ text) = omega (arith, length-append (escaped_byte c) (escaped text), escaped_two c, escaped_short text)

-- the bytes of two texts
bytes_of_both : (a b : List ℕ) → length (encodes (a ++ b)) ≡ length (encodes a) + length (encodes b)
bytes_of_both a b = ap (length {A = ℕ}) (encodes-append a b) ∙ length-append (encodes a) (encodes b)

value_long : (lined : Bool) (v : List ℕ) → length (encodes v) + 2 ≤ length (encodes (printed_value lined v))
unfolding encode
value_long lined v = grind (arith, bytes_of_both)

-- a canonical header line has a `:`, a `;` and an LF beside name and value
line_long : (n v : List ℕ) → length (encodes n) + length (encodes v) + 3 ≤ length (encodes (canonical.header_line (n, v)))
unfolding encode
line_long n v = grind (arith, bytes_of_both, value_long)

line_short : (e : List ℕ × List ℕ) → length (line_of_header e) ≤ 2 * length (encodes e.0) + 2 * length (encodes e.1) + 9
line_short e = grind (arith, length-append, escaped_short)

lines_short : (book : List (List ℕ × List ℕ)) → length (flat_map line_of_header book) ≤ 3 * length (encodes (header_lines book))
lines_short [] = omega arith
lines_short (e ∷ book) = grind (arith, lines_short book, length-append, bytes_of_both, line_short, line_long)

pub heads_short : (book : List (List ℕ × List ℕ)) → length (dump_heads book) ≤ 3 * length (encodes (canonical_heads book)) + 7
heads_short book = omega (arith, length-append (codes "dump 2\n") (flat_map line_of_header book), bytes_of_both (header_lines book) (codes "%%"), lines_short book)
