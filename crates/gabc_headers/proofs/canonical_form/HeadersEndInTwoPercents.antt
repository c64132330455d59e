-- The canonical headers have two bytes more than their lines, those of `%%`.
use Rattle.std.proofs.Common.{◌≡◌, ℕ, ◌+◌, List, codes, refl, arith}
use Rattle.gabc_headers.specs.Lines.{bytes_len}
use Rattle.gabc_headers.specs.Canonical.{header_lines, canonical_heads}
use Rattle.gabc_headers.proofs.entries.TextsAsBytes.{bytes_len-append}

pub heads_len : (es : List (List ℕ × List ℕ)) → 2 + bytes_len (header_lines es) ≡ bytes_len (canonical_heads es)
heads_len es = let e = bytes_len-append (header_lines es) (codes "%%") in let g : bytes_len (codes "%%") ≡ 2 = refl in omega (arith, e, g)
