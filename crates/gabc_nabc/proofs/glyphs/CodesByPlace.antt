-- The codes of a descriptor, one after the other.
use Rattle.std.proofs.Common.{ℕ, zero, suc, ◌+◌, ◌-◌, ◌≤◌, List, [], ◌∷◌, Bool, arith, length, length-append, if◌then◌else◌}
use Rattle.std.specs.List.{flat_map, range_with_len}
use Rattle.gabc_nabc.specs.Codes.{code_at, codes_from}
use Rattle.gabc_nabc.specs.declared.code.GlyphCode.{GlyphCode}

-- ---- they are few

one_at_most : (b : Bool) (c : GlyphCode) → length (if b then c ∷ [] else []) ≤ 1
one_at_most b c = grind arith

few : (text : List ℕ) (at n : ℕ) → length (flat_map (code_at text) (range_with_len at n)) ≤ n
few text at zero = omega arith
few text at (suc n) = grind (arith, one_at_most, length-append, flat_map, range_with_len, few text (at + 1) n)

pub codes_few : (text : List ℕ) (at : ℕ) → length (codes_from text at) ≤ length text - at
codes_few text at = few text at (length text - at)
