-- The names of codes are that of the first, and those after it.
use Rattle.std.proofs.Common.{◌≡◌, ℕ, List, [], ◌∷◌, ◌++◌, ap, codes, sym, append-nil}
use Rattle.gabc_nabc.specs.declared.code.GlyphCode.{GlyphCode}
use Rattle.gabc_write.specs.DumpOfNabc.{name_of_code, names_of}
use Rattle.gabc_write.specs.machine.NamesAfterFirst.{names_after}

pub names_by_first : (first : GlyphCode) (others : List GlyphCode) → names_of (first ∷ others) ≡ name_of_code first ++ names_after others
names_by_first first [] = sym (append-nil (name_of_code first))
names_by_first first (c ∷ others) = ap (λ (x : List ℕ). name_of_code first ++ (codes "!" ++ x)) (names_by_first c others)
