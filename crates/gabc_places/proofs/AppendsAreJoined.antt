-- Bytes that a writer holds, where they are known.
use Rattle.std.proofs.Common.{ℕ, List, ◌++◌, Option, append_assoc, arith}
use Rattle.std.specs.Io.KnownBytes.{Appends}

-- growing by xs, and then by ys, is growing by both
pub appends-more : (a b c : Option (List ℕ)) (xs ys : List ℕ) → Appends a b xs → Appends b c ys → Appends a c (xs ++ ys)
appends-more a b c xs ys p q = grind (arith, append_assoc)
