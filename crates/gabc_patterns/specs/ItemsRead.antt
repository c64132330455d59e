-- The items with which a text begins, as far as one begins.
use Rattle.std.specs.Prelude.{◌≡◌, ℕ, List, [], ◌∷◌, ◌++◌}
use Rattle.gabc_patterns.specs.LongestItems.{Table, Longest, IsItemOf, IsItem}

-- no item begins the text
abbrev pub NoneBegins : {K : Type 0} → Table K → List ℕ → Type 0
NoneBegins rows t = (front rest : List ℕ) → t ≡ front ++ rest → ¬ IsItem rows front

-- the text is these items, each the longest that begins at its place, and then the rest, which no
-- item begins
abbrev pub ReadsTo : {K : Type 0} → Table K → List (K × List ℕ) → List ℕ → List ℕ → Type 0
ReadsTo rows [] t rest = (t ≡ rest) × NoneBegins rows t
ReadsTo rows (i ∷ is) t rest = (more : List ℕ) × (t ≡ i.1 ++ more) × IsItemOf rows i.0 i.1 × Longest (IsItem rows) i.1 more × ReadsTo rows is more rest
