-- What is kept of a text.
use Rattle.std.specs.Prelude.{◌≡◌, ℕ, ◌⊎◌, List, [], ◌∷◌, ◌++◌}
use Rattle.gabc_patterns.specs.LongestItems.{Table, Longest, IsSnippet, IsViable}

-- all is kept, then the characters of the text that are kept: each one, exactly if what is kept
-- before it, followed by it, is viable
abbrev pub Keeps : {K : Type 0} → Table K → List ℕ → List ℕ → List ℕ → Type 0
Keeps rows kept [] all = all ≡ kept
Keeps rows kept (c ∷ t) all =
    (IsViable rows (kept ++ c ∷ []) × Keeps rows (kept ++ c ∷ []) t all)
    ⊎ (¬ IsViable rows (kept ++ c ∷ []) × Keeps rows kept t all)

-- prefix is the longest prefix of the text that is a snippet
pub record Trims {K : Type 0} (rows : Table K) (t prefix : List ℕ) : Type 0 where
  pub rest : List ℕ
  pub cut : t ≡ prefix ++ rest
  pub longest : Longest (IsSnippet rows) prefix rest

-- what is kept of the characters of the text, and of that the longest prefix that is a snippet
pub record IsKeptText {K : Type 0} (rows : Table K) (t kept : List ℕ) : Type 0 where
  pub all : List ℕ
  pub keeps : Keeps rows [] t all
  pub trims : Trims rows all kept
