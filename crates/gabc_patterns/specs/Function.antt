-- The items of a text, and what is kept of it, as functions.
use Rattle.std.specs.Prelude.{ℕ, zero, suc, ◌+◌, List, [], ◌∷◌, ◌++◌, length, take, drop, true, false, cond, Option, Some, None}
use Rattle.gabc_patterns.specs.LongestItems.{Table}
use Rattle.gabc_patterns.specs.Derivative.{rows_after, end_kind, is_snippet, is_viable}

-- the item that ends here, of n characters, or the best before
abbrev pub best_of : {K : Type 0} → Option K → ℕ → Option (K × ℕ) → Option (K × ℕ)
best_of None n best = best
best_of (Some k) n best = Some (k, n)

-- the longest item with n characters before t, where these rows may go on so, and best is the
-- longest before
abbrev pub longest_from : {K : Type 0} → Table K → ℕ → Option (K × ℕ) → List ℕ → Option (K × ℕ)
longest_from rows n best [] = best
longest_from rows n best (c ∷ t) = longest_from (rows_after c rows) (n + 1) (best_of (end_kind (rows_after c rows)) (n + 1) best) t

-- the kind of the longest item that begins the text, and its number of characters
abbrev pub longest_item : {K : Type 0} → Table K → List ℕ → Option (K × ℕ)
longest_item rows t = longest_from rows 0 None t

-- at most n items of the text, each the longest at its place
abbrev pub items_within : {K : Type 0} → Table K → ℕ → List ℕ → List (K × List ℕ)
items_within rows zero t = []
items_within {K} rows (suc n) t = elim (longest_item rows t) as (λ _. List (K × List ℕ)) [
  | None ↦ []
  | Some i ↦ (i.0, take i.1 t) ∷ items_within rows n (drop i.1 t)
]

-- the items of the text
abbrev pub items : {K : Type 0} → Table K → List ℕ → List (K × List ℕ)
items rows t = items_within rows (length t) t

-- kept, then the characters of the text that are kept
abbrev pub keep_from : {K : Type 0} → Table K → List ℕ → List ℕ → List ℕ
keep_from rows kept [] = kept
keep_from rows kept (c ∷ t) = keep_from rows (cond (is_viable rows (kept ++ c ∷ [])) (kept ++ c ∷ []) kept) t

-- the characters of the text that are kept
abbrev pub keep : {K : Type 0} → Table K → List ℕ → List ℕ
keep rows t = keep_from rows [] t

-- the characters of t that are kept where kept is kept before them
abbrev pub more_kept : {K : Type 0} → Table K → List ℕ → List ℕ → List ℕ
more_kept rows kept [] = []
more_kept rows kept (c ∷ t) = elim (is_viable rows (kept ++ c ∷ [])) as (λ _. List ℕ) [
  | true ↦ c ∷ more_kept rows (kept ++ c ∷ []) t
  | false ↦ more_kept rows kept t
]

-- the longest prefix of before ++ t that is a snippet, where best is that of before
abbrev pub trim_from : {K : Type 0} → Table K → List ℕ → List ℕ → List ℕ → List ℕ
trim_from rows best before [] = best
trim_from rows best before (c ∷ t) =
    trim_from rows (cond (is_snippet rows (before ++ c ∷ [])) (before ++ c ∷ []) best) (before ++ c ∷ []) t

-- the longest prefix that is a snippet
abbrev pub trim : {K : Type 0} → Table K → List ℕ → List ℕ
trim rows t = trim_from rows [] [] t

-- the kept text
abbrev pub kept_text : {K : Type 0} → Table K → List ℕ → List ℕ
kept_text rows t = trim rows (keep rows t)
