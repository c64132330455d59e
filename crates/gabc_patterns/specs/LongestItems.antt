-- A text read by taking the longest item at each place.
use Rattle.std.specs.Prelude.{◌≡◌, ℕ, ◌⊎◌, List, [], ◌∷◌, ◌++◌}
use Rattle.gabc_patterns.specs.Pattern.{Pattern, Spells}

-- rows, each with a kind and a pattern, as a grammar
abbrev pub Table : Type 0 → Type 0
Table K = List (K × Pattern)

-- prefix has P, and prefix with a first part of the rest, unless that is empty, has not
pub record Longest {X : Type 0} (P : List X → Type 0) (prefix rest : List X) : Type 0 where
  pub has : P prefix
  pub longest : (more after : List X) → rest ≡ more ++ after → P (prefix ++ more) → more ≡ []

-- a row of that kind spells the text
abbrev pub IsItemOf : {K : Type 0} → Table K → K → List ℕ → Type 0
IsItemOf [] k t = ⊥
IsItemOf (row ∷ rows) k t = ((row.0 ≡ k) × Spells row.1 t) ⊎ IsItemOf rows k t

-- the list is an item of some kind
abbrev pub HasSome : {K X : Type 0} → (K → List X → Type 0) → List X → Type 0
HasSome {K} Has t = (k : K) × Has k t

-- these items, each a kind and what it takes, make up the list, and each is the longest item that
-- begins at its place
abbrev pub IsReadingBy : {K X : Type 0} → (K → List X → Type 0) → List (K × List X) → List X → Type 0
IsReadingBy Has [] t = t ≡ []
IsReadingBy {K} {X} Has (i ∷ is) t = (rest : List X) × (t ≡ i.1 ++ rest) × Has i.0 i.1 × Longest (HasSome Has) i.1 rest × IsReadingBy Has is rest

-- a row spells the text
abbrev pub IsItem : {K : Type 0} → Table K → List ℕ → Type 0
IsItem rows = HasSome (IsItemOf rows)

-- so a text is read by the rows of a table
abbrev pub IsReading : {K : Type 0} → Table K → List (K × List ℕ) → List ℕ → Type 0
IsReading rows = IsReadingBy (IsItemOf rows)

-- what is an item is one of one kind
abbrev pub OneKindBy : {K X : Type 0} → (K → List X → Type 0) → Type 0
OneKindBy {K} {X} Has = (t : List X) (k j : K) → Has k t → Has j t → k ≡ j

-- so for a table: rows that spell one text are of one kind
abbrev pub OneKind : {K : Type 0} → Table K → Type 0
OneKind rows = OneKindBy (IsItemOf rows)

-- the text has a reading
abbrev pub IsSnippet : {K : Type 0} → Table K → List ℕ → Type 0
IsSnippet {K} rows t = (items : List (K × List ℕ)) × IsReading rows items t

-- the text has a completion: with some text after it, it is a snippet
abbrev pub IsViable : {K : Type 0} → Table K → List ℕ → Type 0
IsViable rows t = (more : List ℕ) × IsSnippet rows (t ++ more)
