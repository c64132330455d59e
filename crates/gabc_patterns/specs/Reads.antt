-- How a text is read by a table: as the longest items, one after the other.
use Rattle.std.specs.Prelude.{ℕ, zero, suc, List, [], ◌∷◌, ◌++◌, ◌==◌, Bool, true, cond, length, take, drop, sum_by, Option, Some, None}
use Rattle.std.specs.List.{list_any}
use Rattle.std.specs.Option.{option_map_or}
use Rattle.gabc_patterns.specs.Pattern.{Pattern, never, nothing, one_of, any_but, ◌·◌, ◌or◌, many, is_in}
use Rattle.gabc_patterns.specs.LongestItems.{Table}
use Rattle.gabc_patterns.specs.Derivative.{may_end}

-- what may follow the character c
abbrev pub rest_of : ℕ → Pattern → Pattern
rest_of c never = never
rest_of c nothing = never
rest_of c (one_of cs) = cond (is_in c cs) nothing never
rest_of c (any_but x) = cond (x == c) never nothing
rest_of c (p · q) = cond (may_end p) ((rest_of c p · q) or rest_of c q) (rest_of c p · q)
rest_of c (p or q) = rest_of c p or rest_of c q
rest_of c (many p) = rest_of c p · many p

-- the pattern spells the text
abbrev pub spells : Pattern → List ℕ → Bool
spells p [] = may_end p
spells p (c ∷ t) = spells (rest_of c p) t

-- the kind of the first row that spells the text
abbrev pub kind_of : {K : Type 0} → Table K → List ℕ → Option K
kind_of [] t = None
kind_of (row ∷ rows) t = cond (spells row.1 t) (Some row.0) (kind_of rows t)

-- the longest of the first n beginnings of the list that has a kind: its kind and its length
abbrev pub longest : {K X : Type 0} → (List X → Option K) → ℕ → List X → Option (K × ℕ)
longest kind zero t = None
longest {K} kind (suc n) t = elim (kind (take (suc n) t)) as (λ _. Option (K × ℕ)) [
  | None ↦ longest kind n t
  | Some k ↦ Some (k, suc n)
]

-- at most n parts of the list, each the longest at its place, as far as one begins
abbrev pub parts_within : {K X : Type 0} → (List X → Option K) → ℕ → List X → List (K × List X)
parts_within kind zero t = []
parts_within {K} {X} kind (suc n) t = elim (longest kind (length t) t) as (λ _. List (K × List X)) [
  | None ↦ []
  | Some i ↦ (i.0, take i.1 t) ∷ parts_within kind n (drop i.1 t)
]

-- the parts of the list, each with its kind
abbrev pub parts_by : {K X : Type 0} → (List X → Option K) → List X → List (K × List X)
parts_by kind t = parts_within kind (length t) t

-- the items of the text
abbrev pub items_by : {K : Type 0} → Table K → List ℕ → List (K × List ℕ)
items_by rows t = parts_by (kind_of rows) t

-- the items make up the text
abbrev pub is_read : {K : Type 0} → Table K → List ℕ → Bool
is_read rows t = sum_by (λ i. length i.1) (items_by rows t) == length t

-- with one of these ends the items make up the text
abbrev pub goes_on : {K : Type 0} → Table K → List (List ℕ) → List ℕ → Bool
goes_on rows ends t = list_any (λ end. is_read rows (t ++ end)) ends

-- the longest beginning of the text that items make up
abbrev pub whole_front : {K : Type 0} → Table K → List ℕ → List ℕ
whole_front rows t = option_map_or (λ i. take i.1 t) (longest (λ front. cond (is_read rows front) (Some true) None) (length t) t) []
