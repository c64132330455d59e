-- The rows after a text, and the kind of an item that ends there.
use Rattle.std.proofs.Common.{◌≡◌, ℕ, List, [], ◌∷◌, ◌++◌, Bool, true, false, cond, not, ◌||◌, refl, sym, ◌∙◌, subst, Some, None, append-nil, inl, inr, arith}
use Rattle.gabc_patterns.specs.Pattern.{Pattern}
use Rattle.gabc_patterns.specs.LongestItems.{Table, IsItemOf, IsItem}
use Rattle.gabc_patterns.specs.Derivative.{may_end, rows_after, rows_run, rows_end, end_kind}
use Rattle.gabc_patterns.proofs.DerivativesSpellWhatFollows.{end_from, end_to}
use Rattle.gabc_patterns.proofs.RowsAfterACharacter.{rows_to, rows_from, rows_end_to}

-- the rows after two texts
pub rows_run-append : {K : Type 0} (rows : Table K) (t u : List ℕ) → rows_run rows (t ++ u) ≡ rows_run (rows_run rows t) u
rows_run-append rows [] u = refl
rows_run-append rows (c ∷ t) u = rows_run-append (rows_after c rows) t u

-- what is left of an item after its prefix
pub run_rows_to : {K : Type 0} (rows : Table K) (k : K) (t u : List ℕ) → IsItemOf rows k (t ++ u) → IsItemOf (rows_run rows t) k u
run_rows_to rows k [] u h = h
run_rows_to rows k (c ∷ t) u h = run_rows_to (rows_after c rows) k t u (rows_to rows k c (t ++ u) h)

-- an item by a prefix of it and what is left
pub run_rows_from : {K : Type 0} (rows : Table K) (k : K) (t u : List ℕ) → IsItemOf (rows_run rows t) k u → IsItemOf rows k (t ++ u)
run_rows_from rows k [] u h = h
run_rows_from rows k (c ∷ t) u h = rows_from rows k c (t ++ u) (run_rows_from (rows_after c rows) k t u h)

ended : {K : Type 0} (b : Bool) (row : K × Pattern) (rows : Table K) (k : K) → may_end row.1 ≡ b → (end_kind rows ≡ Some k → IsItemOf rows k [])
    → cond b (Some row.0) (end_kind rows) ≡ Some k → IsItemOf (row ∷ rows) k []
ended true row rows k e F h = inl ((let f : row.0 ≡ k = cc in f), end_from row.1 e)
ended false row rows k e F h = inr (F h)

-- an item of that kind ends here
pub end_kind_some : {K : Type 0} (rows : Table K) (k : K) → end_kind rows ≡ Some k → IsItemOf rows k []
end_kind_some [] k e = absurd (cc)
end_kind_some (row ∷ rows) k e = ended (may_end row.1) row rows k refl (end_kind_some rows k) e

not_ended : {K : Type 0} (b : Bool) (row : K × Pattern) (rows : Table K) → (end_kind rows ≡ None → rows_end rows ≡ false)
    → cond b (Some row.0) (end_kind rows) ≡ None → (b || rows_end rows) ≡ false
not_ended b row rows k h = grind arith

-- no item ends here
pub end_kind_none : {K : Type 0} (rows : Table K) → end_kind rows ≡ None → rows_end rows ≡ false
end_kind_none [] e = refl
end_kind_none (row ∷ rows) e = not_ended (may_end row.1) row rows (end_kind_none rows) e

-- a text with such an end is an item
pub item_at_end : {K : Type 0} (table : Table K) (t : List ℕ) (k : K) → end_kind (rows_run table t) ≡ Some k → IsItemOf table k t
item_at_end table t k e = subst (IsItemOf table k) (append-nil t) (run_rows_from table k t [] (end_kind_some (rows_run table t) k e))

-- a text with no such end is none
pub no_item_at_end : {K : Type 0} (table : Table K) (t : List ℕ) → end_kind (rows_run table t) ≡ None → ¬ IsItem table t
no_item_at_end table t e i =
    let f = rows_end_to (rows_run table t) i.0 (run_rows_to table i.0 t [] (subst (IsItemOf table i.0) (sym (append-nil t)) i.1)) in
    let g = end_kind_none (rows_run table t) e in
    absurd (cc)

-- no item begins with a text after which no rows are left
pub no_item_past : {K : Type 0} (table : Table K) (t u : List ℕ) → rows_run table t ≡ [] → ¬ IsItem table (t ++ u)
no_item_past table t u e i = subst (λ r. IsItemOf r i.0 u) e (run_rows_to table i.0 t u i.1)

-- at most one row spells the empty text
abbrev pub ends_once : {K : Type 0} → Table K → Bool
ends_once [] = true
ends_once (row ∷ rows) = cond (may_end row.1) (not (rows_end rows)) (ends_once rows)

clash : (a b c : Bool) → a ≡ true → b ≡ true → cond a (not b) c ≡ true → ⊥
clash a b c e f g = grind arith

ends_later : (a b c : Bool) → b ≡ true → cond a (not b) c ≡ true → c ≡ true
ends_later a b c f g = grind arith

-- then the kind of an item that ends here is one
pub one_end : {K : Type 0} (rows : Table K) (k j : K) → ends_once rows ≡ true → IsItemOf rows k [] → IsItemOf rows j [] → k ≡ j
one_end [] k j e h i = absurd h
one_end (row ∷ rows) k j e (inl h) (inl i) = sym h.0 ∙ i.0
one_end (row ∷ rows) k j e (inl h) (inr i) = absurd (clash (may_end row.1) (rows_end rows) (ends_once rows) (end_to row.1 h.1) (rows_end_to rows j i) e)
one_end (row ∷ rows) k j e (inr h) (inl i) = absurd (clash (may_end row.1) (rows_end rows) (ends_once rows) (end_to row.1 i.1) (rows_end_to rows k h) e)
one_end (row ∷ rows) k j e (inr h) (inr i) = one_end rows k j (ends_later (may_end row.1) (rows_end rows) (ends_once rows) (rows_end_to rows k h) e) h i
