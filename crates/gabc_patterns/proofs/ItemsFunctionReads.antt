-- The function that gives the items of a snippet reads it.
use Rattle.std.proofs.Common.{◌≡◌, ℕ, zero, suc, List, [], ◌∷◌, ◌++◌, false, refl, sym, ap, ◌∙◌, subst, Option, Some, None, append_assoc, append-nil, take, drop, length, ◌≤◌, ◌<◌, ◌+◌, arith, length-append, length-drop, take-append-drop, take_at}
use Rattle.gabc_patterns.specs.LongestItems.{Table, Longest, IsItemOf, IsItem, IsReading, OneKind, IsSnippet}
use Rattle.gabc_patterns.specs.Derivative.{rows_after, rows_run, rows_end, end_kind}
use Rattle.gabc_patterns.specs.Function.{best_of, longest_from, longest_item, items_within, items}
use Rattle.gabc_patterns.proofs.RowsRun.{rows_run-append, item_at_end, no_item_at_end}
use Rattle.gabc_patterns.proofs.OneReading.{no_empty, after_first, one_reading}
use Rattle.gabc_patterns.proofs.ItemSoFar.{IsBest, best_on, best_longest, none_begins}

module _ {K : Type 0} (table : Table K) where
  best_step : (text prefix : List ℕ) (n : ℕ) (best : Option (K × ℕ)) (o : Option K) → n < length text → take (n + 1) text ≡ prefix
      → end_kind (rows_run table prefix) ≡ o → IsBest table text n best → IsBest table text (n + 1) (best_of o (n + 1) best)
  best_step text prefix n best o l f e h = grind (arith, best_on, no_item_at_end, item_at_end)

  best_from : (text prefix t : List ℕ) (best : Option (K × ℕ)) → text ≡ prefix ++ t → IsBest table text (length prefix) best
      → IsBest table text (length text) (longest_from (rows_run table prefix) (length prefix) best t)
  best_from text prefix [] best e h = subst (λ n. IsBest table text n best) (ap length (sym (e ∙ append-nil prefix))) h
  best_from text prefix (c ∷ t) best e h =
      let f : text ≡ (prefix ++ c ∷ []) ++ t = e ∙ sym (append_assoc prefix (c ∷ []) t) in
      let n : length (prefix ++ c ∷ []) ≡ length prefix + 1 = omega (arith, length-append prefix (c ∷ [])) in
      let l : length prefix < length text = omega (arith, ap length e, length-append prefix (c ∷ t)) in
      let same : take (length prefix + 1) text ≡ prefix ++ c ∷ [] =
      ap (λ (u : List ℕ). take (length prefix + 1) u) f ∙ take_at (prefix ++ c ∷ []) t (length prefix + 1) n in
      let r : rows_run table (prefix ++ c ∷ []) ≡ rows_after c (rows_run table prefix) = rows_run-append table prefix (c ∷ []) in
      let b = best_step text (prefix ++ c ∷ []) (length prefix) best (end_kind (rows_after c (rows_run table prefix))) l same (ap end_kind r) h in
      subst (λ (u : Table K). IsBest table text (length text) (longest_from u (length prefix + 1) (best_of (end_kind (rows_after c (rows_run table prefix))) (length prefix + 1) best) t)) r
      (subst (λ m. IsBest table text (length text) (longest_from (rows_run table (prefix ++ c ∷ [])) m (best_of (end_kind (rows_after c (rows_run table prefix))) (length prefix + 1) best) t)) n
      (best_from text (prefix ++ c ∷ []) t (best_of (end_kind (rows_after c (rows_run table prefix))) (length prefix + 1) best) f
      (subst (λ m. IsBest table text m (best_of (end_kind (rows_after c (rows_run table prefix))) (length prefix + 1) best)) (sym n) b)))

  -- the function finds the longest item that begins a text
  pub longest_item_best : (t : List ℕ) → IsBest table t (length t) (longest_item table t)
  longest_item_best t = best_from t [] t None refl (λ m x y. absurd (omega arith))

  module _ (none_empty : rows_end table ≡ false) where
    items_read : (n : ℕ) (t : List ℕ) → length t ≤ n → IsSnippet table t → IsReading table (items_within table n t) t
    items_read zero [] l s = refl
    items_read zero (c ∷ t) l s = absurd (omega arith)
    items_read (suc n) t l s = go (longest_item table t) (longest_item_best t) (λ u. items_read n u)
      where
        first : (u : List ℕ) → t ≡ u → IsBest table t (length t) None → u ≡ []
        first [] e b = refl
        first (c ∷ u) e b = absurd (none_begins table none_empty t b (subst (λ v. 0 < length v) (sym e) (omega arith)) s)

        later : (x y : List ℕ) (u : List ℕ) → t ≡ u → 0 < length t → t ≡ x ++ y → Longest (IsItem table) x y → IsSnippet table y
        later x y [] e m f h = absurd (let g = ap length e in omega arith)
        later x y (c ∷ u) e m f h =
            after_first (IsItemOf table) (no_empty table none_empty) c u x y s.0 (subst (IsReading table s.0) e s.1) (sym e ∙ f) h

        go : (o : Option (K × ℕ)) → IsBest table t (length t) o → ((u : List ℕ) → length u ≤ n → IsSnippet table u → IsReading table (items_within table n u) u)
            → IsReading table (elim o as (λ _. List (K × List ℕ)) [ None ↦ [] | Some i ↦ (i.0, take i.1 t) ∷ items_within table n (drop i.1 t) ]) t
        go None b F = first t refl b
        go (Some (k, e)) b F =
            let x = b.0 in
            let y = b.1 in
            let h = best_longest table t k e b in
            let cut = sym (take-append-drop e t) in
            (drop e t, cut, b.2, h, F (drop e t) (omega (arith, length-drop e t)) (later (take e t) (drop e t) t refl (omega arith) cut h))

    -- the items of a snippet are a reading of it
    pub items_are : (t : List ℕ) → IsSnippet table t → IsReading table (items table t) t
    items_are t s = items_read (length t) t (omega arith) s

    -- and the only one, if an item has one kind
    pub items_only : OneKind table → (t : List ℕ) (is : List (K × List ℕ)) → IsReading table is t → is ≡ items table t
    items_only one t is h = one_reading (IsItemOf table) (no_empty table none_empty) one is (items table t) t h (items_are t (is, h))
