-- The items of a text, whether it is a snippet or not, one after the other: each is the longest at its place.
use Rattle.std.proofs.Common.{◌≡◌, ℕ, zero, suc, List, [], ◌∷◌, ◌++◌, false, refl, sym, ap, ◌∙◌, subst, Option, Some, None, append_assoc, take, drop, length, map, ◌≤◌, ◌<◌, ◌+◌, ◌-◌, arith, length-append, length-drop, length-take, take-append-drop, take_at, drop_at}
use Rattle.std.specs.List.{concat}
use Rattle.std.proofs.Math.Seq.{take-append-add}
use native.Mathlib.Decide.{dec_lt}
use Rattle.gabc_patterns.specs.LongestItems.{Table, Longest, IsItemOf, IsItem, OneKind}
use Rattle.gabc_patterns.specs.Derivative.{rows_end}
use Rattle.gabc_patterns.specs.Function.{longest_item, items_within, items}
use Rattle.gabc_patterns.proofs.ItemsFunctionReads.{longest_item_best}
use Rattle.gabc_patterns.proofs.ItemSoFar.{IsBest}
use Rattle.gabc_patterns.proofs.ItemHere.{BestHere}
use Rattle.gabc_patterns.proofs.OneReading.{no_empty}

module _ {K : Type 0} (table : Table K) where
  -- the longest item among the prefixes of at most n characters is one
  pub best_is_one : OneKind table → (t : List ℕ) (n : ℕ) (a b : Option (K × ℕ)) → IsBest table t n a → IsBest table t n b → a ≡ b
  best_is_one one t n None None g h = refl
  best_is_one one t n None (Some j) g h = absurd (g j.1 h.0 h.1 (j.0, h.2))
  best_is_one one t n (Some i) None g h = absurd (h i.1 g.0 g.1 (i.0, g.2))
  best_is_one one t n (Some (k, e)) (Some (m, f)) g h =
      let low : e ≤ f = elim (dec_lt f e) [ no x ↦ omega arith | yes x ↦ absurd (h.3 e x g.1 (k, g.2)) ] in
      let high : f ≤ e = elim (dec_lt e f) [ no x ↦ omega arith | yes x ↦ absurd (g.3 f x h.1 (m, h.2)) ] in
      let same : e ≡ f = omega arith in
      let kind : k ≡ m = one (take f t) k m (subst (λ (x : ℕ). IsItemOf table k (take x t)) same g.2) h.2 in
      cc

  -- so the function gives it
  pub longest_is : OneKind table → (t : List ℕ) (o : Option (K × ℕ)) → IsBest table t (length t) o → longest_item table t ≡ o
  longest_is one t o h = best_is_one one t (length t) (longest_item table t) o (longest_item_best table t) h

  -- where no item was found, it gives none
  pub none_found : OneKind table → (t : List ℕ) → BestHere table t 0 None → longest_item table t ≡ None
  none_found one t h = grind (arith, longest_is)

  -- a longest item is the longest among all prefixes
  pub longest_best : rows_end table ≡ false → (k : K) (x y : List ℕ) → IsItemOf table k x → Longest (IsItem table) x y
      → IsBest table (x ++ y) (length (x ++ y)) (Some (k, length x))
  longest_best none k x y i l = (some x i, omega (arith, length-append x y), subst (IsItemOf table k) (sym (take_at x y (length x) refl)) i, later)
    where
      some : (x : List ℕ) → IsItemOf table k x → 0 < length x
      some [] i = absurd (no_empty table none k i)
      some (c ∷ x) i = omega arith

      later : (m : ℕ) → length x < m → m ≤ length (x ++ y) → ¬ IsItem table (take m (x ++ y))
      later m a b j =
          let n : length x + (m - length x) ≡ m = omega arith in
          let same : take m (x ++ y) ≡ x ++ take (m - length x) y = ap (λ (u : ℕ). take u (x ++ y)) (sym n) ∙ take-append-add x y (m - length x) in
          let none_more = l.longest (take (m - length x) y) (drop (m - length x) y) (sym (take-append-drop (m - length x) y)) (subst (IsItem table) same j) in
          let size : length (take (m - length x) y) ≡ 0 = ap length none_more in
          omega (arith, length-take (m - length x) y, length-append x y)

  -- more items than there are characters are not asked for
  enough : (n m : ℕ) (t : List ℕ) → length t ≤ n → length t ≤ m → items_within table n t ≡ items_within table m t
  enough zero zero t l k = refl
  enough zero (suc m) [] l k = refl
  enough zero (suc m) (c ∷ t) l k = absurd (omega arith)
  enough (suc n) zero [] l k = refl
  enough (suc n) zero (c ∷ t) l k = absurd (omega arith)
  enough (suc n) (suc m) t l k = go (longest_item table t) (longest_item_best table t) (λ u. enough n m u)
    where
      go : (o : Option (K × ℕ)) → IsBest table t (length t) o → ((u : List ℕ) → length u ≤ n → length u ≤ m → items_within table n u ≡ items_within table m u)
          → (elim o as (λ _. List (K × List ℕ)) [ None ↦ [] | Some i ↦ (i.0, take i.1 t) ∷ items_within table n (drop i.1 t) ])
          ≡ (elim o as (λ _. List (K × List ℕ)) [ None ↦ [] | Some i ↦ (i.0, take i.1 t) ∷ items_within table m (drop i.1 t) ])
      go None b F = refl
      go (Some (kind, e)) b F =
          let some = b.0 in
          ap (λ (u : List (K × List ℕ)). (kind, take e t) ∷ u) (F (drop e t) (omega (arith, length-drop e t)) (omega (arith, length-drop e t)))

  -- the first, and the items after it
  pub items_more : (t : List ℕ) (k : K) (e : ℕ) → longest_item table t ≡ Some (k, e) → items table t ≡ (k, take e t) ∷ items table (drop e t)
  items_more t k e f = grind (arith, longest_item_best, enough, length-drop)

  -- the items of a longest item and more
  pub items_first : rows_end table ≡ false → OneKind table → (k : K) (x y : List ℕ) → IsItemOf table k x → Longest (IsItem table) x y
      → items table (x ++ y) ≡ (k, x) ∷ items table y
  items_first none one k x y i l =
      items_more (x ++ y) k (length x) (longest_is one (x ++ y) (Some (k, length x)) (longest_best none k x y i l))
      ∙ (ap (λ (u : List ℕ). (k, u) ∷ items table (drop (length x) (x ++ y))) (take_at x y (length x) refl)
      ∙ ap (λ (u : List ℕ). (k, x) ∷ items table u) (drop_at x y (length x) refl))

  -- the items lie one after the other at the head of the text
  pub items_lie : (n : ℕ) (t : List ℕ) → (rest : List ℕ) × (t ≡ concat (map (λ (i : K × List ℕ). i.1) (items_within table n t)) ++ rest)
  items_lie zero t = (t, refl)
  items_lie (suc n) t = go (longest_item table t) (λ u. items_lie n u)
    where
      go : (o : Option (K × ℕ)) → ((u : List ℕ) → (rest : List ℕ) × (u ≡ concat (map (λ (i : K × List ℕ). i.1) (items_within table n u)) ++ rest))
          → (rest : List ℕ)
          × (t ≡ concat (map (λ (i : K × List ℕ). i.1) (elim o as (λ _. List (K × List ℕ)) [ None ↦ [] | Some i ↦ (i.0, take i.1 t) ∷ items_within table n (drop i.1 t) ])) ++ rest)
      go None F = (t, refl)
      go (Some (k, e)) F =
          let (rest, f) = F (drop e t) in (
            rest,
            sym (take-append-drop e t) ∙ (ap (λ (u : List ℕ). take e t ++ u) f ∙ sym (append_assoc (take e t) (concat (map (λ (i : K × List ℕ). i.1) (items_within table n (drop e t)))) rest)),
          )
