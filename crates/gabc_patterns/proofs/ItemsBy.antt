-- The items as longest parts that rows spell are those of the function `items`.
use Rattle.std.proofs.Common.{◌≡◌, ℕ, zero, suc, List, [], ◌∷◌, false, refl, sym, ap, ◌∙◌, subst, Option, Some, None, take, drop, length, ◌≤◌, ◌+◌, arith, length-append, length-drop, take-append-drop, take_at}
use Rattle.gabc_patterns.specs.LongestItems.{Table, IsItem, OneKind}
use Rattle.gabc_patterns.specs.ItemsRead.{ReadsTo}
use Rattle.gabc_patterns.specs.Derivative.{rows_end}
use Rattle.gabc_patterns.specs.Function.{items}
use Rattle.gabc_patterns.proofs.ItemSoFar.{IsBest, best_on, best_longest}
use Rattle.gabc_patterns.proofs.ItemsAsFarAsOneBegins.{items_read_on, one_read_on}
use Rattle.gabc_patterns.proofs.OneReading.{no_empty}
use Rattle.gabc_patterns.specs.ItemsRead.{NoneBegins}
use Rattle.gabc_patterns.specs.Reads.{kind_of, longest, parts_within, items_by}
use Rattle.gabc_patterns.proofs.Spelled.{kind_is, none_is}

module _ {K : Type 0} (table : Table K) where
  -- the search from the longest beginning down finds the longest item
  pub longest_best : (n : ℕ) (t : List ℕ) → IsBest table t n (longest (kind_of table) n t)
  longest_best zero t = λ m x y. absurd (omega arith)
  longest_best (suc n) t = go (kind_of table (take (suc n) t)) refl (longest_best n t)
    where
      go : (o : Option K) → kind_of table (take (suc n) t) ≡ o → IsBest table t n (longest (kind_of table) n t)
          → IsBest table t (suc n) (elim o as (λ _. Option (K × ℕ)) [ None ↦ longest (kind_of table) n t | Some k ↦ Some (k, suc n) ])
      go None e F = subst (λ (m : ℕ). IsBest table t m (longest (kind_of table) n t)) (let f : n + 1 ≡ suc n = omega arith in f)
          (best_on table t n (longest (kind_of table) n t) F
          (subst (λ (m : ℕ). ¬ IsItem table (take m t)) (let f : suc n ≡ n + 1 = omega arith in f) (λ i. none_is table (take (suc n) t) i.0 e i.1)))
      go (Some k) e F = (omega arith, omega arith, kind_is table (take (suc n) t) k e, λ m x y. absurd (omega arith))

  module _ (none_empty : rows_end table ≡ false) where
    none_at : (t : List ℕ) → IsBest table t (length t) None → NoneBegins table t
    none_at t b [] rest e i = no_empty table none_empty i.0 i.1
    none_at t b (c ∷ front) rest e i =
        let cut : take (length (c ∷ front)) t ≡ c ∷ front = ap (take (length (c ∷ front))) e ∙ take_at (c ∷ front) rest (length (c ∷ front)) refl in
        b (length (c ∷ front)) (omega arith) (omega (arith, ap length e, length-append (c ∷ front) rest)) (subst (IsItem table) (sym cut) i)

    pub within_read : (n : ℕ) (t : List ℕ) → length t ≤ n → (rest : List ℕ) × ReadsTo table (parts_within (kind_of table) n t) t rest
    within_read zero [] l = ([], (refl, none_at [] (λ m x y. absurd (omega arith))))
    within_read zero (c ∷ t) l = absurd (omega arith)
    within_read (suc n) t l = go (longest (kind_of table) (length t) t) (longest_best (length t) t) (λ u. within_read n u)
      where
        go : (o : Option (K × ℕ)) → IsBest table t (length t) o → ((u : List ℕ) → length u ≤ n → (rest : List ℕ) × ReadsTo table (parts_within (kind_of table) n u) u rest)
            → (rest : List ℕ) × ReadsTo table (elim o as (λ _. List (K × List ℕ)) [ None ↦ [] | Some i ↦ (i.0, take i.1 t) ∷ parts_within (kind_of table) n (drop i.1 t) ]) t rest
        go None b F = (t, (refl, none_at t b))
        go (Some (k, e)) b F =
            let x = b.0 in
            let y = b.1 in
            let r = F (drop e t) (omega (arith, length-drop e t)) in
            (r.0, (drop e t, sym (take-append-drop e t), b.2, best_longest table t k e b, r.1))

    -- both read the text as far as an item begins, and so are one
    pub items_by_are_items : OneKind table → (t : List ℕ) → items_by table t ≡ items table t
    items_by_are_items one t =
        let a = within_read (length t) t (omega arith) in
        let b = items_read_on table none_empty t in
        (one_read_on table none_empty one (items_by table t) (items table t) t a.0 b.0 a.1 b.1).0
