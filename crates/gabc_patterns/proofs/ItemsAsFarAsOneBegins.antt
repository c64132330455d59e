-- The items with which a text begins are one list, which a function of the text gives; of a snippet they are the reading.
use Rattle.std.proofs.Common.{◌≡◌, ℕ, zero, suc, List, [], ◌∷◌, false, refl, sym, ap, ◌∙◌, subst, Option, Some, None, take, drop, length, ◌≤◌, arith, length-append, length-drop, take-append-drop, take_at}
use Rattle.gabc_patterns.specs.LongestItems.{Table, IsItemOf, IsItem, IsReading, OneKind}
use Rattle.gabc_patterns.specs.ItemsRead.{NoneBegins, ReadsTo}
use Rattle.gabc_patterns.specs.Derivative.{rows_end}
use Rattle.gabc_patterns.specs.Function.{longest_item, items_within, items}
use Rattle.gabc_patterns.proofs.ItemsFunctionReads.{longest_item_best}
use Rattle.gabc_patterns.proofs.ItemSoFar.{IsBest, best_longest}
use Rattle.gabc_patterns.proofs.LongestPrefixIsOne.{one_longest}
use Rattle.gabc_patterns.proofs.OneReading.{no_empty}

module _ {K : Type 0} (table : Table K) (none_empty : rows_end table ≡ false) where
  -- where the search finds no item, none begins
  none_at : (t : List ℕ) → IsBest table t (length t) None → NoneBegins table t
  none_at t b [] rest e i = no_empty table none_empty i.0 i.1
  none_at t b (c ∷ front) rest e i =
      let cut : take (length (c ∷ front)) t ≡ c ∷ front = ap (take (length (c ∷ front))) e ∙ take_at (c ∷ front) rest (length (c ∷ front)) refl in
      b (length (c ∷ front)) (omega arith) (omega (arith, ap length e, length-append (c ∷ front) rest)) (subst (IsItem table) (sym cut) i)

  within_read : (n : ℕ) (t : List ℕ) → length t ≤ n → (rest : List ℕ) × ReadsTo table (items_within table n t) t rest
  within_read zero [] l = ([], (refl, none_at [] (λ m x y. absurd (omega arith))))
  within_read zero (c ∷ t) l = absurd (omega arith)
  within_read (suc n) t l = go (longest_item table t) (longest_item_best table t) (λ u. within_read n u)
    where
      go : (o : Option (K × ℕ)) → IsBest table t (length t) o → ((u : List ℕ) → length u ≤ n → (rest : List ℕ) × ReadsTo table (items_within table n u) u rest)
          → (rest : List ℕ) × ReadsTo table (elim o as (λ _. List (K × List ℕ)) [ None ↦ [] | Some i ↦ (i.0, take i.1 t) ∷ items_within table n (drop i.1 t) ]) t rest
      go None b F = (t, (refl, none_at t b))
      go (Some (k, e)) b F =
          let x = b.0 in
          let y = b.1 in
          let r = F (drop e t) (omega (arith, length-drop e t)) in
          (r.0, (drop e t, sym (take-append-drop e t), b.2, best_longest table t k e b, r.1))

  -- the function reads a text as far as an item begins
  pub items_read_on : (t : List ℕ) → (rest : List ℕ) × ReadsTo table (items table t) t rest
  items_read_on t = within_read (length t) t (omega arith)

  -- two such lists are one, and leave the same
  pub one_read_on : OneKind table → (is js : List (K × List ℕ)) (t r s : List ℕ) → ReadsTo table is t r → ReadsTo table js t s → (is ≡ js) × (r ≡ s)
  one_read_on one [] [] t r s h k = (refl, sym h.0 ∙ k.0)
  one_read_on one [] ((k, v) ∷ js) t r s h (more, e, i, l, g) = absurd (h.1 v more e (k, i))
  one_read_on one ((k, u) ∷ is) [] t r s (more, e, i, l, g) h = absurd (h.1 u more e (k, i))
  one_read_on one ((k, u) ∷ is) ((j, v) ∷ js) t r s (more, e, i, l, g) (other, f, i', l', g') =
      let h = one_longest (IsItem table) u v more other (sym e ∙ f) l l' in
      let p = h.0 in
      let q : k ≡ j = one v k j (subst (IsItemOf table k) p i) i' in
      let rest = one_read_on one is js other r s (subst (λ (x : List ℕ). ReadsTo table is x r) h.1 g) g' in
      let a = rest.0 in
      ((cc), rest.1)

  -- a reading leaves nothing
  pub reading_read_on : (is : List (K × List ℕ)) (t : List ℕ) → IsReading table is t → ReadsTo table is t []
  reading_read_on [] t e = (e, λ front rest f i. none_at [] (λ m x y. absurd (omega arith)) front rest (sym e ∙ f) i)
  reading_read_on (i ∷ is) t (more, e, has, l, r) = (more, e, has, l, reading_read_on is more r)

-- what leaves nothing is a reading
pub read_to_the_end : {K : Type 0} (table : Table K) (is : List (K × List ℕ)) (t : List ℕ) → ReadsTo table is t [] → IsReading table is t
read_to_the_end table [] t h = h.0
read_to_the_end table (i ∷ is) t (more, e, has, l, r) = (more, e, has, l, read_to_the_end table is more r)
