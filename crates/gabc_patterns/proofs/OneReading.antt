-- A list has one reading.
use Rattle.std.proofs.Common.{◌≡◌, List, [], ◌∷◌, ◌++◌, false, true≢false, map, refl, sym, ◌∙◌, subst}
use Rattle.gabc_patterns.specs.LongestItems.{Table, Longest, IsItemOf, HasSome, IsReadingBy, OneKindBy}
use Rattle.gabc_patterns.specs.Derivative.{rows_end}
use Rattle.gabc_patterns.proofs.RowsAfterACharacter.{rows_end_to}
use Rattle.gabc_patterns.proofs.LongestPrefixIsOne.{one_longest}

-- an item of a table without empty items has a character
pub no_empty : {K : Type 0} (table : Table K) → rows_end table ≡ false → (k : K) → ¬ IsItemOf table k []
no_empty table none_empty k i = true≢false (sym (rows_end_to table k i) ∙ none_empty)

module _ {K X : Type 0} (Has : K → List X → Type 0) (none : (k : K) → ¬ Has k []) where
  -- what comes after the first item of what has a reading has one
  pub after_first : (c : X) (w x y : List X) (is : List (K × List X)) → IsReadingBy Has is (c ∷ w) → c ∷ w ≡ x ++ y → Longest (HasSome Has) x y
      → (later : List (K × List X)) × IsReadingBy Has later y
  after_first c w x y [] h e l = absurd (cc)
  after_first c w x y (i ∷ is) (rest, f, has, k, r) e l =
      let h = one_longest (HasSome Has) i.1 x rest y (sym f ∙ e) k l in
      (is, subst (IsReadingBy Has is) h.1 r)

  -- two readings of a list cut it alike
  pub one_cutting : (xs ys : List (K × List X)) (t : List X) → IsReadingBy Has xs t → IsReadingBy Has ys t → map (λ x. x.1) xs ≡ map (λ x. x.1) ys
  one_cutting [] [] t h k = refl
  one_cutting [] ((k, []) ∷ ys) t h (rest, e, i, l, r) = absurd (none k i)
  one_cutting [] ((k, (c ∷ u)) ∷ ys) t h (rest, e, i, l, r) = absurd (cc)
  one_cutting ((k, []) ∷ xs) [] t (rest, e, i, l, r) h = absurd (none k i)
  one_cutting ((k, (c ∷ u)) ∷ xs) [] t (rest, e, i, l, r) h = absurd (cc)
  one_cutting ((k, u) ∷ xs) ((j, v) ∷ ys) t (rest, e, i, l, r) (other, f, i', l', r') =
      let h = one_longest (HasSome Has) u v rest other (sym e ∙ f) l l' in
      let g = one_cutting xs ys other (subst (IsReadingBy Has xs) h.1 r) r' in
      let p = h.0 in
      cc

  -- two readings of a list are one, if an item has one kind
  pub one_reading : OneKindBy Has → (xs ys : List (K × List X)) (t : List X) → IsReadingBy Has xs t → IsReadingBy Has ys t → xs ≡ ys
  one_reading one [] [] t h k = refl
  one_reading one [] ((k, []) ∷ ys) t h (rest, e, i, l, r) = absurd (none k i)
  one_reading one [] ((k, (c ∷ u)) ∷ ys) t h (rest, e, i, l, r) = absurd (cc)
  one_reading one ((k, []) ∷ xs) [] t (rest, e, i, l, r) h = absurd (none k i)
  one_reading one ((k, (c ∷ u)) ∷ xs) [] t (rest, e, i, l, r) h = absurd (cc)
  one_reading one ((k, u) ∷ xs) ((j, v) ∷ ys) t (rest, e, i, l, r) (other, f, i', l', r') =
      let h = one_longest (HasSome Has) u v rest other (sym e ∙ f) l l' in
      let g = one_reading one xs ys other (subst (IsReadingBy Has xs) h.1 r) r' in
      let p = h.0 in
      let q : k ≡ j = one v k j (subst (Has k) p i) i' in
      cc
