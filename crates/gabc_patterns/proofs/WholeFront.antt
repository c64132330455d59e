-- The longest beginning that items make up is the one that the function `trim` leaves.
use Rattle.std.proofs.Common.{◌≡◌, ℕ, zero, suc, ◌≤◌, ◌<◌, ◌+◌, List, [], ◌∷◌, ◌++◌, Bool, true, false, cond, refl, inl, inr, sym, ap, ◌∙◌, subst, length, take, drop, arith, length-append, take-append-drop, take_at, eq-or-lt_of_le, append_assoc, Option, Some, None}
use Rattle.std.specs.Option.{option_map_or}
use Rattle.std.proofs.lemmas.List.{length-take-le}
use Rattle.gabc_patterns.specs.LongestItems.{Table, OneKind, IsSnippet}
use Rattle.gabc_patterns.specs.Kept.{Trims}
use Rattle.gabc_patterns.specs.Derivative.{rows_end}
use Rattle.gabc_patterns.specs.Function.{trim}
use Rattle.gabc_patterns.proofs.FunctionsMeetRelations.{trims_is}
use Rattle.gabc_patterns.specs.Reads.{is_read, longest, whole_front}
use Rattle.gabc_patterns.proofs.ReadDecides.{read_to, read_from}

-- the longest of the first n beginnings that has a kind
abbrev pub Best : {K X : Type 0} → (List X → Option K) → List X → ℕ → Option (K × ℕ) → Type 0
Best is t n None = (m : ℕ) → 1 ≤ m → m ≤ n → is (take m t) ≡ None
Best {K} is t n (Some i) = (1 ≤ i.1) × (i.1 ≤ n) × (is (take i.1 t) ≡ Some i.0) × ((m : ℕ) → i.1 < m → m ≤ n → is (take m t) ≡ None)

module _ {K X : Type 0} (is : List X → Option K) (t : List X) where
  none_more : (n : ℕ) (a : ℕ) → ((m : ℕ) → a ≤ m → m ≤ n → is (take m t) ≡ None) → is (take (suc n) t) ≡ None → (m : ℕ) → a ≤ m → m ≤ suc n → is (take m t) ≡ None
  none_more n a F e m x y = elim (eq-or-lt_of_le y) [ inl f ↦ rw f e | inr f ↦ F m x (omega arith) ]

  pub longest_is_best : (n : ℕ) → Best is t n (longest is n t)
  longest_is_best zero = λ m x y. absurd (omega arith)
  longest_is_best (suc n) = go (is (take (suc n) t)) refl (longest is n t) (longest_is_best n)
    where
      go : (o : Option K) → is (take (suc n) t) ≡ o → (b : Option (K × ℕ)) → Best is t n b
          → Best is t (suc n) (elim o as (λ _. Option (K × ℕ)) [ None ↦ b | Some k ↦ Some (k, suc n) ])
      go None e None F = none_more n 1 F e
      go None e (Some i) F = (F.0, omega (arith, F.1), F.2, λ m x y. none_more n (suc i.1) (λ m x y. F.3 m (omega (arith, x)) y) e m (omega (arith, x)) y)
      go (Some k) e b F = (omega arith, omega arith, e, λ m x y. absurd (omega (arith, x, y)))

module _ {K : Type 0} (table : Table K) (none_empty : rows_end table ≡ false) (one : OneKind table) where
  abbrev test : List ℕ → Option Bool
  test p = cond (is_read table p) (Some true) None

  clash : (p : List ℕ) → test p ≡ None → IsSnippet table p → ⊥
  clash p e s = absurd (let f = read_from table none_empty one p s in let g : test p ≡ Some true = ap (λ (b : Bool). cond b (Some true) None) f in cc)

  is_one : (p : List ℕ) (k : Bool) → test p ≡ Some k → IsSnippet table p
  is_one p k e = go (is_read table p) refl e
    where
      go : (b : Bool) → is_read table p ≡ b → cond b (Some true) None ≡ Some k → IsSnippet table p
      go true f e = read_to table none_empty one p f
      go false f e = absurd (cc)

  none_longer : (front more after : List ℕ) (t : List ℕ) → t ≡ (front ++ more) ++ after → IsSnippet table (front ++ more)
      → ((m : ℕ) → suc (length front) ≤ m → m ≤ length t → test (take m t) ≡ None) → more ≡ []
  none_longer front [] after t e s F = refl
  none_longer front (c ∷ more) after t e s F =
      let u : List ℕ = front ++ c ∷ more in
      let cut : take (length u) t ≡ u = ap (take (length u)) e ∙ take_at u after (length u) refl in
      let n : length u ≡ length front + length (c ∷ more) = length-append front (c ∷ more) in
      let l : length t ≡ length u + length after = ap length e ∙ length-append u after in
      absurd (clash u (subst (λ (p : List ℕ). test p ≡ None) cut (F (length u) (omega (arith, n)) (omega (arith, l)))) s)

  front_trims : (t : List ℕ) → Trims table t (whole_front table t)
  front_trims t = go (longest test (length t) t) (longest_is_best test t (length t))
    where
      go : (o : Option (Bool × ℕ)) → Best test t (length t) o → Trims table t (option_map_or (λ (i : Bool × ℕ). take i.1 t) o [])
      go None F = record {
        rest = t;
        cut = refl;
        longest = record { has = ([], refl); longest = λ more after e s. none_longer [] more after t e s F };
      }
      go (Some i) F =
          let front : List ℕ = take i.1 t in
          let long : length front ≡ i.1 = length-take-le i.1 t F.1 in
          record {
            rest = drop i.1 t;
            cut = sym (take-append-drop i.1 t);
            longest = record {
              has = is_one front i.0 F.2;
              longest = λ more after e s. none_longer front more after t (sym (take-append-drop i.1 t) ∙ (ap (λ (u : List ℕ). front ++ u) e ∙ sym (append_assoc front more after))) s
                  (λ m x y. F.3 m (omega (arith, x, long)) y);
            };
          }

  pub front_is_trim : (t : List ℕ) → whole_front table t ≡ trim table t
  front_is_trim t = trims_is table none_empty t (whole_front table t) (front_trims t)
