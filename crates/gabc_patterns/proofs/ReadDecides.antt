-- Whether items make up a text decides whether it is a snippet; with an end, whether it is viable.
use Rattle.std.proofs.Common.{◌≡◌, ℕ, List, [], ◌∷◌, ◌++◌, ◌||◌, Bool, true, false, inl, inr, refl, ap, subst, length, ◌+◌, arith, length-append, Decides}
use Rattle.std.specs.Prelude.{sum_by}
use Rattle.std.specs.List.{list_any}
use Rattle.std.proofs.lemmas.Bool.{or_cases, or_left, or_right}
use Rattle.std.proofs.lemmas.Bool.Decides.{same_from_decides}
use Rattle.std.proofs.lemmas.List.Sums.{sum_by-cons}
use Rattle.gabc_patterns.specs.LongestItems.{Table, OneKind, IsSnippet, IsViable}
use Rattle.gabc_patterns.specs.ItemsRead.{ReadsTo}
use Rattle.gabc_patterns.specs.Derivative.{same_texts, rows_end, is_snippet, is_viable}
use Rattle.gabc_patterns.proofs.ItemsAsFarAsOneBegins.{one_read_on, reading_read_on, read_to_the_end}
use Rattle.gabc_patterns.specs.Reads.{items_by, is_read, goes_on}
use Rattle.gabc_patterns.proofs.EqualPatterns.{same_texts_equal}
use Rattle.gabc_patterns.proofs.FunctionsMeetRelations.{snippet_decides, viable_decides}
use Rattle.gabc_patterns.proofs.ItemsBy.{within_read}

module _ {K : Type 0} (table : Table K) where
  -- the items and the rest are as long as the text
  reads_len : (is : List (K × List ℕ)) (t rest : List ℕ) → ReadsTo table is t rest → sum_by (λ (i : K × List ℕ). length i.1) is + length rest ≡ length t
  reads_len [] t rest h = omega (arith, ap length h.0)
  reads_len (i ∷ is) t rest (more, e, has, l, r) =
      let f : sum_by (λ (x : K × List ℕ). length x.1) (i ∷ is) ≡ length i.1 + sum_by (λ (x : K × List ℕ). length x.1) is = sum_by-cons (λ (x : K × List ℕ). length x.1) i is in
      omega (arith, f, ap length e, length-append i.1 more, reads_len is more rest r)

  module _ (none_empty : rows_end table ≡ false) (one : OneKind table) where
    empty_by : (u : List ℕ) → length u ≡ 0 → u ≡ []
    empty_by [] e = refl
    empty_by (c ∷ u) e = absurd (omega arith)

    pub read_to : (t : List ℕ) → is_read table t ≡ true → IsSnippet table t
    read_to t e =
        let a = within_read table none_empty (length t) t (omega arith) in
        let n : sum_by (λ (i : K × List ℕ). length i.1) (items_by table t) ≡ length t = grind arith in
        let z : a.0 ≡ [] = empty_by a.0 (omega (arith, reads_len (items_by table t) t a.0 a.1)) in
        (items_by table t, read_to_the_end table (items_by table t) t (subst (λ (r : List ℕ). ReadsTo table (items_by table t) t r) z a.1))

    pub read_from : (t : List ℕ) → IsSnippet table t → is_read table t ≡ true
    read_from t s =
        let a = within_read table none_empty (length t) t (omega arith) in
        let both = one_read_on table none_empty one (items_by table t) s.0 t a.0 [] a.1 (reading_read_on table none_empty s.0 t s.1) in
        let z : length a.0 ≡ 0 = ap length both.1 in
        let n : sum_by (λ (i : K × List ℕ). length i.1) (items_by table t) ≡ length t = omega (arith, reads_len (items_by table t) t a.0 a.1) in
        grind arith

    pub read_decides : (t : List ℕ) → Decides (is_read table t) (IsSnippet table t)
    read_decides t = (read_to t, read_from t)

    -- with one of these ends
    pub goes_to : (ends : List (List ℕ)) (t : List ℕ) → goes_on table ends t ≡ true → IsViable table t
    goes_to [] t e = absurd (cc)
    goes_to (end ∷ ends) t e = go (is_read table (t ++ end)) refl (goes_to ends t) e
      where
        go : (b : Bool) → is_read table (t ++ end) ≡ b → (goes_on table ends t ≡ true → IsViable table t) → b || goes_on table ends t ≡ true → IsViable table t
        go true f F e = (end, read_to (t ++ end) f)
        go false f F e = F e

    goes_from : (ends : List (List ℕ)) (t u : List ℕ) → IsSnippet table (t ++ u) → list_any (same_texts u) ends ≡ true → goes_on table ends t ≡ true
    goes_from [] t u s e = absurd (cc)
    goes_from (end ∷ ends) t u s e = elim (or_cases (same_texts u end) (list_any (same_texts u) ends) e) [
      | inl x ↦ or_left (is_read table (t ++ end)) (goes_on table ends t) (read_from (t ++ end) (subst (λ (v : List ℕ). IsSnippet table (t ++ v)) (same_texts_equal u end x) s))
      | inr x ↦ or_right (is_read table (t ++ end)) (goes_on table ends t) (goes_from ends t u s x)
    ]

    -- if each viable text is completed by one of these ends
    pub goes_decides : (ends : List (List ℕ)) → ((t : List ℕ) → IsViable table t → (u : List ℕ) × IsSnippet table (t ++ u) × (list_any (same_texts u) ends ≡ true))
        → (t : List ℕ) → Decides (goes_on table ends t) (IsViable table t)
    goes_decides ends completed t = (goes_to ends t, λ v. let y = completed t v in goes_from ends t y.0 y.1 y.2)

    -- the tests are those by derivatives
    pub read_same : (t : List ℕ) → is_read table t ≡ is_snippet table t
    read_same t = same_from_decides (is_read table t) (is_snippet table t) (read_decides t) (snippet_decides table none_empty t)

    pub goes_same : (ends : List (List ℕ)) → ((t : List ℕ) → Decides (goes_on table ends t) (IsViable table t)) → (t : List ℕ) → goes_on table ends t ≡ is_viable table t
    goes_same ends decides t = same_from_decides (goes_on table ends t) (is_viable table t) (decides t) (viable_decides table none_empty t)
