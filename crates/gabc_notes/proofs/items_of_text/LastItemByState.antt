-- The last item of a text, by where the reading stands after it.
use Rattle.std.proofs.Common.{arith, ◌≡◌, ℕ, ◌⊎◌, inl, inr, List, [], ◌∷◌, ◌++◌, Bool, true, false, cond, Some, refl, sym, ap, ◌∙◌, subst, append-nil, append_assoc}
use Rattle.gabc_patterns.specs.LongestItems.{Table, Longest, IsItemOf, IsItem, IsReading, IsSnippet}
use Rattle.gabc_patterns.specs.Derivative.{rows_after, rows_run, rows_end, Munch, start, nowhere, within, enter, step, run, end_kind}
use Rattle.gabc_patterns.proofs.PartsOfNothing.{append_none}
use Rattle.gabc_patterns.proofs.LongestMunchByCharacter.{Ended, longest_from}
use Rattle.gabc_patterns.proofs.RowsAfterACharacter.{rows_to, rows_end_to, rows_end_from}
use Rattle.gabc_patterns.proofs.RowsRun.{item_at_end}
use Rattle.gabc_patterns.proofs.LongestPrefixIsOne.{longest_all, one_longest}

module _ {K : Type 0} (table : Table K) where
  -- the text is read so that its last item is of kind k, and these rows are left of it
  pub record LastOf (k : K) (rows : Table K) (t : List ℕ) : Type 0 where
    pub before : List (K × List ℕ)
    pub last : List ℕ
    pub reads : IsReading table (before ++ (k, last) ∷ []) t
    pub left : rows ≡ rows_run table last

  -- the text goes on where the reading stands, and these rows are left of its last item
  abbrev pub Leaves : K → Munch K → List ℕ → Table K → Type 0
  Leaves k start t rows = LastOf k rows t
  Leaves k nowhere t rows = ⊥
  Leaves k (within R back) t rows =
      (rows ≡ rows_run R t)
      ⊎ (((a b : List ℕ) × (t ≡ a ++ b) × Longest (IsItem R) a b × LastOf k rows b)
      ⊎ (Ended R t × Leaves k back t rows))

  -- the items join to the text, each the longest at its place, where that follows the text
  abbrev pub ReadsOn : List (K × List ℕ) → List ℕ → List ℕ → Type 0
  ReadsOn [] t more = t ≡ []
  ReadsOn (i ∷ is) t more = (rest : List ℕ) × (t ≡ i.1 ++ rest) × IsItemOf table i.0 i.1 × Longest (IsItem table) i.1 (rest ++ more) × ReadsOn is rest more

  -- an item, and then a text with such a last item
  first_then : (k : K) (rows : Table K) (a b t : List ℕ) → t ≡ a ++ b → Longest (IsItem table) a b → LastOf k rows b → LastOf k rows t
  first_then k rows a b t e l h = record {
    before = (l.has.0, a) ∷ h.before;
    last = h.last;
    reads = (b, e, l.has.1, l, h.reads);
    left = h.left;
  }

  -- no more of the item follows
  ended_longest : (R : Table K) (t : List ℕ) → rows_end R ≡ true → Ended R t → Longest (IsItem R) [] t
  ended_longest R t e n = record { has = rows_end_from R e; longest = λ more after f i. n more after f i }

  not_more : (R : Table K) (c : ℕ) (t : List ℕ) → rows_end (rows_after c R) ≡ false → Ended (rows_after c R) t → Ended R (c ∷ t)
  not_more R c t e n [] y f i = refl
  not_more R c t e n (d ∷ x) y f i =
      let same : d ≡ c = cc in
      let rest : t ≡ x ++ y = cc in
      let j : IsItemOf (rows_after c R) i.0 x = rows_to R i.0 c x (subst (λ (k : ℕ). IsItemOf R i.0 (k ∷ x)) same i.1) in
      let g : rows_end (rows_after c R) ≡ true = rows_end_to (rows_after c R) i.0 (subst (IsItemOf (rows_after c R) i.0) (n x y rest (i.0, j)) j) in
      absurd (cc)

  none_left : (R : Table K) (c : ℕ) (t : List ℕ) → rows_after c R ≡ [] → Ended R (c ∷ t)
  none_left R c t e [] y f i = refl
  none_left R c t e (d ∷ x) y f i =
      let same : d ≡ c = cc in
      absurd (subst (λ (r : Table K). IsItemOf r i.0 x) e (rows_to R i.0 c x (subst (λ (k : ℕ). IsItemOf R i.0 (k ∷ x)) same i.1)))

  -- an item goes on by a character, is at its longest, or does not go on
  into : (k : K) (rows R : Table K) (back : Munch K) (c : ℕ) (t : List ℕ) → Leaves k (enter (rows_after c R) back) t rows
      → (rows ≡ rows_run R (c ∷ t)) ⊎ (((a b : List ℕ) × (c ∷ t ≡ a ++ b) × Longest (IsItem R) a b × LastOf k rows b) ⊎ (Ended R (c ∷ t) × Leaves k back t rows))
  into k rows R back c t = go (rows_after c R) refl
    where
      last : (b : Bool) → rows_end (rows_after c R) ≡ b → Ended (rows_after c R) t → Leaves k (cond b start back) t rows
          → (rows ≡ rows_run R (c ∷ t)) ⊎ (((a b : List ℕ) × (c ∷ t ≡ a ++ b) × Longest (IsItem R) a b × LastOf k rows b) ⊎ (Ended R (c ∷ t) × Leaves k back t rows))
      last true e n h = inr (inl (c ∷ [], t, refl, longest_from table R c [] t (ended_longest (rows_after c R) t e n), h))
      last false e n h = inr (inr (not_more R c t e n, h))

      go : (S : Table K) → rows_after c R ≡ S → Leaves k (enter S back) t rows
          → (rows ≡ rows_run R (c ∷ t)) ⊎ (((a b : List ℕ) × (c ∷ t ≡ a ++ b) × Longest (IsItem R) a b × LastOf k rows b) ⊎ (Ended R (c ∷ t) × Leaves k back t rows))
      go [] e h = inr (inr (none_left R c t e, h))
      go (row ∷ S) e (inl h) = inl (h ∙ ap (λ (r : Table K). rows_run r t) (sym e))
      go (row ∷ S) e (inr (inl (a, b, f, l, h))) =
          inr (inl (c ∷ a, b, ap (λ (u : List ℕ). c ∷ u) f, longest_from table R c a b (subst (λ (r : Table K). Longest (IsItem r) a b) (sym e) l), h))
      go (row ∷ S) e (inr (inr (n, h))) =
          last (rows_end (row ∷ S)) (ap (λ (r : Table K). rows_end r) e) (subst (λ (r : Table K). Ended r t) (sym e) n) h

  step_back : (k : K) (rows : Table K) (m : Munch K) (c : ℕ) (t : List ℕ) → end_kind rows ≡ Some k → Leaves k (step table m c) t rows → Leaves k m (c ∷ t) rows
  step_back k rows start c t e h = elim (into k rows table nowhere c t h) [
    | inl x ↦ record {
      before = [];
      last = c ∷ t;
      reads = (
        [],
        sym (append-nil (c ∷ t)),
        item_at_end table (c ∷ t) k (ap end_kind (sym x) ∙ e),
        longest_all (IsItem table) (c ∷ t) (k, item_at_end table (c ∷ t) k (ap end_kind (sym x) ∙ e)),
        refl,
      );
      left = x;
    }
    | inr y ↦ elim y [
      | inl x ↦ first_then k rows x.0 x.1 (c ∷ t) x.2 x.3 x.4
      | inr x ↦ absurd x.1
    ]
  ]
  step_back k rows nowhere c t e h = h
  step_back k rows (within R back) c t e h = elim (into k rows R (step table back c) c t h) [
    | inl x ↦ inl x
    | inr y ↦ elim y [ inl x ↦ inr (inl x) | inr x ↦ inr (inr (x.0, step_back k rows back c t e x.1)) ]
  ]

  run_back : (k : K) (rows : Table K) (m : Munch K) (t : List ℕ) → end_kind rows ≡ Some k → Leaves k (run table m t) [] rows → Leaves k m t rows
  run_back k rows m [] e h = h
  run_back k rows m (c ∷ t) e h = step_back k rows m c t e (run_back k rows (step table m c) t e h)

  -- where an item may end, it is the last one of the text
  pub last_is : (k : K) (rows : Table K) (back : Munch K) (t : List ℕ) → run table start t ≡ within rows back → end_kind rows ≡ Some k → LastOf k rows t
  last_is k rows back t e f = run_back k rows start t f (subst (λ (m : Munch K). Leaves k m [] rows) (sym e) (inl refl))

  -- ---- readings of a prefix

  -- items that are the longest stay it, where less follows
  pub shrink : (is : List (K × List ℕ)) (t v w : List ℕ) → ReadsOn is t (v ++ w) → ReadsOn is t v
  shrink [] t v w h = h
  shrink (i ∷ is) t v w (rest, e, has, l, r) = grind (arith, append_assoc, shrink is rest v w r)

  -- a reading cut in two
  pub cut_reading : (is js : List (K × List ℕ)) (t : List ℕ) → IsReading table (is ++ js) t → (a b : List ℕ) × (t ≡ a ++ b) × ReadsOn is a b × IsReading table js b
  cut_reading [] js t h = ([], t, refl, refl, h)
  cut_reading (i ∷ is) js t (rest, e, has, l, r) =
      let y = cut_reading is js rest r in (
        i.1 ++ y.0,
        y.1,
        e ∙ (ap (λ (u : List ℕ). i.1 ++ u) y.2 ∙ sym (append_assoc i.1 y.0 y.1)),
        (y.0, refl, has, subst (λ (u : List ℕ). Longest (IsItem table) i.1 u) y.2 l, y.3),
        y.4,
      )

  -- and put together
  pub join_reading : (is js : List (K × List ℕ)) (a b : List ℕ) → ReadsOn is a b → IsReading table js b → IsReading table (is ++ js) (a ++ b)
  join_reading [] js a b h r = subst (λ (u : List ℕ). IsReading table js (u ++ b)) (sym h) r
  join_reading (i ∷ is) js a b (rest, e, has, l, r) s = grind (arith, append_assoc, join_reading is js rest b r s)

  -- the items of a prefix, where what follows it makes a snippet, are followed by a snippet
  pub prefix_read : (is js : List (K × List ℕ)) (a b : List ℕ) → ReadsOn is a b → IsReading table js (a ++ b) → IsSnippet table b
  prefix_read [] js a b h r = (js, subst (λ (u : List ℕ). IsReading table js (u ++ b)) h r)
  prefix_read (i ∷ is) [] a b h s = ([], (append_none a b (sym s)).1)
  prefix_read (i ∷ is) (j ∷ js) a b (rest, e, has, l, r) (more, f, has', l', r') =
      let same : (i.1 ≡ j.1) × (rest ++ b ≡ more) = one_longest (IsItem table) i.1 j.1 (rest ++ b) more (sym (append_assoc i.1 rest b) ∙ (sym (ap (λ (u : List ℕ). u ++ b) e) ∙ f)) l l' in
      prefix_read is js rest b r (subst (IsReading table js) (sym same.1) r')
