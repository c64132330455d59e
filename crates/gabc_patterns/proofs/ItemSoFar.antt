-- The longest item at a place, found a character at a time.
use Rattle.std.proofs.Common.{◌≡◌, ℕ, List, [], ◌∷◌, ◌++◌, true, false, refl, sym, ap, ◌∙◌, subst, Option, Some, None, append_assoc, take, drop, length, get_or, ◌≤◌, ◌<◌, ◌+◌, arith, length-append, length-take, take-append-drop, take_at, take-take}
use Rattle.std.proofs.lemmas.List.{take_more}
use native.Mathlib.Decide.{dec_lt}
use Rattle.gabc_patterns.specs.LongestItems.{Table, Longest, IsItemOf, IsItem, OneKind, IsSnippet}
use Rattle.gabc_patterns.specs.Derivative.{rows_after, rows_run, rows_end, end_kind}
use Rattle.gabc_patterns.proofs.LongestMunchByCharacter.{first_item}
use Rattle.gabc_patterns.proofs.RowsRun.{rows_run-append, ends_once, one_end, item_at_end, no_item_at_end, no_item_past}
use Rattle.gabc_patterns.proofs.RowsAfterACharacter.{rows_to}
use Rattle.gabc_patterns.proofs.AutomatonsByTests.{Automaton, rows_of, rows_at, ReadsItems}

-- no prefix of more than e and at most n characters is an item
abbrev pub NoneUpTo : {K : Type 0} → Table K → List ℕ → ℕ → ℕ → Type 0
NoneUpTo table text e n = (m : ℕ) → e < m → m ≤ n → ¬ IsItem table (take m text)

-- the longest item among the prefixes of at most n characters: its kind and how many it has, or none
abbrev pub IsBest : {K : Type 0} → Table K → List ℕ → ℕ → Option (K × ℕ) → Type 0
IsBest table text n None = NoneUpTo table text 0 n
IsBest table text n (Some i) = (0 < i.1) × (i.1 ≤ n) × IsItemOf table i.0 (take i.1 text) × NoneUpTo table text i.1 n

-- After n characters of the text the item's rows are those of the state, and best is the longest item so far.
pub record ItemSoFar {K S C : Type 0} (table : Table K) (a : Automaton K S C) (text : List ℕ) (n : ℕ) (s : S) (best : Option (K × ℕ)) : Type 0 where
  pub fits : n ≤ length text
  pub rows : rows_of table a s ≡ rows_run table (take n text)
  pub is_best : IsBest table text n best

module _ {K : Type 0} (table : Table K) where
  more_none : (text : List ℕ) (e n : ℕ) → NoneUpTo table text e n → ¬ IsItem table (take (n + 1) text) → NoneUpTo table text e (n + 1)
  more_none text e n h x m l r = elim (dec_lt m (n + 1)) [ yes y ↦ h m l (omega arith) | no y ↦ (let same : m ≡ n + 1 = omega arith in λ i. x (subst (λ k. IsItem table (take k text)) same i)) ]

  -- a character more that makes no item
  pub best_on : (text : List ℕ) (n : ℕ) (best : Option (K × ℕ)) → IsBest table text n best → ¬ IsItem table (take (n + 1) text) → IsBest table text (n + 1) best
  best_on text n None h x = more_none text 0 n h x
  best_on text n (Some i) h x = (h.0, omega arith, h.2, more_none text i.1 n h.3 x)

  stop_none : (text : List ℕ) (e n : ℕ) → n < length text → rows_run table (take (n + 1) text) ≡ [] → NoneUpTo table text e n → NoneUpTo table text e (length text)
  stop_none text e n l r h m x y = elim (dec_lt n m) [
    | no z ↦ h m x (omega arith)
    | yes z ↦ (λ i. no_item_past table (take (n + 1) text) (drop (n + 1) (take m text)) r (subst (IsItem table) (sym (prefix m z)) i))
  ]
    where
      prefix : (m : ℕ) → n < m → take (n + 1) text ++ drop (n + 1) (take m text) ≡ take m text
      prefix m z = ap (λ (u : List ℕ). u ++ drop (n + 1) (take m text)) (sym (take-take (n + 1) m text (omega arith))) ∙ take-append-drop (n + 1) (take m text)

  best_stop : (text : List ℕ) (n : ℕ) (best : Option (K × ℕ)) → n < length text → rows_run table (take (n + 1) text) ≡ [] → IsBest table text n best → IsBest table text (length text) best
  best_stop text n None l r h = stop_none text 0 n l r h
  best_stop text n (Some i) l r h = (h.0, omega arith, h.2, stop_none text i.1 n l r h.3)

  -- the longest item among all prefixes is the longest item
  pub best_longest : (text : List ℕ) (k : K) (e : ℕ) → IsBest table text (length text) (Some (k, e)) → Longest (IsItem table) (take e text) (drop e text)
  best_longest text k e h = record { has = (k, h.2); longest = go }
    where
      go : (more after : List ℕ) → drop e text ≡ more ++ after → IsItem table (take e text ++ more) → more ≡ []
      go [] after f i = refl
      go (x ∷ more) after f i =
          let whole : text ≡ (take e text ++ x ∷ more) ++ after = sym (take-append-drop e text) ∙ (ap (λ (u : List ℕ). take e text ++ u) f ∙ sym (append_assoc (take e text) (x ∷ more) after)) in
          let size : length text ≡ length ((take e text ++ x ∷ more) ++ after) = ap length whole in
          let m : ℕ = length (take e text ++ x ∷ more) in
          let same : take m text ≡ take e text ++ x ∷ more = subst (λ u. take (length (take e text ++ x ∷ more)) u ≡ take e text ++ x ∷ more) (sym whole) (take_at (take e text ++ x ∷ more) after (length (take e text ++ x ∷ more)) refl) in
          let fits = h.1 in
          let long : e < m = omega (arith, length-append (take e text) (x ∷ more), length-take e text) in
          let short : m ≤ length text = omega (arith, length-append (take e text ++ x ∷ more) after) in
          absurd (h.3 m long short (subst (IsItem table) (sym same) i))

  -- a text none of whose prefixes is an item is no snippet, unless it is empty
  pub none_begins : rows_end table ≡ false → (t : List ℕ) → IsBest table t (length t) None → 0 < length t → ¬ IsSnippet table t
  none_begins none_empty [] h l s = omega arith
  none_begins none_empty (c ∷ t) h l s =
      let (d, u, v, f, k, z) = first_item table none_empty c t s in
      let size : length (c ∷ t) ≡ length ((d ∷ u) ++ v) = ap length f in
      h (length (d ∷ u)) (omega arith) (omega (arith, length-append (d ∷ u) v))
      (subst (λ w. IsItem table (take (length (d ∷ u)) w)) (sym f) (subst (IsItem table) (sym (take_at (d ∷ u) v (length (d ∷ u)) refl)) k.has))

module _ {K S C : Type 0} (table : Table K) (a : Automaton K S C) (r : ReadsItems table a) where
  -- before the first character
  pub item_start : (text : List ℕ) → ItemSoFar table a text 0 a.first None
  item_start text = record { fits = omega arith; rows = ap (rows_run table) r.begins; is_best = λ m l h. absurd (omega arith) }

  rows_more : (text : List ℕ) (n c : ℕ) (s : S) (o : Option S) → n < length text → c ≡ get_or text n c → rows_of table a s ≡ rows_run table (take n text)
      → a.goes_on s (a.class_of c) ≡ o → rows_at table a o ≡ rows_run table (take (n + 1) text)
  rows_more text n c s o l e h g =
      ap (rows_at table a) (sym g) ∙ (sym (r.goes_on s c) ∙ (ap (rows_after c) h ∙ (sym (rows_run-append table (take n text) (c ∷ []))
      ∙ ap (rows_run table) (sym (take_more text n c l ∙ ap (λ (x : ℕ). take n text ++ x ∷ []) (sym e))))))

  -- a character more, and the item may end after it
  pub item_ends : (text : List ℕ) (n c : ℕ) (s z : S) (k : K) (best : Option (K × ℕ)) → n < length text → c ≡ get_or text n c
      → a.goes_on s (a.class_of c) ≡ Some z → a.ends z ≡ Some k → ItemSoFar table a text n s best → ItemSoFar table a text (n + 1) z (Some (k, n + 1))
  item_ends text n c s z k best l e g f h = grind (arith, rows_more, item_at_end)

  -- a character more, and the item may not end after it
  pub item_on : (text : List ℕ) (n c : ℕ) (s z : S) (best : Option (K × ℕ)) → n < length text → c ≡ get_or text n c
      → a.goes_on s (a.class_of c) ≡ Some z → a.ends z ≡ None → ItemSoFar table a text n s best → ItemSoFar table a text (n + 1) z best
  item_on text n c s z best l e g f h =
      let rows = rows_more text n c s (Some z) l e h.rows g in
      record {
        fits = omega arith;
        rows = rows;
        is_best = best_on table text n best h.is_best (no_item_at_end table (take (n + 1) text) (ap end_kind (sym rows) ∙ (r.ends z ∙ f)));
      }

  -- a character at which the item does not go on: what is best so far is the longest
  pub item_stops : (text : List ℕ) (n c : ℕ) (s : S) (best : Option (K × ℕ)) → n < length text → c ≡ get_or text n c
      → a.goes_on s (a.class_of c) ≡ None → ItemSoFar table a text n s best → IsBest table text (length text) best
  item_stops text n c s best l e g h = best_stop table text n best l (sym (rows_more text n c s None l e h.rows g)) h.is_best

  -- ---- an item has one kind

  one_kind_from : ((s : S) → ends_once (rows_of table a s) ≡ true) → (s : S) (t : List ℕ) (k j : K)
      → IsItemOf (rows_of table a s) k t → IsItemOf (rows_of table a s) j t → k ≡ j
  one_kind_from once s [] k j h i = one_end (rows_of table a s) k j (once s) h i
  one_kind_from once s (c ∷ t) k j h i = go (a.goes_on s (a.class_of c)) (r.goes_on s c) (λ z. one_kind_from once z t k j)
    where
      go : (o : Option S) → rows_after c (rows_of table a s) ≡ rows_at table a o
          → ((z : S) → IsItemOf (rows_of table a z) k t → IsItemOf (rows_of table a z) j t → k ≡ j) → k ≡ j
      go None e F = absurd (subst (λ w. IsItemOf w k t) e (rows_to (rows_of table a s) k c t h))
      go (Some z) e F = F z (subst (λ w. IsItemOf w k t) e (rows_to (rows_of table a s) k c t h)) (subst (λ w. IsItemOf w j t) e (rows_to (rows_of table a s) j c t i))

  -- where at most one row may end at each state, an item has one kind
  pub one_kind : ((s : S) → ends_once (rows_of table a s) ≡ true) → OneKind table
  one_kind once t k j h i = grind (arith, one_kind_from)
