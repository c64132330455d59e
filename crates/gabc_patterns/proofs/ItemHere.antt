-- The longest item at a place of a text, by indexes into the text.
use Rattle.std.proofs.Common.{◌≡◌, ℕ, List, refl, sym, ap, ◌∙◌, subst, Option, Some, None, drop, length, get_or, ◌≤◌, ◌<◌, ◌+◌, arith, length-drop, drop-drop, get_or-drop}
use Rattle.gabc_patterns.specs.LongestItems.{Table}
use Rattle.gabc_patterns.specs.Items.{IsItemAt, ItemSpan}
use Rattle.gabc_patterns.proofs.AutomatonsByTests.{Automaton, ReadsItems}
use Rattle.gabc_patterns.proofs.ItemSoFar.{IsBest, ItemSoFar, best_longest, item_start, item_ends, item_on, item_stops}

-- the piece is what is found from there on: an item of that kind and number of characters, or none
abbrev pub IsFound : {K : Type 0} → ℕ → Option (ItemSpan K) → Option (K × ℕ) → Type 0
IsFound from None None = Unit {0}
IsFound from (Some b) (Some f) = (b.1 ≡ from) × (b.0 ≡ f.0) × (b.2 ≡ from + f.1)
IsFound from _ _ = ⊥

-- Of the item that begins at from the characters before at are read: the state is s, and best the longest so far, if
-- there is one.
pub record ItemHere {K S C : Type 0} (table : Table K) (a : Automaton K S C) (t : List ℕ) (from at : ℕ) (s : S) (best : Option (ItemSpan K)) : Type 0 where
  pub found : Option (K × ℕ)
  pub read : ℕ
  pub place : at ≡ from + read
  pub same : IsFound from best found
  pub far : ItemSoFar table a (drop from t) read s found

-- The longest item of all that begin at from, if there is one.
pub record BestHere {K : Type 0} (table : Table K) (t : List ℕ) (from : ℕ) (best : Option (ItemSpan K)) : Type 0 where
  pub found : Option (K × ℕ)
  pub same : IsFound from best found
  pub is_best : IsBest table (drop from t) (length (drop from t)) found

spot : (t : List ℕ) (from at read c : ℕ) → at ≡ from + read → at < length t → c ≡ get_or t at c → (read < length (drop from t)) × (c ≡ get_or (drop from t) read c)
spot t from at read c p l e = (omega (arith, length-drop from t), e ∙ (ap (λ (k : ℕ). get_or t k c) p ∙ sym (get_or-drop from t read c)))

module _ {K S C : Type 0} (table : Table K) (a : Automaton K S C) (r : ReadsItems table a) where
  -- before its first character
  pub here_start : (t : List ℕ) (from : ℕ) → ItemHere table a t from from a.first None
  here_start t from = record { found = None; read = 0; place = omega arith; same = tt; far = item_start table a r (drop from t) }

  -- a character more, and the item may end after it
  pub here_ends : (t : List ℕ) (from at c : ℕ) (s z : S) (k : K) (best : Option (ItemSpan K)) → at < length t → c ≡ get_or t at c
      → a.goes_on s (a.class_of c) ≡ Some z → a.ends z ≡ Some k → ItemHere table a t from at s best
      → ItemHere table a t from (at + 1) z (Some (k, from, at + 1))
  here_ends t from at c s z k best l e g f h =
      let x = spot t from at h.read c h.place l e in
      let place = h.place in
      record { found = Some (k, h.read + 1); read = h.read + 1; place = omega arith; same = (refl, refl, omega arith); far = item_ends table a r (drop from t) h.read c s z k h.found x.0 x.1 g f h.far }

  -- a character more, and the item may not end after it
  pub here_on : (t : List ℕ) (from at c : ℕ) (s z : S) (best : Option (ItemSpan K)) → at < length t → c ≡ get_or t at c
      → a.goes_on s (a.class_of c) ≡ Some z → a.ends z ≡ None → ItemHere table a t from at s best
      → ItemHere table a t from (at + 1) z best
  here_on t from at c s z best l e g f h =
      let x = spot t from at h.read c h.place l e in
      let place = h.place in
      record { found = h.found; read = h.read + 1; place = omega arith; same = h.same; far = item_on table a r (drop from t) h.read c s z h.found x.0 x.1 g f h.far }

  -- a character at which the item does not go on
  pub here_stops : (t : List ℕ) (from at c : ℕ) (s : S) (best : Option (ItemSpan K)) → at < length t → c ≡ get_or t at c
      → a.goes_on s (a.class_of c) ≡ None → ItemHere table a t from at s best → BestHere table t from best
  here_stops t from at c s best l e g h =
      let x = spot t from at h.read c h.place l e in
      record { found = h.found; same = h.same; is_best = item_stops table a r (drop from t) h.read c s h.found x.0 x.1 g h.far }

-- the end of the text
pub here_end : {K S C : Type 0} (table : Table K) (a : Automaton K S C) (t : List ℕ) (from at : ℕ) (s : S) (best : Option (ItemSpan K))
    → length t ≤ at → ItemHere table a t from at s best → BestHere table t from best
here_end table a t from at s best l h =
    let f = h.far in
    let place = h.place in
    let fits = f.fits in
    let same : h.read ≡ length (drop from t) = omega (arith, length-drop from t) in
    record { found = h.found; same = h.same; is_best = subst (λ n. IsBest table (drop from t) n h.found) same f.is_best }

module _ {K : Type 0} (table : Table K) where
  -- the best of all is the item there
  pub best_item : (t : List ℕ) (from : ℕ) (i : ItemSpan K) → from ≤ length t → BestHere table t from (Some i) → (i.1 ≡ from) × IsItemAt table t from i.0 i.2
  best_item t from i l h = grind (arith, best_longest, length-drop, drop-drop)
