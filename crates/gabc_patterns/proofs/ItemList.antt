-- The items of a list one after the other.
use Rattle.std.proofs.Common.{◌≡◌, ℕ, List, [], ◌∷◌, ◌++◌, refl, sym, ap, ◌∙◌, subst, append_assoc, append-nil, drop, length, map, slice_range, ◌≤◌, ◌<◌, ◌+◌, ◌-◌, arith, length-drop, take-append-drop, drop-drop}
use Rattle.std.proofs.lemmas.List.{drop_all, map-append}
use Rattle.gabc_patterns.specs.LongestItems.{IsReadingBy}
use Rattle.gabc_patterns.specs.Items.{IsTakenAt, ItemSpan, FollowOn}
use Rattle.gabc_patterns.specs.machine.Items.{AreItemSpans, item_in}
use Rattle.gabc_patterns.proofs.OneReading.{after_first}

-- The items before at are those; what comes from there on has a reading.
pub record ItemsSoFar {K X : Type 0} (Has : K → List X → Type 0) (t : List X) (items : List (ItemSpan K)) (at : ℕ) : Type 0 where
  pub fits : at ≤ length t
  pub rest : (later : List (K × List X)) × IsReadingBy Has later (drop at t)
  pub reads : (later : List (K × List X)) → IsReadingBy Has later (drop at t) → IsReadingBy Has (map (item_in t) items ++ later) t
  pub joined : FollowOn 0 items at

module _ {K X : Type 0} (Has : K → List X → Type 0) where
  -- before the first item
  pub items_start : (t : List X) → (later : List (K × List X)) × IsReadingBy Has later t → ItemsSoFar Has t [] 0
  items_start t s = record { fits = omega arith; rest = s; reads = λ later h. h; joined = refl }

  follow_push : (from at : ℕ) (items : List (ItemSpan K)) (i : ItemSpan K) → FollowOn from items at → i.1 ≡ at → FollowOn from (items ++ i ∷ []) i.2
  follow_push from at [] i h e = (e ∙ sym h, refl)
  follow_push from at (j ∷ items) i h e = (h.0, follow_push j.2 at items i h.1 e)

  rest_cons : (t : List X) (at : ℕ) → at < length t → (c : X) × (w : List X) × (drop at t ≡ c ∷ w)
  rest_cons t at l = go (drop at t) refl
    where
      go : (u : List X) → drop at t ≡ u → (c : X) × (w : List X) × (drop at t ≡ c ∷ w)
      go [] e = absurd (let f = ap length e in omega (arith, length-drop at t, f))
      go (c ∷ w) e = (c, w, e)

  split_at : (t : List X) (at to : ℕ) → at < to → drop at t ≡ slice_range t at to ++ drop to t
  split_at t at to l =
      let n : at + (to - at) ≡ to = omega arith in
      sym (take-append-drop (to - at) (drop at t)) ∙ ap (λ (u : List X). slice_range t at to ++ u) (drop-drop (to - at) at t ∙ ap (λ (m : ℕ). drop m t) n)

  -- an item more
  pub items_push : ((k : K) → ¬ Has k []) → (t : List X) (items : List (ItemSpan K)) (at : ℕ) (k : K) (to : ℕ) → at < length t → IsTakenAt Has t at k to
      → ItemsSoFar Has t items at → ItemsSoFar Has t (items ++ (k, at, to) ∷ []) to
  items_push none t items at k to l h s =
      let c = rest_cons t at l in
      let cut = split_at t at to h.after in
      let rest = s.rest in
      record {
        fits = h.within;
        rest = after_first Has none c.0 c.1 (slice_range t at to) (drop to t) rest.0 (subst (IsReadingBy Has rest.0) c.2 rest.1) (sym c.2 ∙ cut) h.longest;
        reads = grind (arith, append_assoc, map-append);
        joined = follow_push 0 at items (k, at, to) s.joined refl;
      }

  -- after the last item
  pub items_end : (t : List X) (items : List (ItemSpan K)) (at : ℕ) → length t ≤ at → ItemsSoFar Has t items at → AreItemSpans Has t items
  items_end t items at l s =
      let fits = s.fits in
      let same : at ≡ length t = omega arith in
      record {
        reads = subst (λ u. IsReadingBy Has u t) (append-nil (map (item_in t) items)) (s.reads [] (drop_all at t l));
        joined = subst (λ u. FollowOn 0 items u) same s.joined;
      }
