-- The runs of a list one after the other.
use Rattle.std.proofs.Common.{◌≡◌, ℕ, zero, suc, List, [], ◌∷◌, ◌++◌, Bool, true, false, refl, sym, ap, ◌∙◌, subst, length, get_or, ◌<◌, ◌≤◌, ◌+◌, ◌-◌, arith, nat_lt, append-nil, length-append, inl, inr}
use Rattle.std.specs.List.{Contains, AllPairs}
use Rattle.std.proofs.lemmas.List.Elements.{Contains-append_left, Contains-push, Contains-push_cases, Contains-get_or}
use Rattle.std.proofs.lemmas.List.Quantifiers.{all_pairs_push}
use Rattle.std.proofs.lemmas.Bool.{ltb-true, ltb-false}
use native.Mathlib.Decide.{dec_lt}
use Rattle.gabc_places.specs.declared.place.Span.{Span}
use Rattle.gabc_neumes.specs.Runs.{passes_at, IsRun, AreRuns}
use Rattle.gabc_neumes.specs.machine.Runs.{run_between}

-- Up to i, not with it, the spans are the runs that have ended; what stands from from on passes.
pub record RunsSoFar {X : Type 0} (p : X → Bool) (xs : List X) (i from : ℕ) (spans : List Span) : Type 0 where
  pub within : from ≤ i
  pub open_run : (k : ℕ) → from ≤ k → k < i → passes_at p xs k ≡ true
  pub closed : (k : ℕ) → k + 1 ≡ from → passes_at p xs k ≡ false
  pub are : (s : Span) → Contains spans s → IsRun p xs s × (s.to < from)
  pub all : (s : Span) → IsRun p xs s → s.to < from → Contains spans s
  pub order : AllPairs (λ s t. s.to < t.from) spans
  pub few : length spans ≤ from

module _ {X : Type 0} (p : X → Bool) (xs : List X) where
  -- one more that passes
  pub runs_on : (i from : ℕ) (spans : List Span) → passes_at p xs i ≡ true → RunsSoFar p xs i from spans → RunsSoFar p xs (i + 1) from spans
  runs_on i from spans e h = grind arith

  not_both : (k : ℕ) → passes_at p xs k ≡ true → passes_at p xs k ≡ false → ⊥
  not_both k a b = cc

  -- a run that ends after the runs so far ends at i, where one is open, and is that one
  last_run : (i from : ℕ) (spans : List Span) → RunsSoFar p xs i from spans → (s : Span) → IsRun p xs s → from ≤ s.to → s.to < i + 1
      → (from < i) × (s.from ≡ from) × (s.to ≡ i)
  last_run i from spans h s r a l =
      let some = r.some in
      let to : s.to ≡ i = elim (dec_lt s.to i) [ no n ↦ omega arith | yes y ↦ absurd (not_both s.to (h.open_run s.to a y) r.after) ] in
      let low : from ≤ s.from = elim (dec_lt s.from from) [ no n ↦ omega arith | yes y ↦ (let back : (from - 1) + 1 ≡ from = omega arith in absurd (not_both (from - 1) (r.inside (from - 1) (omega arith) (omega arith)) (h.closed (from - 1) back))) ] in
      let high : s.from ≤ from = elim (dec_lt from s.from) [ no n ↦ omega arith | yes y ↦ (let back : (s.from - 1) + 1 ≡ s.from = omega arith in absurd (not_both (s.from - 1) (h.open_run (s.from - 1) (omega arith) (omega arith)) (r.before (s.from - 1) back))) ] in
      (omega arith, omega arith, to)

  all_before : (spans : List Span) (from : ℕ) → ((s : Span) → Contains spans s → IsRun p xs s × (s.to < from))
      → (k : ℕ) (d : Span) → k < length spans → (get_or spans k d).to < from
  all_before spans from h k d l = (h (get_or spans k d) (Contains-get_or spans k d l)).1

  none_more : (i from : ℕ) (spans : List Span) → passes_at p xs i ≡ false → ¬ (from < i) → RunsSoFar p xs i from spans → RunsSoFar p xs (i + 1) (i + 1) spans
  none_more i from spans e n h =
      let w = h.within in
      let few = h.few in
      record {
        within = omega arith;
        open_run = λ k a l. absurd (omega arith);
        closed = λ k a. (let same : k ≡ i = omega arith in subst (λ (m : ℕ). passes_at p xs m ≡ false) (sym same) e);
        are = λ s c. (let a = h.are s c in let l = a.1 in (a.0, omega arith));
        all = λ s r l. elim (dec_lt s.to from) [ yes y ↦ h.all s r y | no m ↦ absurd (n (last_run i from spans h s r (omega arith) l).0) ];
        order = h.order;
        few = omega arith;
      }

  one_more : (i from : ℕ) (spans : List Span) → passes_at p xs i ≡ false → from < i → RunsSoFar p xs i from spans
      → RunsSoFar p xs (i + 1) (i + 1) (spans ++ record { from = from; to = i } ∷ [])
  one_more i from spans e y h =
      let new : Span = record { from = from; to = i } in
      let run : IsRun p xs new = record { some = y; inside = h.open_run; before = h.closed; after = e } in
      let few = h.few in
      record {
        within = omega arith;
        open_run = λ k a l. absurd (omega arith);
        closed = λ k a. (let same : k ≡ i = omega arith in subst (λ (m : ℕ). passes_at p xs m ≡ false) (sym same) e);
        are = λ s c. elim (Contains-push_cases spans new s c) [
          | inl a ↦ (let b = h.are s a in let l = b.1 in (b.0, omega arith))
          | inr a ↦ subst (λ (t : Span). IsRun p xs t × (t.to < i + 1)) a (run, omega arith)
        ];
        all = λ s r l. elim (dec_lt s.to from) [
          | yes z ↦ Contains-append_left spans (new ∷ []) s (h.all s r z)
          | no m ↦ (let same = last_run i from spans h s r (omega arith) l in
              let equal : new ≡ s = ap (λ (f : ℕ). record { from = f; to = i }) (sym same.1) ∙ ap (λ (t : ℕ). record { from = s.from; to = t }) (sym same.2) in
              subst (Contains (spans ++ new ∷ [])) equal (Contains-push spans new))
        ];
        order = all_pairs_push (λ s t. s.to < t.from) spans new h.order (all_before spans from h.are);
        few = omega (arith, length-append spans (new ∷ []));
      }

  -- one more that does not pass: a run ends
  pub runs_close : (i from : ℕ) (spans : List Span) → passes_at p xs i ≡ false → RunsSoFar p xs i from spans → RunsSoFar p xs (i + 1) (i + 1) (spans ++ run_between from i)
  runs_close i from spans e h = go (nat_lt from i) refl
    where
      go : (b : Bool) → nat_lt from i ≡ b → RunsSoFar p xs (i + 1) (i + 1) (spans ++ run_between from i)
      go true f = rw f (one_more i from spans e (ltb-true from i f) h)
      go false f = rw f (subst (RunsSoFar p xs (i + 1) (i + 1)) (sym (append-nil spans)) (none_more i from spans e (let l = ltb-false from i f in λ y. omega arith) h))

  pub past : (ys : List X) (k : ℕ) → length ys ≤ k → passes_at p ys k ≡ false
  past [] k l = refl
  past (y ∷ ys) zero l = absurd (omega arith)
  past (y ∷ ys) (suc k) l = past ys k (omega arith)

  -- after the last
  pub runs_end : (i from : ℕ) (spans : List Span) → i ≡ length xs → RunsSoFar p xs i from spans → AreRuns p xs (spans ++ run_between from (length xs))
  runs_end i from spans l h = subst (λ (n : ℕ). AreRuns p xs (spans ++ run_between from n)) l (ended (runs_close i from spans (past xs i (omega arith)) h))
    where
      short : (s : Span) → IsRun p xs s → s.to < i + 1
      short s r = elim (dec_lt i s.to) [ no n ↦ omega arith | yes y ↦ (let some = r.some in absurd (not_both (s.to - 1) (r.inside (s.to - 1) (omega arith) (omega arith)) (past xs (s.to - 1) (omega arith)))) ]

      ended : RunsSoFar p xs (i + 1) (i + 1) (spans ++ run_between from i) → AreRuns p xs (spans ++ run_between from i)
      ended g = record { each = λ s. (λ c. (g.are s c).0, λ r. g.all s r (short s r)); order = g.order }

  -- what stands at an index of the list
  pub passes_there : (i : ℕ) (d : X) → i < length xs → passes_at p xs i ≡ p (get_or xs i d)
  passes_there i d l = at xs i l
    where
      at : (ys : List X) (k : ℕ) → k < length ys → passes_at p ys k ≡ p (get_or ys k d)
      at [] k m = absurd (omega arith)
      at (y ∷ ys) zero m = refl
      at (y ∷ ys) (suc k) m = at ys k (omega arith)
