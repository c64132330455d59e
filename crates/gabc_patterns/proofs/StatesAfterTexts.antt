-- The state of an automaton after a text.
use Rattle.std.proofs.Common.{◌≡◌, ℕ, List, [], ◌∷◌, ◌++◌, true, false, refl, sym, ap, ◌∙◌, subst, Option, Some, None, arith}
use Rattle.gabc_patterns.specs.LongestItems.{Table, IsSnippet, IsViable}
use Rattle.gabc_patterns.specs.Derivative.{Munch, start, nowhere, step, run, is_whole, is_alive, is_snippet}
use Rattle.gabc_patterns.proofs.LongestMunchByCharacter.{viable_to, snippet_to, snippet_from}
use Rattle.gabc_patterns.proofs.AutomatonsByTests.{Automaton, reading, reading_of, ReadsSnippets}

-- where the reading stands after two texts
pub run-append : {K : Type 0} (table : Table K) (m : Munch K) (t u : List ℕ) → run table m (t ++ u) ≡ run table (run table m t) u
run-append table m [] u = refl
run-append table m (c ∷ t) u = run-append table (step table m c) t u

-- The state is where the reading of the text stands.
pub record Stands {K S C : Type 0} (table : Table K) (a : Automaton K S C) (s : S) (t : List ℕ) : Type 0 where
  pub reads : reading table a s ≡ run table start t

module _ {K S C : Type 0} (table : Table K) (a : Automaton K S C) (r : ReadsSnippets table a) where
  -- the first state, before any character
  pub stands_first : Stands table a a.first []
  stands_first = record { reads = ap (run table start) r.begins }

  -- where the reading stands a character later
  pub after_char : (s : S) (t : List ℕ) (c : ℕ) (o : Option S) → Stands table a s t → a.next s (a.class_of c) ≡ o
      → run table start (t ++ c ∷ []) ≡ reading_of table a o
  after_char s t c o h e = grind (arith, run-append)

  -- a character more, where there is a next state
  pub stands_next : (s z : S) (t : List ℕ) (c : ℕ) → Stands table a s t → a.next s (a.class_of c) ≡ Some z → Stands table a z (t ++ c ∷ [])
  stands_next s z t c h e = record { reads = sym (after_char s t c (Some z) h e) }

  -- a character that is not kept: there is no next state
  pub left_out : (s : S) (t : List ℕ) (c : ℕ) → Stands table a s t → a.next s (a.class_of c) ≡ None → ¬ IsViable table (t ++ c ∷ [])
  left_out s t c h e v =
      let f = viable_to table r.none_empty (t ++ c ∷ []) v in
      let x : false ≡ true = subst (λ m. is_alive m ≡ true) (after_char s t c None h e) f in
      absurd (cc)

  -- whether the text is a snippet is read off the state
  pub whole_is : (s : S) (t : List ℕ) → Stands table a s t → is_snippet table t ≡ a.whole s
  whole_is s t h = sym (ap is_whole h.reads) ∙ r.whole s

  -- a text with a whole state is a snippet
  pub whole_at : (s : S) (t : List ℕ) → Stands table a s t → a.whole s ≡ true → IsSnippet table t
  whole_at s t h e = snippet_from table r.none_empty t (whole_is s t h ∙ e)

  -- a text with another is none
  pub not_whole_at : (s : S) (t : List ℕ) → Stands table a s t → a.whole s ≡ false → ¬ IsSnippet table t
  not_whole_at s t h e i = grind (arith, snippet_to, whole_is)

  -- ---- a viable text has a state

  dead : (t : List ℕ) → is_alive (run table nowhere t) ≡ true → ⊥
  dead [] e = absurd (cc)
  dead (d ∷ u) e = dead u e

  stands_from : (s : S) (t : List ℕ) → is_alive (run table (reading table a s) t) ≡ true → (z : S) × (run table (reading table a s) t ≡ reading table a z)
  stands_from s [] h = (s, refl)
  stands_from s (c ∷ t) h = go (a.next s (a.class_of c)) (r.steps s c) (λ z. stands_from z t)
    where
      go : (o : Option S) → step table (reading table a s) c ≡ reading_of table a o
          → ((z : S) → is_alive (run table (reading table a z) t) ≡ true → (y : S) × (run table (reading table a z) t ≡ reading table a y))
          → (z : S) × (run table (step table (reading table a s) c) t ≡ reading table a z)
      go None e F = absurd (dead t (subst (λ m. is_alive (run table m t) ≡ true) e h))
      go (Some z) e F = (let y = F z (subst (λ m. is_alive (run table m t) ≡ true) e h) in (y.0, ap (λ (m : Munch K). run table m t) e ∙ y.1))

  -- a viable text has a state
  pub state_of : (t : List ℕ) → IsViable table t → (s : S) × Stands table a s t
  state_of t v =
      let y = stands_from a.first t (subst (λ m. is_alive (run table m t) ≡ true) (sym (ap (run table start) r.begins)) (viable_to table r.none_empty t v)) in
      (y.0, record { reads = sym y.1 ∙ ap (λ (m : Munch K). run table m t) (ap (run table start) r.begins) })

  -- ---- what follows at a state

  -- whether more text makes a snippet depends on the state alone
  pub whole_after : (s : S) (t more : List ℕ) → Stands table a s t → is_snippet table (t ++ more) ≡ is_whole (run table (reading table a s) more)
  whole_after s t more h = ap is_whole (run-append table start t more ∙ ap (λ (m : Munch K). run table m more) (sym h.reads))

  -- a completion of each state completes each viable text
  pub completes : (completion : S → List ℕ) → ((s : S) → is_whole (run table (reading table a s) (completion s)) ≡ true)
      → (t : List ℕ) → IsViable table t → (s : S) × Stands table a s t × IsSnippet table (t ++ completion s)
  completes completion h t v =
      let y = state_of t v in
      (y.0, y.1, snippet_from table r.none_empty (t ++ completion y.0) (whole_after y.0 t (completion y.0) y.1 ∙ h y.0))
