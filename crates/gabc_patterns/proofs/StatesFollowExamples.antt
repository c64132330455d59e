-- What follows at a state is what follows after its example.
use Rattle.std.proofs.Common.{◌≡◌, ℕ, List, [], ◌∷◌, ◌++◌, Bool, true, false, refl, sym, ap, ◌∙◌, Option, Some, None}
use Rattle.gabc_patterns.specs.LongestItems.{Table}
use Rattle.gabc_patterns.specs.Derivative.{is_alive, is_viable}
use Rattle.gabc_patterns.specs.Function.{more_kept}
use Rattle.gabc_patterns.proofs.AutomatonsByTests.{Automaton, reading_of, ReadsSnippets}
use Rattle.gabc_patterns.proofs.StatesAfterTexts.{Stands, stands_next, after_char}

-- The characters of t that the automaton keeps from that state on.
abbrev pub kept_at : {K S C : Type 0} → Automaton K S C → S → List ℕ → List ℕ
kept_at a s [] = []
kept_at a s (c ∷ t) = elim (a.next s (a.class_of c)) as (λ _. List ℕ) [ None ↦ kept_at a s t | Some z ↦ c ∷ kept_at a z t ]

module _ {K S C : Type 0} (table : Table K) (a : Automaton K S C) (r : ReadsSnippets table a) where
  -- an example stands at its state
  pub stands_example : (s : S) → Stands table a s (a.example s)
  stands_example s = record { reads = refl }

  -- a text more is viable just where there is a next state
  pub viable_next : (s : S) (t : List ℕ) (c : ℕ) → Stands table a s t → is_viable table (t ++ c ∷ []) ≡ is_alive (reading_of table a (a.next s (a.class_of c)))
  viable_next s t c h = ap is_alive (after_char table a r s t c (a.next s (a.class_of c)) h refl)

  -- what the automaton keeps from a state on is what is kept
  pub kept_at_is : (s : S) (kept t : List ℕ) → Stands table a s kept → more_kept table kept t ≡ kept_at a s t
  kept_at_is s kept [] h = refl
  kept_at_is s kept (c ∷ t) h =
      go (is_viable table (kept ++ c ∷ [])) (a.next s (a.class_of c)) refl (viable_next s kept c h) (kept_at_is s kept t h) (λ z. kept_at_is z (kept ++ c ∷ []) t)
    where
      go : (b : Bool) (o : Option S) → a.next s (a.class_of c) ≡ o → b ≡ is_alive (reading_of table a (a.next s (a.class_of c))) → more_kept table kept t ≡ kept_at a s t
          → ((z : S) → Stands table a z (kept ++ c ∷ []) → more_kept table (kept ++ c ∷ []) t ≡ kept_at a z t)
          → (elim b as (λ _. List ℕ) [ true ↦ c ∷ more_kept table (kept ++ c ∷ []) t | false ↦ more_kept table kept t ])
          ≡ (elim o as (λ _. List ℕ) [ None ↦ kept_at a s t | Some z ↦ c ∷ kept_at a z t ])
      go true None e f here later = absurd (let g : true ≡ false = f ∙ ap (λ x. is_alive (reading_of table a x)) e in cc)
      go false None e f here later = here
      go true (Some z) e f here later = ap (λ (u : List ℕ). c ∷ u) (later z (stands_next table a r s z kept c h e))
      go false (Some z) e f here later = absurd (let g : false ≡ true = f ∙ (ap (λ x. is_alive (reading_of table a x)) e ∙ r.alive z) in cc)

  -- so what is kept after a text is what is kept after the example of its state
  pub kept_after_example : (s : S) (kept t : List ℕ) → Stands table a s kept → more_kept table kept t ≡ more_kept table (a.example s) t
  kept_after_example s kept t h = kept_at_is s kept t h ∙ sym (kept_at_is s (a.example s) t (stands_example s))
