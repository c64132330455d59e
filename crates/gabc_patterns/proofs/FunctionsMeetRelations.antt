-- The functions compute what the relations say.
use Rattle.std.proofs.Common.{◌≡◌, ℕ, List, [], ◌∷◌, ◌++◌, Bool, true, false, cond, refl, sym, ◌∙◌, subst, append_assoc, append-nil, inl, inr, Decides}
use Rattle.gabc_patterns.specs.LongestItems.{Table, Longest, IsSnippet, IsViable}
use Rattle.gabc_patterns.specs.Kept.{Keeps, Trims, IsKeptText}
use Rattle.gabc_patterns.specs.Derivative.{rows_end, is_snippet, is_viable}
use Rattle.gabc_patterns.specs.Function.{more_kept, keep_from, keep, trim_from, trim, kept_text}
use Rattle.gabc_patterns.proofs.LongestMunchByCharacter.{viable_to, viable_from, snippet_to, snippet_from}
use Rattle.gabc_patterns.proofs.LongestPrefixIsOne.{longest_all, longest_push}
use Rattle.gabc_patterns.proofs.KeptTextIsKeptAgain.{one_keep, one_trim, one_kept_text, trims_all}

-- what is kept of two texts, one after the other
pub keep_append : {K : Type 0} (table : Table K) (kept s t : List ℕ) → keep_from table kept (s ++ t) ≡ keep_from table (keep_from table kept s) t
keep_append table kept [] t = refl
keep_append table kept (c ∷ s) t = keep_append table (cond (is_viable table (kept ++ c ∷ [])) (kept ++ c ∷ []) kept) s t

-- what is kept of a text after another is kept after what was kept
pub keep_more : {K : Type 0} (table : Table K) (kept t : List ℕ) → keep_from table kept t ≡ kept ++ more_kept table kept t
keep_more table kept [] = sym (append-nil kept)
keep_more {K} table kept (c ∷ t) = go (is_viable table (kept ++ c ∷ [])) (λ k. keep_more table k t)
  where
    go : (b : Bool) → ((k : List ℕ) → keep_from table k t ≡ k ++ more_kept table k t)
        → keep_from table (cond b (kept ++ c ∷ []) kept) t ≡ kept ++ (elim b as (λ _. List ℕ) [ true ↦ c ∷ more_kept table (kept ++ c ∷ []) t | false ↦ more_kept table kept t ])
    go true F = F (kept ++ c ∷ []) ∙ append_assoc kept (c ∷ []) (more_kept table (kept ++ c ∷ []) t)
    go false F = F kept

-- what is kept of a prefix is a prefix of what is kept
pub keep_prefix : {K : Type 0} (table : Table K) (s t : List ℕ) → keep table (s ++ t) ≡ keep table s ++ more_kept table (keep table s) t
keep_prefix table s t = keep_append table [] s t ∙ keep_more table (keep table s) t

module _ {K : Type 0} (table : Table K) (none_empty : rows_end table ≡ false) where
  -- the test of a viable text
  pub viable_decides : (t : List ℕ) → Decides (is_viable table t) (IsViable table t)
  viable_decides t = (viable_from table none_empty t, viable_to table none_empty t)

  -- the test of a snippet
  pub snippet_decides : (t : List ℕ) → Decides (is_snippet table t) (IsSnippet table t)
  snippet_decides t = (snippet_from table none_empty t, snippet_to table none_empty t)

  -- a text that tests as not viable
  pub not_viable : (t : List ℕ) → is_viable table t ≡ false → ¬ IsViable table t
  not_viable t e v = let f = viable_to table none_empty t v in absurd (cc)

  -- a text that tests as no snippet
  pub no_snippet : (t : List ℕ) → is_snippet table t ≡ false → ¬ IsSnippet table t
  no_snippet t e s = let f = snippet_to table none_empty t s in absurd (cc)

  -- the function keeps as the relation says
  pub keep_keeps : (kept t : List ℕ) → Keeps table kept t (keep_from table kept t)
  keep_keeps kept [] = refl
  keep_keeps kept (c ∷ t) = go (is_viable table (kept ++ c ∷ [])) refl (λ k. keep_keeps k t)
    where
      go : (b : Bool) → is_viable table (kept ++ c ∷ []) ≡ b → ((k : List ℕ) → Keeps table k t (keep_from table k t))
          → Keeps table kept (c ∷ t) (keep_from table (cond b (kept ++ c ∷ []) kept) t)
      go true e F = inl (viable_from table none_empty (kept ++ c ∷ []) e, F (kept ++ c ∷ []))
      go false e F = inr (not_viable (kept ++ c ∷ []) e, F kept)

  -- the function trims as the relation says
  pub trim_from_trims : (best rest t : List ℕ) → Longest (IsSnippet table) best rest → Trims table ((best ++ rest) ++ t) (trim_from table best (best ++ rest) t)
  trim_from_trims best rest [] l = record { rest = rest; cut = append-nil (best ++ rest); longest = l }
  trim_from_trims best rest (c ∷ t) l =
      subst (λ u. Trims table u (trim_from table (cond (is_snippet table ((best ++ rest) ++ c ∷ [])) ((best ++ rest) ++ c ∷ []) best) ((best ++ rest) ++ c ∷ []) t))
      (append_assoc (best ++ rest) (c ∷ []) t)
      (go (is_snippet table ((best ++ rest) ++ c ∷ [])) refl (λ b r. trim_from_trims b r t))
    where
      go : (b : Bool) → is_snippet table ((best ++ rest) ++ c ∷ []) ≡ b
          → ((f r : List ℕ) → Longest (IsSnippet table) f r → Trims table ((f ++ r) ++ t) (trim_from table f (f ++ r) t))
          → Trims table (((best ++ rest) ++ c ∷ []) ++ t) (trim_from table (cond b ((best ++ rest) ++ c ∷ []) best) ((best ++ rest) ++ c ∷ []) t)
      go true e F =
          let z : List ℕ = (best ++ rest) ++ c ∷ [] in
          subst (λ u. Trims table (u ++ t) (trim_from table z u t)) (append-nil z) (F z [] (longest_all (IsSnippet table) z (snippet_from table none_empty z e)))
      go false e F =
          let a = append_assoc best rest (c ∷ []) in
          subst (λ u. Trims table (u ++ t) (trim_from table best u t)) (sym a)
          (F best (rest ++ c ∷ []) (longest_push (IsSnippet table) best rest c l
          (λ s. no_snippet ((best ++ rest) ++ c ∷ []) e (subst (IsSnippet table) (sym a) s))))

  -- the longest prefix that is a snippet, as a function
  pub trim_trims : (t : List ℕ) → Trims table t (trim table t)
  trim_trims t = trim_from_trims [] [] t (longest_all (IsSnippet table) [] ([], refl))

  -- the kept text, as a function
  pub kept_text_is : (t : List ℕ) → IsKeptText table t (kept_text table t)
  kept_text_is t = record { all = keep table t; keeps = keep_keeps [] t; trims = trim_trims (keep table t) }

  -- the relation says what the function computes
  pub keeps_is : (kept t all : List ℕ) → Keeps table kept t all → all ≡ keep_from table kept t
  keeps_is kept t all h = one_keep table kept t all (keep_from table kept t) h (keep_keeps kept t)

  -- the longest prefix is the one that the function gives
  pub trims_is : (t prefix : List ℕ) → Trims table t prefix → prefix ≡ trim table t
  trims_is t prefix h = one_trim table t prefix (trim table t) h (trim_trims t)

  -- the kept text is the one that the function gives
  pub is_kept_text_is : (t kept : List ℕ) → IsKeptText table t kept → kept ≡ kept_text table t
  is_kept_text_is t kept h = one_kept_text table t kept (kept_text table t) h (kept_text_is t)

  -- a snippet is trimmed to itself
  pub trim_snippet : (t : List ℕ) → IsSnippet table t → trim table t ≡ t
  trim_snippet t s = sym (trims_is t t (trims_all table t s))
