-- What is kept is one, and is kept again.
use Rattle.std.proofs.Common.{◌≡◌, ℕ, List, [], ◌∷◌, ◌++◌, refl, sym, ◌∙◌, subst, append_assoc, append-nil, inl, inr}
use Rattle.gabc_patterns.specs.LongestItems.{Table, IsSnippet, IsViable}
use Rattle.gabc_patterns.specs.Kept.{Keeps, Trims, IsKeptText}
use Rattle.gabc_patterns.proofs.LongestPrefixIsOne.{one_longest, longest_all}

module _ {K : Type 0} (table : Table K) where
  -- a prefix of a viable text is viable
  pub viable_prefix : (a b : List ℕ) → IsViable table (a ++ b) → IsViable table a
  viable_prefix a b (more, s) = (b ++ more, subst (IsSnippet table) (append_assoc a b more) s)

  -- a snippet is viable
  pub snippet_viable : (t : List ℕ) → IsSnippet table t → IsViable table t
  snippet_viable t s = ([], subst (IsSnippet table) (sym (append-nil t)) s)

  -- no text is viable
  pub nothing_viable : IsViable table []
  nothing_viable = ([], ([], refl))

  -- a viable text keeps itself
  pub keeps_all : (kept t : List ℕ) → IsViable table (kept ++ t) → Keeps table kept t (kept ++ t)
  keeps_all kept [] h = append-nil kept
  keeps_all kept (c ∷ t) h =
      let e : (kept ++ c ∷ []) ++ t ≡ kept ++ c ∷ t = append_assoc kept (c ∷ []) t in
      let v : IsViable table ((kept ++ c ∷ []) ++ t) = subst (IsViable table) (sym e) h in
      inl (viable_prefix (kept ++ c ∷ []) t v, subst (λ u. Keeps table (kept ++ c ∷ []) t u) e (keeps_all (kept ++ c ∷ []) t v))

  -- what is kept of a text is one
  pub one_keep : (kept t a b : List ℕ) → Keeps table kept t a → Keeps table kept t b → a ≡ b
  one_keep kept [] a b h k = h ∙ sym k
  one_keep kept (c ∷ t) a b (inl h) (inl k) = one_keep (kept ++ c ∷ []) t a b h.1 k.1
  one_keep kept (c ∷ t) a b (inl h) (inr k) = absurd (k.0 h.0)
  one_keep kept (c ∷ t) a b (inr h) (inl k) = absurd (h.0 k.0)
  one_keep kept (c ∷ t) a b (inr h) (inr k) = one_keep kept t a b h.1 k.1

  -- what is kept is viable
  pub keeps_viable : (kept t all : List ℕ) → IsViable table kept → Keeps table kept t all → IsViable table all
  keeps_viable kept [] all v h = subst (IsViable table) (sym h) v
  keeps_viable kept (c ∷ t) all v (inl h) = keeps_viable (kept ++ c ∷ []) t all h.0 h.1
  keeps_viable kept (c ∷ t) all v (inr h) = keeps_viable kept t all v h.1

  -- what is kept is kept again
  pub keeps_again : (t all : List ℕ) → Keeps table [] t all → Keeps table [] all all
  keeps_again t all h = keeps_all [] all (keeps_viable [] t all nothing_viable h)

  -- the longest prefix that is a snippet is one
  pub one_trim : (t a b : List ℕ) → Trims table t a → Trims table t b → a ≡ b
  one_trim t a b h k = (one_longest (IsSnippet table) a b h.rest k.rest (sym h.cut ∙ k.cut) h.longest k.longest).0

  -- a snippet is its own longest prefix
  pub trims_all : (t : List ℕ) → IsSnippet table t → Trims table t t
  trims_all t s = record { rest = []; cut = sym (append-nil t); longest = longest_all (IsSnippet table) t s }

  -- the kept text is one
  pub one_kept_text : (t a b : List ℕ) → IsKeptText table t a → IsKeptText table t b → a ≡ b
  one_kept_text t a b h k =
      one_trim k.all a b (subst (λ u. Trims table u a) (one_keep [] t h.all k.all h.keeps k.keeps) h.trims) k.trims

  -- a kept text is a snippet
  pub kept_snippet : (t kept : List ℕ) → IsKeptText table t kept → IsSnippet table kept
  kept_snippet t kept h = h.trims.longest.has

  -- a snippet is its own kept text
  pub snippet_kept : (t : List ℕ) → IsSnippet table t → IsKeptText table t t
  snippet_kept t s = record { all = t; keeps = keeps_all [] t (snippet_viable t s); trims = trims_all t s }

  -- a kept text is its own kept text
  pub kept_again : (t kept : List ℕ) → IsKeptText table t kept → IsKeptText table kept kept
  kept_again t kept h = snippet_kept kept (kept_snippet t kept h)
