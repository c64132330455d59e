-- Which texts are snippets, by the state that the automaton is in.
use Rattle.std.proofs.Common.{◌≡◌, ℕ, List, [], ◌∷◌, ◌++◌, IsTrue, ◌↔◌, None, sym, append_assoc, subst, ◌∙◌, arith}
use Rattle.gabc_patterns.specs.LongestItems.{Table, IsSnippet}
use Rattle.gabc_patterns.proofs.AutomatonsByTests.{Automaton, ReadsSnippets}
use Rattle.gabc_patterns.proofs.StatesAfterTexts.{Stands, left_out, whole_at, not_whole_at}

module _ {K S C : Type 0} (table : Table K) (a : Automaton K S C) (r : ReadsSnippets table a) where
  -- where there is no next state, the text is no snippet whatever follows
  pub stuck : (s : S) (done later all : List ℕ) (c : ℕ) → Stands table a s done → a.next s (a.class_of c) ≡ None → all ≡ done ++ c ∷ later → ¬ IsSnippet table all
  stuck s done later all c h n e i = left_out table a r s done c h n (later, subst (IsSnippet table) (e ∙ sym (append_assoc done (c ∷ []) later)) i)

  -- at the end the state reports
  pub emitted_by : (s : S) (done all : List ℕ) → Stands table a s done → done ≡ all → IsTrue (a.whole s) ↔ IsSnippet table all
  emitted_by s done all h e = grind (arith, whole_at, not_whole_at)
