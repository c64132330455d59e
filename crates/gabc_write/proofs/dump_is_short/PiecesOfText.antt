-- The pieces into which a text is read are not empty, and have no more bytes than the text.
use Rattle.std.proofs.Common.{◌≡◌, ℕ, zero, suc, List, [], ◌∷◌, Option, Some, None, refl, sym, ap, ◌∙◌, subst, length, take, drop, ◌≤◌, ◌+◌, arith, length-append, length-take, take-append-drop}
use Rattle.std.proofs.lemmas.Str.{encodes-append, length-le-encodes}
use lib.Utf8.{encodes}
use Rattle.gabc_patterns.specs.LongestItems.{Table}
use Rattle.gabc_patterns.specs.Reads.{kind_of, longest, parts_within}
use Rattle.gabc_patterns.proofs.ItemSoFar.{IsBest}
use Rattle.gabc_patterns.proofs.ItemsBy.{longest_best}

-- how many bytes the pieces have
abbrev pub bytes_in : {K : Type 0} → List (K × List ℕ) → ℕ
bytes_in [] = 0
bytes_in (i ∷ is) = length (encodes i.1) + bytes_in is

-- each has a byte
abbrev pub HaveBytes : {K : Type 0} → List (K × List ℕ) → Type 0
HaveBytes [] = Unit {0}
HaveBytes (i ∷ is) = (1 ≤ length (encodes i.1)) × HaveBytes is

module _ {K : Type 0} (table : Table K) where
  -- so of the pieces of a text
  pub pieces_have : (n : ℕ) (t : List ℕ) → HaveBytes (parts_within (kind_of table) n t) × (bytes_in (parts_within (kind_of table) n t) ≤ length (encodes t))
  pieces_have zero t = (tt, omega arith)
  pieces_have (suc n) t = go (longest (kind_of table) (length t) t) refl (λ u. pieces_have n u)
    where
      go : (o : Option (K × ℕ)) → longest (kind_of table) (length t) t ≡ o
          → ((u : List ℕ) → HaveBytes (parts_within (kind_of table) n u) × (bytes_in (parts_within (kind_of table) n u) ≤ length (encodes u)))
          → (let is = elim o as (λ _. List (K × List ℕ)) [ None ↦ [] | Some i ↦ (i.0, take i.1 t) ∷ parts_within (kind_of table) n (drop i.1 t) ] in HaveBytes is × (bytes_in is ≤ length (encodes t)))
      go None e later = (tt, omega arith)
      go (Some (k, m)) e later =
          let best : IsBest table t (length t) (Some (k, m)) = subst (IsBest table t (length t)) e (longest_best table (length t) t) in
          let next = later (drop m t) in
          let count = next.1 in
          let cut = ap (length {A = ℕ}) (ap encodes (sym (take-append-drop m t)) ∙ encodes-append (take m t) (drop m t)) in
          let first : 1 ≤ length (encodes (take m t)) = omega (arith, length-le-encodes (take m t), length-take m t) in
          ((first, next.0), omega (arith, cut, length-append (encodes (take m t)) (encodes (drop m t)), count))
