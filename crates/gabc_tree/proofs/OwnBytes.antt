-- What belongs to nodes that lie in one another joins to the bytes between.
use Rattle.std.proofs.Common.{◌≡◌, ℕ, List, [], ◌∷◌, ◌++◌, length, refl, sym, ap, ◌∙◌, subst, arith, append_assoc, append-nil}
use Rattle.std.specs.Prelude.{drop}
use Rattle.std.specs.List.{slice_range, concat}
use Rattle.std.proofs.lemmas.List.Folds.{drop_split}
use Rattle.gabc_nodes.specs.declared.node.Node.{Node}
use Rattle.gabc_tree.specs.Nested as nested
use Rattle.gabc_tree.specs.Nested.{AreNested, AreOneTree}
use Rattle.gabc_tree.specs.Own.{AreOwn, over, node, HaveAllBytes}

concat_both : (xs ys : List (List ℕ)) → concat (xs ++ ys) ≡ concat xs ++ concat ys
concat_both [] ys = refl
concat_both (x ∷ xs) ys = ap (λ (v : List ℕ). x ++ v) (concat_both xs ys) ∙ sym (append_assoc x (concat xs) (concat ys))

one_more : (d s b own more m e t : List ℕ) → d ≡ s ++ b → b ≡ own ++ e → e ≡ more ++ t → m ≡ own ++ more → d ≡ (s ++ m) ++ t
one_more d s b own more m e t p q r u =
    p ∙ (ap (λ (v : List ℕ). s ++ v) (q ∙ (ap (λ (v : List ℕ). own ++ v) r ∙ (sym (append_assoc own more t) ∙ ap (λ (v : List ℕ). v ++ t) (sym u)))) ∙ sym (append_assoc s m t))

none_left : (xs : List ℕ) → drop (length xs) xs ≡ []
none_left [] = refl
none_left (x ∷ xs) = none_left xs

joins : (bytes : List ℕ) (from to : ℕ) (nodes : List Node) (own : List (List ℕ)) → AreOwn bytes from to nodes own → drop from bytes ≡ concat own ++ drop to bytes
joins bytes from to nodes own (over le) = drop_split bytes from to le ∙ ap (λ (v : List ℕ). v ++ drop to bytes) (sym (append-nil (slice_range bytes from to)))
joins bytes from to nodes own (node {n = n} {inside = inside} {after = after} {own = first} {more = more} le count in_it after_it) =
    one_more (drop from bytes) (slice_range bytes from n.begin) (drop n.begin bytes) (concat first) (concat more) (concat (first ++ more)) (drop n.end bytes) (drop to bytes)
    (drop_split bytes from n.begin le) (joins bytes n.begin n.end inside first in_it) (joins bytes n.end to after more after_it) (concat_both first more)

-- nodes that lie in one another have own bytes
record HaveOwn (bytes : List ℕ) (from to : ℕ) (nodes : List Node) : Type 0 where
  own : List (List ℕ)
  are : AreOwn bytes from to nodes own

have_own : (bytes : List ℕ) (from to : ℕ) (nodes : List Node) → AreNested from to nodes → HaveOwn bytes from to nodes
have_own bytes from to nodes (nested.over le) = record { own = slice_range bytes from to ∷ []; are = over le }
have_own bytes from to nodes (nested.node {n = n} {inside = inside} {after = after} le count in_it after_it) =
    let first = have_own bytes n.begin n.end inside in_it in
    let more = have_own bytes n.end to after after_it in
    record { own = slice_range bytes from n.begin ∷ first.own ++ more.own; are = node {n = n} {inside = inside} {after = after} le count first.are more.are }

whole_nested : (len : ℕ) (nodes : List Node) → AreOneTree len nodes → AreNested 0 len nodes
whole_nested len nodes t =
    let begin_is = t.begin_is in
    let end_is = t.end_is in
    subst (AreNested 0 len) (ap (λ (ns : List Node). t.file ∷ ns) (append-nil t.inside) ∙ sym t.nodes_are)
    (nested.node {n = t.file} {inside = t.inside} {after = []} (omega arith) (sym t.inner_is)
    (subst (λ (x : ℕ). AreNested x t.file.end t.inside) (sym begin_is) (subst (λ (x : ℕ). AreNested 0 x t.inside) (sym end_is) t.nested))
    (nested.over (omega (arith, end_is))))

pub all_bytes : (bytes : List ℕ) (nodes : List Node) → AreOneTree (length bytes) nodes → HaveAllBytes bytes nodes
all_bytes bytes nodes t =
    let h = have_own bytes 0 (length bytes) nodes (whole_nested (length bytes) nodes t) in
    record {
      own = h.own;
      are = h.are;
      join = sym (joins bytes 0 (length bytes) nodes h.own h.are ∙ (ap (λ (v : List ℕ). concat h.own ++ v) (none_left bytes) ∙ append-nil (concat h.own)));
    }
