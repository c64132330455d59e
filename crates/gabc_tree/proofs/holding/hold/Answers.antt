use Rattle.std.proofs.Common.{◌≡◌, ◌++◌, ◌∷◌, ◌-◌, ℕ, List, sym, ap, ◌∙◌, length, slice_set, slice_index_or, arith}
use Rattle.std.proofs.lemmas.List.{length-append}
use Rattle.std.proofs.Math.Seq.{set-append_seam, get_or-append_seam}
use Rattle.gabc_nodes.specs.declared.node.Node.{Node}
use Rattle.gabc_tree.specs.SyllableNodes.{around}
use Rattle.gabc_tree.specs.Placed.{offset}
use Rattle.gabc_tree.proofs.holding.hold.Goals as goal

-- how many stand after it
after : (nodes front inside : List Node) (node : Node) (at len : ℕ) → nodes ≡ front ++ node ∷ inside → length front ≡ at → len ≡ length nodes → len - at - 1 ≡ length inside
after nodes front inside node at len is at_is len_is = grind (arith, length-append)

-- the node that is set
held : (nodes front inside : List Node) (node x : Node) (at len inner : ℕ) → nodes ≡ front ++ node ∷ inside → length front ≡ at → x ≡ slice_index_or nodes at x
    → len ≡ length nodes → inner ≡ offset (len - at - 1) → slice_set nodes at (record x { inner = inner }) ≡ front ++ around node inside
held nodes front inside node x at len inner is at_is x_is len_is counts =
    ap (λ (ns : List Node). slice_set ns at (record x { inner = inner })) is
    ∙ (ap (λ (n : ℕ). slice_set (front ++ node ∷ inside) n (record x { inner = inner })) (sym at_is)
    ∙ (set-append_seam front node inside (record x { inner = inner }) ∙ ap (λ (y : Node). front ++ y ∷ inside) set_is))
  where
    x_node : x ≡ node
    x_node = x_is ∙ (ap (λ (ns : List Node). slice_index_or ns at x) is ∙ (ap (λ (n : ℕ). slice_index_or (front ++ node ∷ inside) n x) (sym at_is) ∙ get_or-append_seam front node inside x))

    set_is : record x { inner = inner } ≡ record node { inner = offset (length inside) }
    set_is = ap (λ (y : Node). record y { inner = inner }) x_node ∙ ap (λ (i : ℕ). record node { inner = i }) (counts ∙ ap (λ (n : ℕ). offset n) (after nodes front inside node at len is at_is len_is))

pub returns : goal.returns
returns c front node inside is at = held c.args.nodes.now.items front inside node c.index_mut.result.now c.args.at (length c.as_slice-len.result.now) c.offset.result is at c.index_mut.ensures.value (ap (λ (ns : List Node). length ns) c.as_slice-len.ensures.value) c.offset.ensures
