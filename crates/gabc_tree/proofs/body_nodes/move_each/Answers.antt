use Rattle.std.proofs.Common.{◌≡◌, ℕ, ◌+◌, ◌<◌, List, ◌∷◌, ◌++◌, [], length, map, take, drop, get_or, set, sym, ap, ◌∙◌, arith}
use Rattle.std.proofs.lemmas.Grind.{drop_more_same}
use Rattle.std.proofs.lemmas.List.{drop_more, drop-set-lt, map-append, take_more, take_more_set}
use Rattle.gabc_nodes.specs.declared.node.Node.{Node}
use Rattle.gabc_tree.specs.Placed.{moved}
use Rattle.gabc_tree.proofs.body_nodes.move_each.Goals as goal

next_same : (x y : Node) (xs ys : List Node) → x ∷ xs ≡ y ∷ ys → x ≡ y
next_same x y xs ys e = cc

one_more : (base i : ℕ) (ns ms : List Node) (d m : Node) → length ms ≡ length ns → take i ms ≡ map (moved base) (take i ns) → drop i ms ≡ drop i ns → i < length ns
    → m ≡ moved base (get_or ms i d) → take (i + 1) (set ms i m) ≡ map (moved base) (take (i + 1) ns)
one_more base i ns ms d m long done rest lt m_is =
    let lt_ms : i < length ms = omega (arith, long, lt) in
    let same = next_same (get_or ns i d) (get_or ms i d) (drop (i + 1) ns) (drop (i + 1) ms) (sym (drop_more ns i d lt) ∙ sym rest ∙ drop_more ms i d lt_ms) in
    take_more_set ms i m lt_ms
    ∙ ap (λ (v : List Node). v ++ m ∷ []) done
    ∙ ap (λ (x : Node). map (moved base) (take i ns) ++ x ∷ []) (m_is ∙ ap (moved base) (sym same))
    ∙ sym (map-append (moved base) (take i ns) (get_or ns i d ∷ []))
    ∙ ap (map (moved base)) (sym (take_more ns i d lt))

pub loop-node-preserved : goal.loop-node-preserved
loop-node-preserved c =
    let l = c.loop-node in
    record {
      done = one_more c.args.base l.node-index c.args.nodes.now l.nodes _ c.moved.result l.auto.nodes l.invariant.done l.invariant.rest c.loop-node-test.true c.moved.ensures;
      rest = drop-set-lt (l.node-index + 1) l.nodes l.node-index c.moved.result (omega arith) ∙ drop_more_same l.nodes c.args.nodes.now l.node-index l.invariant.rest;
    }
