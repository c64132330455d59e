use Rattle.std.proofs.Common.{◌≡◌, ◌++◌, ◌∷◌, [], List, ℕ, Option, refl, ap, ◌∙◌}
use Rattle.gabc_places.specs.declared.code.Fault.{Fault}
use Rattle.gabc_nodes.specs.Node.{leaf}
use Rattle.gabc_nodes.specs.declared.kind.Kind.TheVariants.{File}
use Rattle.gabc_nodes.specs.declared.node.Node.{Node}
use Rattle.gabc_tree.specs.Placed.{placed_from, reach_after}
use Rattle.gabc_tree.specs.SyllableNodes.{around}
use Rattle.gabc_tree.specs.Tree.{before_all, rest_of}
use Rattle.gabc_tree.specs.machine.Placing.{PlacingState}
use Rattle.gabc_tree.proofs.tree.tree_of_parts.Goals as goal

-- the nodes after that of the file
abbrev inside : List Node → List Node → ℕ → ℕ → Option Fault → List Node
inside out kept end len fault = placed_from (before_all out) kept ++ rest_of (reach_after (before_all out) kept) end len fault

all_of : (file : Node) (out kept made : List Node) (p q : PlacingState) (nodes items : List Node) (last end len : ℕ) (fault : Option Fault)
    → p ≡ record { nodes = file ∷ []; reach = before_all out }
    → q ≡ record { nodes = p.nodes ++ placed_from p.reach made; reach = reach_after p.reach made }
    → nodes ≡ q.nodes ++ rest_of q.reach last len fault → items ≡ nodes → made ≡ kept → last ≡ end → items ≡ file ∷ inside out kept end len fault
all_of file out kept made p q nodes items last end len fault p_is q_is nodes_is items_is made_is last_is =
    items_is
    ∙ nodes_is
    ∙ ap (λ (v : PlacingState). v.nodes ++ rest_of v.reach last len fault) q_is
    ∙ ap (λ (v : PlacingState). (v.nodes ++ placed_from v.reach made) ++ rest_of (reach_after v.reach made) last len fault) p_is
    ∙ ap (λ (v : List Node). file ∷ inside out v last len fault) made_is
    ∙ ap (λ (n : ℕ). file ∷ inside out kept n len fault) last_is

pub returns : goal.returns
returns c =
    let kept = c.args.body.now.nodes in
    let end = c.args.body.now.base in
    let after = inside c.args.out.now kept end c.args.len c.args.fault in
    c.hold.ensures [] c.leaf-file.result after
    (all_of c.leaf-file.result c.args.out.now kept c.nodes-kept.result.now c.in_ok-placing.placing c.place_all.new.self c.finish.new.self.nodes c.give.new.out.items c.base.result end c.args.len c.args.fault
    c.in_ok-placing.ensures c.in_ok-place_all.ensures c.in_ok-finish.ensures c.give.ensures c.nodes-kept.ensures c.base.ensures)
    refl
    ∙ ap (λ (n : Node). around n after) (c.leaf-file.ensures ∙ ap (λ (len : ℕ). leaf File 0 0 len) c.offset.ensures)
