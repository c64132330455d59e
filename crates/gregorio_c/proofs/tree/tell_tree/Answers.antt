use Rattle.std.proofs.Common.{ap, length, map, subst, ◌∙◌}
use Rattle.gregorio_c.specs.Answers.{IsPut}
use Rattle.gregorio_c.specs.Tree.{record_of}
use Rattle.gregorio_c.proofs.tree.tell_tree.Goals as goal

pub returns-clause-answered : goal.returns-clause-answered
returns-clause-answered c =
    let is = c.in_ok-tree.ensures in
    record {
      limits = c.default.result;
      usual = c.default.ensures;
      nodes = subst (λ nodes. IsPut (map record_of nodes) c.args.nodes.now c.put_nodes.new.to) (c.nodes.ensures ∙ is) c.put_nodes.ensures;
      counted = ap length (c.nodes-2.ensures ∙ is);
    }
