use Rattle.std.proofs.Common.{arith}
use Rattle.gregorio_c.specs.Tree.{record_of}
use Rattle.gregorio_c.proofs.RecordsArePut.{one_more_is_put}
use Rattle.gregorio_c.proofs.tree.put_nodes.Goals as goal

pub loop-at-preserved : goal.loop-at-preserved
loop-at-preserved c =
    one_more_is_put record_of c.args.nodes.now c.args.to.now c.loop-at.to c.loop-at.at _ c.of.result c.loop-at-test.true (grind arith) c.loop-at.invariant c.of.ensures
