use Rattle.std.proofs.Common.{refl, arith}
use Rattle.std.proofs.lemmas.Str.{IsCharBoundary-start}
use Rattle.gabc_tree.proofs.not_kept_nodes.KeptBytes.{boundary_after, byte_passed}
use Rattle.gabc_tree.proofs.not_kept.pass_kept.Goals as goal

pub loop-byte-init : goal.loop-byte-init
loop-byte-init c = record { at = refl; boundary = IsCharBoundary-start c.args.text.now c.utf8.text; nodes = refl; bytes = omega arith }

pub loop-byte-preserved : goal.loop-byte-preserved
loop-byte-preserved c = grind (arith, boundary_after, byte_passed)
