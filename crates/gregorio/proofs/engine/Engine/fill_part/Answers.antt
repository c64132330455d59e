use Rattle.std.proofs.Common.{refl, inl, inr, arith}
use Rattle.gregorio.proofs.pieces.PiecesAreTaken.{byte_taken_from, none_taken, taken_further}
use Rattle.gregorio.proofs.engine.Engine.fill_part.Goals as goal

pub loop-count-init : goal.loop-count-init
loop-count-init c = record { takes = none_taken c.args.self.now c.args.part.now c.requires.running; begun = inr refl }

pub loop-count-preserved : goal.loop-count-preserved
loop-count-preserved c =
    let next = c.take_next-count in
    record {
      takes = taken_further c.args.self.now c.loop-count.self next.new.self c.args.part.now c.loop-count.count next.result c.loop-count.invariant.takes next.ensures.some next.ensures.takes;
      begun = inl (omega (arith, next.ensures.some));
    }

pub returns-then-is_empty-clause-takes : goal.returns-then-is_empty-clause-takes
returns-then-is_empty-clause-takes c = byte_taken_from c.args.self.now c.take.new.self c.args.part.now 0 c.requires.more c.take.ensures.running c.requires.running c.take.ensures.takes
