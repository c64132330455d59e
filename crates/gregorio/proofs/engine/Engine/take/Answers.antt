use Rattle.std.proofs.Common.{option_to_list, subst, [], ◌∷◌, arith}
use Rattle.gregorio.specs.witness.Engine.{EngineState}
use Rattle.gregorio.specs.machine.Taking.{Takes}
use Rattle.gregorio.proofs.pieces.SavedInHeaders.{shown, still_runs}
use Rattle.gregorio.proofs.pieces.BytesAreTaken.{byte_taken, still_reserved}
use Rattle.gregorio.proofs.pieces.PiecesAreTaken.{may_read}
use Rattle.gregorio.proofs.engine.Engine.take.Goals as goal

pub read_decoded-requires : goal.read_decoded-requires
read_decoded-requires c = grind (arith, may_read)

pub returns-clause-takes : goal.returns-clause-takes
returns-clause-takes c =
    let d = c.self.inside.decoder in
    let h = c.self.inside.heads in
    let w = c.self.inside.writer in
    let read = c.read_decoded.ensures.reads in
    let now = shown c.take-item.new.self c.read_decoded.new.heads c.read_decoded.new.writer in
    subst (λ (s : EngineState). Takes s (c.args.byte ∷ []) now) c.self.view_is (record {
      brings = λ more ending.
          byte_taken d c.take-item.new.self h c.read_decoded.new.heads w c.read_decoded.new.writer c.args.byte
          (option_to_list c.take-item.result) c.take-item.ensures.item read.writes more ending;
      format = read.steady.format;
      job = still_runs d c.take-item.new.self h c.read_decoded.new.heads w c.read_decoded.new.writer read.steady;
      hasher = read.hasher;
    })

pub invariant_of-self : goal.invariant_of-self
invariant_of-self c = grind (arith, still_reserved)
