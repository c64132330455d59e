use Rattle.std.proofs.Common.{◌≡◌, [], ap, sym, subst, ◌∙◌, arith}
use Rattle.gregorio.specs.declared.source_ending.SourceEnding.TheVariants.{Broken}
use Rattle.gregorio.specs.Engine.{NothingWaits, fault_of}
use Rattle.gregorio.specs.Streams.{after_bytes, ended_with}
use Rattle.gregorio.specs.witness.Engine.{EngineState, streams_left}
use Rattle.gregorio.proofs.pieces.InputsAreEnded.{ended_as, ends_last, ends_now, over_is_engine, over_says, over_together}
use Rattle.gregorio.proofs.pieces.RoomIsLeft.{leaves_room, room_for_last}
use Rattle.gregorio.proofs.pieces.BytesAreTaken.{over_already, still_reserved}
use Rattle.gregorio.proofs.pieces.SavedInHeaders.{shown, still_runs}
use Rattle.gregorio.proofs.pieces.PiecesAreTaken.{may_read}
use Rattle.gregorio.proofs.engine.Engine.broken.Goals as goal

pub finish-requires : goal.finish-requires
finish-requires c = grind (arith, may_read, leaves_room, room_for_last)

pub returns-in-Some : goal.returns-in-Some
returns-in-Some c = over_already c.args.self.now Broken c.status.result c.requires.waits (grind arith) (λ bytes ending.
    subst (λ (s : EngineState). streams_left s ending bytes ≡ ended_with c.status.result (fault_of s)) c.self.view_is
    (over_says (shown c.self.inside.decoder c.self.inside.heads c.self.inside.writer) c.in-Some.ended c.status.result c.in-Some.ensures.over c.status.ensures bytes ending))

pub invariant_of-self : goal.invariant_of-self
invariant_of-self c =
    let h = c.self.inside.heads in
    let w = c.self.inside.writer in
    let new = c.finish.new.self in
    let f = c.finish.ensures in
    over_is_engine c.self.inside.decoder h c.self.inside.from_heads new c.finish.result c.self.invariant.few (over_together h w new c.finish.result c.self.invariant.together f.steady f.over)
    (still_reserved w new f.steady c.self.invariant.reserved) (f.force c.self.invariant.step.force) f.over

pub returns : goal.returns
returns c =
    let w = c.self.inside.writer in
    let new = c.finish.new.self in
    let how = c.finish.result in
    let none : NothingWaits (shown c.self.inside.decoder c.self.inside.heads w) = subst NothingWaits (sym c.self.view_is) c.requires.waits in
    record {
      law = ap (λ (s : EngineState). streams_left s Broken []) (sym c.self.view_is)
          ∙ (ends_now _ w new how (ends_last w new how c.self.inside.heads.book c.finish.ensures.writes) none.output none.messages
          ∙ ap (after_bytes new.writer.out.items new.writer.messages.items) (ended_as how c.status-2.result new.writer.written.ended c.status-2.ensures c.finish.ensures.over.ended));
      last = over_says (shown c.self.inside.decoder c.self.inside.heads new) how c.status-2.result c.finish.ensures.over c.status-2.ensures;
      over = grind arith;
      job = grind (arith, still_runs);
      again = grind arith;
      hasher = grind arith;
    }
