use Rattle.std.proofs.Common.{◌≡◌, true, List, [], ◌∷◌, Option, Result, option_to_list, ap, sym, subst, ◌∙◌, append-nil, arith}
use Rattle.gabc_headers.specs.declared.head_event.HeadEvent.{HeadEvent as HeadItem}
use Rattle.gabc_headers.specs.witness.HeadEvents.{HeaderStageState, events_of_end}
use Rattle.gabc_places.specs.BoundedList.{BoundedList}
use Rattle.gabc_places.specs.DecoderMachine.{DecoderState}
use Rattle.gabc_places.specs.declared.code.Fault.{Fault}
use Rattle.gabc_places.specs.declared.place.Char.{Char}
use Rattle.gabc_places.specs.witness.DecoderEvents as decoder
use Rattle.gregorio.specs.Engine.{NothingWaits, fault_of}
use Rattle.gregorio.specs.Streams.{after_bytes, ended_with}
use Rattle.gregorio.specs.declared.source_ending.SourceEnding.TheVariants.{Whole}
use Rattle.gregorio.specs.witness.Engine.{EngineState, streams_left}
use Rattle.gregorio.specs.machine.Engine.{GoTogether, IsNoCharacter}
use Rattle.gregorio.specs.machine.ScoreWriter.{ScoreWriterState, FitsEnd, FitsEvents}
use Rattle.gregorio.proofs.pieces.HeadersAreRead.{given_of_end}
use Rattle.gregorio.proofs.pieces.RoomIsLeft.{leaves_room, room_before_end}
use Rattle.gregorio.proofs.pieces.InputsAreEnded.{ended_as, ends_given, ends_items, ends_now, no_character_at_end, over_is_engine, over_says, over_stage}
use Rattle.gregorio.proofs.pieces.BytesAreTaken.{over_already, still_reserved}
use Rattle.gregorio.proofs.pieces.EventsAreWritten.{passes_all, steady_all, steady_both, writes_all}
use Rattle.gregorio.proofs.pieces.SavedInHeaders.{shown, still_runs}
use Rattle.gregorio.proofs.pieces.WriterKeepsPaceWithScore.{force_past_all}
use Rattle.gregorio.proofs.pieces.PiecesAreTaken.{may_read}
use Rattle.gregorio.proofs.engine.Engine.end.Goals as goal

pub read_decoded-requires : goal.read_decoded-requires
read_decoded-requires c = grind (arith, may_read, leaves_room)

room_at_end : (d : DecoderState) (h : HeaderStageState) (w : ScoreWriterState) (item : Option (Result Char Fault)) (events : List HeadItem) → decoder.events_left d [] ≡ option_to_list item ∷ []
    → (IsNoCharacter (option_to_list item) → FitsEnd w) → events ≡ events_of_end h.limits h.progress → FitsEvents w true events
room_at_end d h w item events at_end room is = subst (λ (xs : List HeadItem). FitsEvents w true xs) (sym is) (room (no_character_at_end d item at_end) h.limits h.progress)

pub pass_on-requires-clause-room : goal.pass_on-requires-clause-room
pass_on-requires-clause-room c = grind (arith, given_of_end, room_before_end, room_at_end)

pub finish-requires-2 : goal.finish-requires-2
finish-requires-2 c =
    let w = c.read_decoded.new.writer in
    let h = c.read_decoded.new.heads in
    let from_heads = given_of_end h c.read_decoded.new.from_heads c.clear.new.self c.finish.new.out c.slice.result.now c.clear.ensures c.finish.ensures.ends c.slice.ensures in
    record {
      room = c.pass_on.ensures.room true [] (subst (λ (events : List HeadItem). FitsEvents w true events) (sym (append-nil c.slice.result.now))
          (room_at_end c.self.inside.decoder h w c.end-item.result c.slice.result.now c.end-item.ensures.item c.read_decoded.ensures.reads.room from_heads));
    }

pub returns-in-Some : goal.returns-in-Some
returns-in-Some c = over_already c.args.self.now Whole c.status.result c.requires.waits (grind arith) (λ bytes ending.
    subst (λ (s : EngineState). streams_left s ending bytes ≡ ended_with c.status.result (fault_of s)) c.self.view_is
    (over_says (shown c.self.inside.decoder c.self.inside.heads c.self.inside.writer) c.in-Some.ended c.status.result c.in-Some.ensures.over c.status.ensures bytes ending))

pub invariant_of-self : goal.invariant_of-self
invariant_of-self c =
    let w = c.self.inside.writer in
    let mid = c.read_decoded.new.writer in
    let new = c.finish-2.new.self in
    let read = c.read_decoded.ensures.reads in
    let over = c.finish-2.ensures.over in
    let events = c.slice.result.now in
    let takes = c.pass_on.ensures.takes in
    let steady = steady_both mid c.pass_on.new.writer new (steady_all events _ mid c.pass_on.new.writer takes) c.finish-2.ensures.steady in
    let given = ap (λ (r : BoundedList HeadItem). r.limit) c.finish.ensures.ends.out in
    let cleared = ap (λ (r : BoundedList HeadItem). r.limit) c.clear.ensures in
    over_is_engine c.end-item.new.self c.finish.new.self c.finish.new.out new c.finish-2.result (omega (arith, c.self.invariant.few, c.read_decoded.ensures.few, given, cleared))
    (subst (λ (s : HeaderStageState). GoTogether s new) (sym c.finish.ensures.state) (over_stage c.read_decoded.new.heads mid new c.finish-2.result read.together steady over))
    (still_reserved w new (steady_both w mid new read.steady steady) c.self.invariant.reserved)
    (c.finish-2.ensures.force (force_past_all events mid c.pass_on.new.writer (passes_all events _ mid c.pass_on.new.writer takes) (read.step.force c.self.invariant.step.force))) over

pub returns : goal.returns
returns c =
    let d = c.self.inside.decoder in
    let h = c.self.inside.heads in
    let w = c.self.inside.writer in
    let now = c.read_decoded.new.heads in
    let mid = c.read_decoded.new.writer in
    let new = c.finish-2.new.self in
    let how = c.finish-2.result in
    let none : NothingWaits (shown d h w) = subst NothingWaits (sym c.self.view_is) c.requires.waits in
    let from_heads = given_of_end now c.read_decoded.new.from_heads c.clear.new.self c.finish.new.out c.slice.result.now c.clear.ensures c.finish.ensures.ends c.slice.ensures in
    let writes = writes_all c.slice.result.now c.finish.new.self.book mid c.pass_on.new.writer c.pass_on.ensures.takes in
    let ends = ends_items d h now w mid new how (option_to_list c.end-item.result) c.end-item.ensures.item c.read_decoded.ensures.reads.writes
    (ends_given now mid c.pass_on.new.writer new how c.slice.result.now c.finish.new.self.book from_heads writes c.finish-2.ensures.writes) in
    record {
      law = ap (λ (s : EngineState). streams_left s Whole []) (sym c.self.view_is)
          ∙ (ends_now _ w new how ends none.output none.messages
          ∙ ap (after_bytes new.writer.out.items new.writer.messages.items) (ended_as how c.status-2.result new.writer.written.ended c.status-2.ensures c.finish-2.ensures.over.ended));
      last = over_says (shown c.end-item.new.self c.finish.new.self new) how c.status-2.result c.finish-2.ensures.over c.status-2.ensures;
      over = grind arith;
      job = grind (arith, steady_both, steady_all, still_runs);
      again = grind arith;
      hasher = grind arith;
    }
