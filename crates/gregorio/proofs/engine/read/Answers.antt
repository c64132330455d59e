use Rattle.std.proofs.Common.{◌≡◌, [], ◌∷◌, true, false, Result, refl, sym, subst, ◌∙◌, arith}
use Rattle.gabc_places.specs.declared.code.Fault.{Fault}
use Rattle.gabc_places.specs.declared.place.Char.{Char}
use Rattle.gabc_headers.specs.declared.head_event.HeadEvent.{HeadEvent as HeadItem}
use Rattle.gabc_headers.specs.witness.HeadEvents.{events_of_end}
use Rattle.gregorio.specs.witness.Engine.{is_heads}
use Rattle.gregorio.specs.machine.Engine.{event_of_item}
use Rattle.gregorio.specs.machine.InStep.{TakesEvent}
use Rattle.gregorio.specs.machine.ScoreWriter.{FitsEvents}
use Rattle.gregorio.proofs.pieces.EventsAreWritten.{steady_event, takes_other, writes_event}
use Rattle.gregorio.proofs.pieces.ItemsAreRead.{reads_item}
use Rattle.gregorio.proofs.pieces.PartsStayInStep.{body_in_step}
use Rattle.gregorio.proofs.pieces.WriterKeepsPaceWithScore.{went_on_past}
use Rattle.gregorio.proofs.pieces.ScoreStaysInSync.{body_stays_telling}
use Rattle.gregorio.proofs.pieces.RoomIsLeft.{item_is_few, room_for_few, room_for_stop}
use Rattle.gregorio.proofs.pieces.TextOfHeaders.{body_reads_on}
use Rattle.gregorio.proofs.engine.read.Goals as goal

no_heads : (item : Result Char Fault) → is_heads (event_of_item item) ≡ false
no_heads item = grind arith

pub pass-requires : goal.pass-requires
pass-requires c = grind (arith, room_for_few, item_is_few)

pub returns-clause-reads : goal.returns-clause-reads
returns-clause-reads c =
    let h = c.args.heads.now in
    let w = c.args.writer.now in
    let item = c.args.item in
    let x = event_of_item item in
    let new = c.pass.new.self in
    let headed = sym c.headed.ensures ∙ c.if-not-headed.false in
    let event = subst (λ (y : HeadItem). TakesEvent w.score w.writer y new) c.body_event.ensures c.pass.ensures.takes in
    let takes = takes_other w new x (no_heads item) event in
    let steady = steady_event x [] w new takes in
    let read = reads_item c.nothing_follows_a_stop.ensures h w new item headed c.requires.together (writes_event x [] w new takes) steady in
    let step = body_in_step h w new item headed steady.limits event.passes in
    record {
      together = read.together;
      writes = read.writes;
      step = step;
      reads = body_reads_on h w new item headed (λ running. (went_on_past w.score w.writer.written x new event.passes running).before);
      tells = body_stays_telling h w new item headed step event.passes;
      room = λ none limits progress.
          c.pass.ensures.room true (events_of_end limits progress)
          (subst (λ (y : HeadItem). FitsEvents w true (y ∷ events_of_end limits progress)) (sym c.body_event.ensures) (room_for_stop w item c.requires.room none limits progress));
      steady = steady;
      hasher = refl;
    }
