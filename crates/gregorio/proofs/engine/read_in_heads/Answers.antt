use Rattle.std.proofs.Common.{◌≡◌, true, List, [], ◌∷◌, Result, refl, sym, subst, arith}
use Rattle.gabc_places.specs.declared.code.Fault.{Fault}
use Rattle.gabc_places.specs.declared.place.Char.{Char}
use Rattle.gabc_headers.specs.declared.head_event.HeadEvent.{HeadEvent as HeadItem}
use Rattle.gabc_headers.specs.witness.HeadEvents.{HeaderStageState, events_of_end, events_of_input, stage_after}
use Rattle.gregorio.specs.machine.Engine.{ReadsItems}
use Rattle.gregorio.specs.machine.InStep.{TakesEvents}
use Rattle.gregorio.specs.machine.ScoreWriter.{IsShortBook, ScoreWriterState}
use Rattle.gregorio.proofs.pieces.BodiesBegin.{room_of_begun, same_writer, stay_begun, steady_of_begun, together_begun, writes_begun}
use Rattle.gregorio.proofs.pieces.EventsAreWritten.{passes_all, steady_all, unheaded_all, writes_all}
use Rattle.gregorio.proofs.pieces.HeadersAreRead.{GivesInput, given_of_input, room_for_given, room_with_end, short_heads}
use Rattle.gregorio.proofs.pieces.HeadersStayInStep.{headers_end, heads_in_step, stands_in_front}
use Rattle.gregorio.proofs.pieces.ItemsAreRead.{items_by_heads, short_stage_after, together_by_heads}
use Rattle.gregorio.proofs.pieces.ScoreStaysInSync.{heads_stay_telling}
use Rattle.gregorio.proofs.pieces.TextOfHeaders.{heads_read_on, reads_begun}
use Rattle.gregorio.proofs.engine.read_in_heads.Goals as goal

pub pass_on-requires-clause-room : goal.pass_on-requires-clause-room
pass_on-requires-clause-room c =
    let given = given_of_input c.args.heads.now _ c.args.item c.args.from_heads.now c.clear.new.self c.push.new.out c.slice.result.now c.clear.ensures c.push.ensures.events c.slice.ensures in
    room_for_given c.args.heads.now c.args.writer.now c.args.item c.slice.result.now given c.requires.may.room

pub pass_on-requires-clause-book : goal.pass_on-requires-clause-book
pass_on-requires-clause-book c =
    let w = c.args.writer.now in
    subst (λ (s : HeaderStageState). IsShortBook w.score.limits s.book) (sym c.push.ensures.state)
    (short_stage_after c.args.heads.now w c.args.item (short_heads c.canonical_lines_are_within_the_limits.ensures) c.requires.may.together)

-- what is passed on is what the stage of headers gives of the item
takes : (h now : HeaderStageState) (w mid : ScoreWriterState) (item : Result Char Fault) (from_heads : List HeadItem) → GivesInput h item from_heads → now ≡ stage_after h item → TakesEvents w from_heads now.book mid
    → TakesEvents w (events_of_input h.limits h.progress item) (stage_after h item).book mid
takes h now w mid item from_heads given is all = grind arith

pub begin_body-requires : goal.begin_body-requires
begin_body-requires c =
    let h = c.args.heads.now in
    let w = c.args.writer.now in
    let item = c.args.item in
    let mid = c.pass_on.new.writer in
    let may = c.requires.may in
    let given = given_of_input h _ item c.args.from_heads.now c.clear.new.self c.push.new.out c.slice.result.now c.clear.ensures c.push.ensures.events c.slice.ensures in
    let passes = passes_all _ _ w mid (takes h c.push.new.self w mid item c.slice.result.now given c.push.ensures.state c.pass_on.ensures.takes) in
    record { front = λ headed. stands_in_front h.limits h.progress item mid.score (headers_end h w mid item may.together.limits c.requires.heads may.part passes headed) }

pub returns-clause-reads : goal.returns-clause-reads
returns-clause-reads c =
    let h = c.args.heads.now in
    let w = c.args.writer.now in
    let item = c.args.item in
    let mid = c.pass_on.new.writer in
    let new = c.begin_body.new.self in
    let begins = c.begin_body.ensures in
    let may = c.requires.may in
    let unheaded = c.requires.heads in
    let now = stage_after h item in
    let events = events_of_input h.limits h.progress item in
    let given = given_of_input h _ item c.args.from_heads.now c.clear.new.self c.push.new.out c.slice.result.now c.clear.ensures c.push.ensures.events c.slice.ensures in
    let all = takes h c.push.new.self w mid item c.slice.result.now given c.push.ensures.state c.pass_on.ensures.takes in
    let passes = passes_all events now.book w mid all in
    let steady = steady_all events now.book w mid all in
    let step = heads_in_step h w mid item unheaded steady.limits passes in
    let ends = headers_end h w mid item may.together.limits unheaded may.part passes in
    subst (λ (s : HeaderStageState). ReadsItems h w (item ∷ []) s new) (sym c.push.ensures.state) (record {
      together = together_begun item mid new begins now
          (together_by_heads h w mid item (short_heads c.canonical_lines_are_within_the_limits.ensures) may.together unheaded (unheaded_all events w mid passes) steady);
      writes = writes_begun item mid new begins h now w (item ∷ []) (items_by_heads h w mid item (writes_all events now.book w mid all));
      step = stay_begun item mid new begins h now w (item ∷ []) (λ headed. stands_in_front h.limits h.progress item mid.score (ends headed)) step;
      reads = reads_begun h w mid new item (same_writer item mid new begins) (heads_read_on c.a_held_text_grows.ensures.found h w mid item unheaded passes);
      tells = heads_stay_telling h now w mid new item c.headers_may_come.ensures c.a_percent_ends_the_headers.ensures passes step ends begins;
      room = λ none limits progress.
          room_of_begun item mid new begins true (events_of_end limits progress)
          (c.pass_on.ensures.room true (events_of_end limits progress) (room_with_end h w item c.slice.result.now given may.room none limits progress));
      steady = steady_of_begun item mid new begins w steady;
      hasher = refl;
    })
