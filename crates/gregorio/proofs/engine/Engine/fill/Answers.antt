use Rattle.std.proofs.Common.{◌≡◌, ◌+◌, ◌-◌, ◌≤◌, not, refl, inl, inr, length, drop, ap, sym, subst, ◌∙◌, arith}
use Rattle.std.proofs.lemmas.Bool.{not-false}
use Rattle.gregorio.specs.Engine.{NothingWaits, is_running}
use Rattle.gregorio.specs.witness.Engine.{EngineState}
use Rattle.gregorio.proofs.pieces.NothingIsKeptBack.{took_some}
use Rattle.gregorio.proofs.pieces.PiecesAreTaken.{none_taken, taken_further, taken_of_front}
use Rattle.gregorio.proofs.pieces.RoomIsLeft.{leaves_room}
use Rattle.gregorio.proofs.engine.Engine.fill.Goals.{else-loop-count-test, then-loop-count-test+else-has_room}
use Rattle.gregorio.proofs.engine.Engine.fill.Goals as goal

pub loop-count-init : goal.loop-count-init
loop-count-init c = record {
  takes = none_taken c.args.self.now c.args.piece.now (not-false (is_running c.args.self.now) (sym c.is_over.ensures.over ∙ c.if-is_over.false));
  begun = inr refl;
}

pub loop-count-preserved : goal.loop-count-preserved
loop-count-preserved c =
    let next = c.fill_part-count in
    let count = c.loop-count.count in
    let now = c.loop-count.self in
    record {
      takes = taken_further c.args.self.now now next.new.self c.args.piece.now count next.result c.loop-count.invariant.takes next.ensures.some
          (taken_of_front now next.new.self (drop count c.args.piece.now) (count + c.min-most.result - count) next.result next.ensures.takes);
      begun = inl (omega (arith, next.ensures.some));
    }

pub returns-clause-takes : goal.returns-clause-takes
returns-clause-takes c =
    let i = c.loop-count.invariant in
    let s = c.args.self.now in
    let runs = not-false (is_running s) (sym c.is_over.ensures.over ∙ c.if-is_over.false) in
    let all : NothingWaits s → c.loop-count.self ≡ s → length c.args.piece.now ≤ c.loop-count.count = λ none same. elim c.loop-count-test.branch [
      | then-loop-count-test+else-has_room w ↦
          absurd (cc (sym (w.has_room.ensures.some (leaves_room c.loop-count.self (subst NothingWaits (sym same) none)) (ap (λ (e : EngineState). is_running e) same ∙ runs)) ∙ w.if-has_room.false))
      | else-loop-count-test w ↦ w.loop-count-test.false
    ] in
    record {
      within = i.takes.within;
      some = λ none more. took_some (c.loop-count.self ≡ s) c.loop-count.count (length c.args.piece.now) i.begun (all none) more;
      brings = i.takes.takes.brings;
      job = i.takes.takes.job;
      format = i.takes.takes.format;
      over = λ stopped. absurd (cc (sym (ap not stopped) ∙ (sym c.is_over.ensures.over ∙ c.if-is_over.false)));
      running = c.nothing_is_kept_back.ensures.running;
      prompt = c.nothing_is_kept_back.ensures.prompt;
    }

pub returns-clause-fault : goal.returns-clause-fault
returns-clause-fault c = λ runs. c.loop-count.invariant.takes.fault

pub returns-clause-hasher : goal.returns-clause-hasher
returns-clause-hasher c = c.loop-count.invariant.takes.takes.hasher

pub returns-then-is_over-clause-takes : goal.returns-then-is_over-clause-takes
returns-then-is_over-clause-takes c = c.is_over.ensures.takes c.if-is_over.true c.args.piece.now

pub returns-then-is_over-clause-fault : goal.returns-then-is_over-clause-fault
returns-then-is_over-clause-fault c = λ runs. absurd (cc (sym (ap not runs) ∙ (sym c.is_over.ensures.over ∙ c.if-is_over.true)))
