use Rattle.std.proofs.Common.{ℕ, List, take, length, length-drop, ap, subst, arith}
use Rattle.gregorio.proofs.InputsArePut.{runs_where_taken}
use Rattle.gregorio.proofs.PiecesAreSent.{IsTaken, all_after, nothing_waits_after, taken_from}
use Rattle.gregorio_c.proofs.PiecesAreGathered.{gathered}
use Rattle.gregorio_c.proofs.steps.feed_piece.Goals as goal

pub loop-texts-preserved : goal.loop-texts-preserved
loop-texts-preserved c =
    let i = c.loop-texts.invariant in
    let e = c.loop-texts.engine in
    let f = c.fill-count.new.self in
    let g = c.gather.new.engine in
    let forgets = c.in_ok-gather.ensures.forgets in
    let count = c.loop-texts.count in
    let piece = c.args.piece.now in
    let all = all_after count piece in
    let takes = c.fill-count.ensures.takes in
    let law = subst (λ (l : List ℕ). IsTaken e f (take c.fill-count.result l)) all (taken_from e f _ c.fill-count.result i.waits takes) in
    record {
      within = omega (arith, i.within, takes.within, ap length all, length-drop count piece);
      waits = nothing_waits_after f g forgets;
      job = λ job limits runs. runs_where_taken f g job limits forgets (takes.job job limits (i.job job limits runs));
      gathers = gathered c.args.engine.now e f g piece c.loop-texts.texts.output.items c.loop-texts.texts.messages.items c.gather.new.texts.output.items c.gather.new.texts.messages.items
          count c.fill-count.result forgets law i.gathers c.in_ok-gather.ensures.output c.in_ok-gather.ensures.messages;
    }
