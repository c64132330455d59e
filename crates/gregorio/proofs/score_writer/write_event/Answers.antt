use Rattle.std.proofs.Common.{◌∷◌, refl, sym, subst, arith}
use Rattle.gabc_score.specs.declared.score_event.ScoreEvent.{ScoreEvent}
use Rattle.gabc_body.specs.ScoreEvents.{Found, Stop, Syllable, End}
use Rattle.gabc_body.specs.Syllable.{PlacedSyllable, placed_of}
use Rattle.gregorio.specs.machine.RunWriter.{RunWriterState, IsInRoom}
use Rattle.gregorio.specs.machine.ScoreWriter.{output_of_event}
use Rattle.gregorio.proofs.WritingStaysInRoom.{output_in_room, syllable_is_short}
use Rattle.gregorio.proofs.score_writer.write_event.Goals as goal

pub returns-in-Found-clause-room : goal.returns-in-Found-clause-room
returns-in-Found-clause-room c = λ lines texts outputs h.
    let w = c.args.writer.now in
    let given = subst (λ (e : ScoreEvent). IsInRoom c.args.score.now.limits lines texts w (output_of_event c.args.score.now e ∷ outputs)) c.in-Found.is h in
    subst (λ (v : RunWriterState). IsInRoom c.args.score.now.limits lines texts v outputs) (sym c.found.ensures.writes)
    (output_in_room c.args.score.now.limits lines texts w (Found c.in-Found.finding) outputs _ refl refl (c.found.ensures.short, omega arith) given)

pub returns-in-Stop-clause-room : goal.returns-in-Stop-clause-room
returns-in-Stop-clause-room c = λ lines texts outputs h.
    let w = c.args.writer.now in
    let given = subst (λ (e : ScoreEvent). IsInRoom c.args.score.now.limits lines texts w (output_of_event c.args.score.now e ∷ outputs)) c.in-Stop.is h in
    subst (λ (v : RunWriterState). IsInRoom c.args.score.now.limits lines texts v outputs) (sym c.fault.ensures.writes)
    (output_in_room c.args.score.now.limits lines texts w (Stop c.in-Stop.fault) outputs _ refl refl (c.fault.ensures.short, c.fault.ensures.last) given)

pub returns-in-Syllable-clause-room : goal.returns-in-Syllable-clause-room
returns-in-Syllable-clause-room c = λ lines texts outputs h.
    let limits = c.args.score.now.limits in
    let w = c.args.writer.now in
    let s = placed_of c.lent.result.syllable.now in
    let lent = subst (λ (e : ScoreEvent). IsInRoom limits lines texts w (output_of_event c.args.score.now e ∷ outputs)) c.in-Syllable.is h in
    let given = subst (λ (x : PlacedSyllable). IsInRoom limits lines texts w (Syllable x ∷ outputs)) (sym c.lent.ensures.placed) lent in
    subst (λ (v : RunWriterState). IsInRoom limits lines texts v outputs) (sym c.syllable.ensures.writes)
    (output_in_room limits lines texts w (Syllable s) outputs _ refl refl (syllable_is_short limits w s outputs lines texts given c.syllable.ensures.short) given)

pub returns-in-End-clause-room : goal.returns-in-End-clause-room
returns-in-End-clause-room c = λ lines texts outputs h.
    let w = c.args.writer.now in
    let given = subst (λ (e : ScoreEvent). IsInRoom c.args.score.now.limits lines texts w (output_of_event c.args.score.now e ∷ outputs)) c.in-End.is h in
    subst (λ (v : RunWriterState). IsInRoom c.args.score.now.limits lines texts v outputs) (sym c.end.ensures.writes)
    (output_in_room c.args.score.now.limits lines texts w (End) outputs _ refl refl (omega arith, c.end.ensures.last) given)
