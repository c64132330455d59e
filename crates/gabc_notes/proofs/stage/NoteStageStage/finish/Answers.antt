use Rattle.std.proofs.Common.{[], refl}
use Rattle.gabc_places.specs.declared.place.Char.{Char}
use Rattle.gabc_places.specs.StageLaw.{silence}
use Rattle.gabc_places.proofs.PushesAreOne.{joined_silence}
use Rattle.gabc_notes.specs.Ends.{is_ended}
use Rattle.gabc_notes.specs.declared.stage.NoteEnd.TheVariants.{Cut}
use Rattle.gabc_notes.specs.declared.stage.NoteEvent.{NoteEvent}
use Rattle.gabc_notes.specs.declared.stage.NoteEvent.TheVariants.{Ended}
use Rattle.gabc_places.proofs.NothingAfterAnEnd.{stops-last}
use Rattle.gabc_notes.proofs.Stopping.{ended-emits_nothing}
use Rattle.gabc_notes.proofs.stage.NoteStageStage.finish.Goals as goal

pub returns-then-self-clause-over : goal.returns-then-self-clause-over
returns-then-self-clause-over c = ended-emits_nothing c.args.self.now c.if-self.true

pub returns-clause-over : goal.returns-clause-over
returns-clause-over c = λ xs. joined_silence xs

pub returns-clause-end : goal.returns-clause-end
returns-clause-end c =
    stops-last is_ended (silence {I = Char} {O = NoteEvent}) c.args.out.now c.push.new.self [] (Ended (Cut c.if-is_raw.place) c.args.self.now.before.kept) c.push.ensures refl (λ xs. joined_silence xs)
