use Rattle.gabc_notes.proofs.Stopping.{ended_as_before}
use Rattle.gabc_notes.proofs.resuming.CallsKeep.{push_steps_in}
use Rattle.gabc_notes.proofs.stage.NoteStageStage.push.Goals as goal

pub returns-in-Some-clause-steps : goal.returns-in-Some-clause-steps
returns-in-Some-clause-steps c =
    push_steps_in c.args.self.now c.read_short.new.self c.args.x c.args.out.now c.read_short.new.out c.if-self.false c.read_short.ensures.state c.read_short.ensures.events

pub returns-in_default-clause-steps : goal.returns-in_default-clause-steps
returns-in_default-clause-steps c = push_steps_in c.args.self.now c.read.new.self c.args.x c.args.out.now c.read.new.out c.if-self.false c.read.ensures.state c.read.ensures.events

pub returns-in-Some-clause-ended : goal.returns-in-Some-clause-ended
returns-in-Some-clause-ended c = ended_as_before c.args.self.now c.read_short.new.self c.args.x c.read_short.ensures.state

pub returns-in_default-clause-ended : goal.returns-in_default-clause-ended
returns-in_default-clause-ended c = ended_as_before c.args.self.now c.read.new.self c.args.x c.read.ensures.state
