use Rattle.gabc_notes.proofs.resuming.CallsKeep.{read_state}
use Rattle.std.proofs.Common.{refl, arith}
use Rattle.gabc_notes.proofs.machine.StageEmitsItsEvents.{push_emits}
use Rattle.gabc_notes.proofs.Stopping.{push_stops}
use Rattle.gabc_notes.proofs.stage.NoteStage.read.Goals as goal

pub returns-clause-events : goal.returns-clause-events
returns-clause-events c = grind (arith, push_emits)

pub returns-clause-end : goal.returns-clause-end
returns-clause-end c =
    push_stops c.args.self.now c.advance.new.self c.args.x c.next_state-next.result c.look-facts.result c.role_of-role.result _ c.args.out.now c.emit.new.out
    refl c.advance.ensures c.emit.ensures

pub returns-clause-state : goal.returns-clause-state
returns-clause-state c = read_state c.args.self.now c.advance.new.self c.args.x c.next_state-next.result c.look-facts.result c.role_of-role.result c.requires.runs (cc (c.class_of.ensures, c.next_state-next.ensures)) c.look-facts.ensures c.role_of-role.ensures c.advance.ensures
