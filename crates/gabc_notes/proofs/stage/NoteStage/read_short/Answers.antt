use Rattle.std.proofs.Common.{arith}
use Rattle.gabc_notes.proofs.resuming.CallsKeep.{short_state}
use Rattle.gabc_notes.proofs.machine.ShortWays.{note_emits, note_stage}
use Rattle.gabc_notes.proofs.stage.NoteStage.read_short.Goals as goal

pub returns-clause-events : goal.returns-clause-events
returns-clause-events c = note_emits c.args.self.now c.args.x c.args.next c.requires.comment c.requires.step c.saturating_add-kept.result c.args.out.now c.push.new.self c.requires.runs c.saturating_add-kept.ensures c.push.ensures

pub returns-clause-state : goal.returns-clause-state
returns-clause-state c = grind (arith, note_stage, short_state)
