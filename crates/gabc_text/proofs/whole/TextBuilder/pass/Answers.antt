use Rattle.gabc_text.specs.machine.BuiltText.{built_text_of}
use Rattle.gabc_text.proofs.machine.RawPartIsPassed.{events_passed}
use Rattle.gabc_text.proofs.whole.TextBuilder.pass.Goals as goal

pub returns-clause-events : goal.returns-clause-events
returns-clause-events c = events_passed c.push_str.result (built_text_of c.args.self.now) c.args.stage.now c.args.text.now _ c.utf8.text c.requires.raw c.requires.no_ending c.push_str.ensures.bytes
