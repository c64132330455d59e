use Rattle.gabc_text.specs.machine.BuiltText.{built_text_of}
use Rattle.gabc_text.proofs.events.EventsBuildText.{events_more}
use Rattle.gabc_text.proofs.whole.TextBuilder.add_all.Goals as goal

pub loop-event-preserved : goal.loop-event-preserved
loop-event-preserved c =
    events_more (built_text_of c.args.self.now) (built_text_of c.loop-event.self) (built_text_of c.add.new.self) c.args.events.now c.loop-event.event-index _ c.loop-event-test.true c.loop-event.invariant (c.in_ok-add.ensures)
