use Rattle.gabc_nabc.specs.machine.BuiltNabc.{built_nabc_of}
use Rattle.gabc_nabc.proofs.machine.EventsBuildSnippet.{with_more}
use Rattle.gabc_nabc.proofs.whole.NabcBuilder.add_all.Goals as goal

pub loop-event-preserved : goal.loop-event-preserved
loop-event-preserved c =
    with_more (built_nabc_of c.args.self.now) (built_nabc_of c.loop-event.self) (built_nabc_of c.add.new.self) c.args.events.now c.loop-event.event-index _ c.loop-event-test.true c.loop-event.invariant c.in_ok-add.ensures
