use Rattle.gabc_notes.specs.machine.BuiltSnippet.{built_snippet_of}
use Rattle.gabc_notes.proofs.machine.EventsBuildSnippet.{built_more}
use Rattle.gabc_notes.proofs.whole.SnippetBuilder.add_all.Goals as goal

pub loop-event-preserved : goal.loop-event-preserved
loop-event-preserved c =
    built_more (built_snippet_of c.args.self.now) (built_snippet_of c.loop-event.self) (built_snippet_of c.add.new.self) c.args.events.now c.loop-event.event-index _ c.loop-event-test.true c.loop-event.invariant (c.in_ok-add.ensures)
