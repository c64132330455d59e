use Rattle.std.proofs.Common.{◌≡◌, take}
use Rattle.gabc_notes.specs.machine.BuiltSnippet.{built_snippet_of, with_events}
use Rattle.gabc_notes.proofs.whole.SnippetBuilder.add_all.Given as goal

abbrev pub invariant-loop-event : goal.invariant-loop-event
invariant-loop-event l = built_snippet_of l.self ≡ with_events (built_snippet_of l.initial.self) (take l.event-index l.events)
