use Rattle.std.proofs.Common.{◌≡◌, take}
use Rattle.gabc_text.specs.machine.BuiltText.{built_text_of}
use Rattle.gabc_text.specs.BuiltText.{with_events}
use Rattle.gabc_text.proofs.whole.TextBuilder.add_all.Given as goal

abbrev pub invariant-loop-event : goal.invariant-loop-event
invariant-loop-event l = built_text_of l.self ≡ with_events (built_text_of l.initial.self) (take l.event-index l.events)
