use Rattle.std.proofs.Common.{◌≡◌, take}
use Rattle.gabc_nabc.specs.machine.BuiltNabc.{built_nabc_of, with_events}
use Rattle.gabc_nabc.proofs.whole.NabcBuilder.add_all.Given as goal

abbrev pub invariant-loop-event : goal.invariant-loop-event
invariant-loop-event l = built_nabc_of l.self ≡ with_events (built_nabc_of l.initial.self) (take l.event-index l.events)
