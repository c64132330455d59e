use Rattle.std.proofs.Common.{arith}
use Rattle.gabc_notes.specs.Events.{note_events}
use Rattle.gabc_notes.proofs.grammar.LawsOfEventsByPoint.{events_prefix, nothing_over}
use Rattle.gabc_notes.proofs.laws.what_follows_emits_nothing.Goals as goal

pub returns : goal.returns
unfolding note_events
returns c = grind (arith, nothing_over, events_prefix)
