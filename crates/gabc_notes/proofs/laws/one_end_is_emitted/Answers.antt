use Rattle.std.proofs.Common.{arith}
use Rattle.gabc_notes.specs.Events.{note_events}
use Rattle.gabc_notes.proofs.grammar.LawsOfEventsByPoint.{emitted_kept, emitted_end, fewer_bytes}
use Rattle.gabc_notes.proofs.laws.one_end_is_emitted.Goals as goal

pub returns : goal.returns
unfolding note_events
returns c = grind (arith, emitted_end, emitted_kept, fewer_bytes)
