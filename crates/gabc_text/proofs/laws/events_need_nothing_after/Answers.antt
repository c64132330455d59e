use Rattle.std.proofs.Common.{◌∙◌, ap, length, List, arith}
use Rattle.gabc_text.specs.declared.text_event.TextEvent.{TextEvent}
use Rattle.gabc_text.proofs.machine.EventsNeedNothingAfter.{prefix_emits, each_emits}
use Rattle.gabc_text.proofs.machine.EventsLeftAreThoseAhead.{rest_is}
use Rattle.gabc_text.proofs.laws.events_need_nothing_after.Goals as goal

pub returns-clause-each : goal.returns-clause-each
returns-clause-each c s t = ap (length {A = List TextEvent}) (rest_is s t) ∙ each_emits s t

pub returns-clause-prefix : goal.returns-clause-prefix
returns-clause-prefix c s t u v = grind (arith, rest_is, prefix_emits)
