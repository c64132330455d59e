use Rattle.std.proofs.Common.{◌∙◌, ◌++◌, ◌∷◌, sym, arith}
use Rattle.gabc_text.proofs.machine.EventsNeedNothingAfter.{left_through, emitted_through}
use Rattle.gabc_text.proofs.machine.EventsLeftAreThoseAhead.{rest_is, left_is}
use Rattle.gabc_text.proofs.laws.nothing_after_the_notes_begin.Goals as goal

pub returns-clause-left : goal.returns-clause-left
returns-clause-left c s t u v e = left_is s (t ++ 40 ∷ v) ∙ left_through s t u v (sym (left_is s (t ++ 40 ∷ u)) ∙ e)

pub returns-clause-events : goal.returns-clause-events
returns-clause-events c s t u v e = grind (arith, rest_is, emitted_through, left_is)
