use Rattle.std.proofs.Common.{nat_lt}
use Rattle.gabc_body.proofs.order.FindingsOfLayers.{texts_lie, notes_lie, nabc_lies}
use Rattle.gabc_body.proofs.units.UnitsEndAtMarks.{final_ends}
use Rattle.gabc_body.proofs.order.FindingsOfScore.{score_sorted}
use Rattle.gabc_body.proofs.laws.findings_in_order.Goals as goal

pub returns : goal.returns
returns c =
    score_sorted
    (texts_lie c.findings_lie_within.ensures.within c.findings_lie_within.ensures.all c.findings_lie_within.ensures.low c.findings_in_order-2.ensures)
    (record { order = c.findings_in_order.ensures; within = c.findings_lie_before_the_body.ensures; after = c.the_body_follows_the_mark.ensures })
    (λ lines macros. notes_lie (nat_lt 0 lines) macros (c.a_snippet_ends_at_its_mark.ensures.last (nat_lt 0 lines)) (λ at prefix rest. c.findings_lie_within-2.ensures at (nat_lt 0 lines) macros prefix rest) (λ at t. c.findings_are_in_order.ensures at (nat_lt 0 lines) macros t))
    (nabc_lies c.a_snippet_ends_at_its_mark-2.ensures.last c.findings_lie_within-3.ensures c.findings_are_in_order-2.ensures)
    (λ lines macros line opened prefix x rest. final_ends c.a_text_ends_once.ensures lines macros line opened (record { characters = prefix; end = x }) rest)
