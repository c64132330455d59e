use Rattle.std.proofs.Common.{sym, ap, ◌∙◌}
use Rattle.std.specs.List.{list_any}
use Rattle.gabc_body.specs.Events.{is_close, is_next, is_text_end}
use Rattle.gabc_score.specs.machine.PartSteps.{in_gabc, in_nabc, text_goes, text_ends, snippet_goes, snippet_next, snippet_closes}
use Rattle.gabc_score.proofs.body_stage.BodyStage.push_part.Goals as goal

pub returns-then-ended-clause-steps : goal.returns-then-ended-clause-steps
returns-then-ended-clause-steps c =
    rw (← c.self.view_is, c.in-Text.is)
    (text_ends c.push_text.ensures.steps (sym (c.ends_text-ended.ensures ∙ ap (list_any is_text_end) c.slice.ensures) ∙ c.if-ended.true) c.snippet-self-inside.ensures, c.push_text.ensures.bounds)

pub returns-else-ended-clause-steps : goal.returns-else-ended-clause-steps
returns-else-ended-clause-steps c =
    rw (← c.self.view_is, c.in-Text.is)
    (text_goes c.push_text.ensures.steps (sym (c.ends_text-ended.ensures ∙ ap (list_any is_text_end) c.slice.ensures) ∙ c.if-ended.false), c.push_text.ensures.bounds)

pub returns-then-next-clause-steps : goal.returns-then-next-clause-steps
returns-then-next-clause-steps c =
    rw (← c.self.view_is, c.in-Notes.is)
    (snippet_next (in_gabc c.push_gabc.ensures.steps) (sym (c.ends_at_next-next.ensures ∙ ap (list_any is_next) c.slice-in-Notes.ensures) ∙ c.if-next.true) c.next_snippet-self-inside.ensures, c.push_gabc.ensures.bounds)

pub returns-then-close-clause-steps : goal.returns-then-close-clause-steps
returns-then-close-clause-steps c =
    rw (← c.self.view_is, c.in-Notes.is, c.text_after-self-inside.ensures)
    (snippet_closes (in_gabc c.push_gabc.ensures.steps) (sym (c.ends_at_next-next.ensures ∙ ap (list_any is_next) c.slice-in-Notes.ensures) ∙ c.if-next.false) (sym (c.ends_at_close-close.ensures ∙ ap (list_any is_close) c.slice-in-Notes-2.ensures) ∙ c.if-close.true), c.push_gabc.ensures.bounds)

pub returns-else-close-clause-steps : goal.returns-else-close-clause-steps
returns-else-close-clause-steps c =
    rw (← c.self.view_is, c.in-Notes.is)
    (snippet_goes (in_gabc c.push_gabc.ensures.steps) (sym (c.ends_at_next-next.ensures ∙ ap (list_any is_next) c.slice-in-Notes.ensures) ∙ c.if-next.false) (sym (c.ends_at_close-close.ensures ∙ ap (list_any is_close) c.slice-in-Notes-2.ensures) ∙ c.if-close.false), c.push_gabc.ensures.bounds)

pub returns-then-next-2-clause-steps : goal.returns-then-next-2-clause-steps
returns-then-next-2-clause-steps c =
    rw (← c.self.view_is, c.in-Nabc.is)
    (snippet_next (in_nabc c.push_nabc.ensures.steps) (sym (c.ends_at_next-next-in-Nabc.ensures ∙ ap (list_any is_next) c.slice-in-Nabc.ensures) ∙ c.if-next-2.true) c.next_snippet-self-inside-then-next-2.ensures, c.push_nabc.ensures.bounds)

pub returns-then-close-2-clause-steps : goal.returns-then-close-2-clause-steps
returns-then-close-2-clause-steps c =
    rw (← c.self.view_is, c.in-Nabc.is, c.text_after-self-inside-then-close-2.ensures)
    (snippet_closes (in_nabc c.push_nabc.ensures.steps) (sym (c.ends_at_next-next-in-Nabc.ensures ∙ ap (list_any is_next) c.slice-in-Nabc.ensures) ∙ c.if-next-2.false) (sym (c.ends_at_close-close-in-Nabc.ensures ∙ ap (list_any is_close) c.slice-in-Nabc-2.ensures) ∙ c.if-close-2.true), c.push_nabc.ensures.bounds)

pub returns-else-close-2-clause-steps : goal.returns-else-close-2-clause-steps
returns-else-close-2-clause-steps c =
    rw (← c.self.view_is, c.in-Nabc.is)
    (snippet_goes (in_nabc c.push_nabc.ensures.steps) (sym (c.ends_at_next-next-in-Nabc.ensures ∙ ap (list_any is_next) c.slice-in-Nabc.ensures) ∙ c.if-next-2.false) (sym (c.ends_at_close-close-in-Nabc.ensures ∙ ap (list_any is_close) c.slice-in-Nabc-2.ensures) ∙ c.if-close-2.false), c.push_nabc.ensures.bounds)
