use Rattle.std.proofs.Common.{sym, ◌∙◌}
use Rattle.gabc_body.specs.declared.ending.InputEnding.TheVariants.{Whole, Broken, At}
use Rattle.gabc_body.proofs.score_events.EmittedByHeaders.{given_is}
use Rattle.gabc_body.proofs.laws.a_stage_of_headers_emits_the_events.Goals as goal

pub returns-clause-whole : goal.returns-clause-whole
returns-clause-whole c limits t scalar = given_is limits Whole t ∙ sym (c.events_make_the_headers.ensures limits t scalar)

pub returns-clause-broken : goal.returns-clause-broken
returns-clause-broken c limits t scalar = given_is limits Broken t ∙ sym (c.events_need_no_end.ensures.broken limits t scalar)

pub returns-clause-stopped : goal.returns-clause-stopped
returns-clause-stopped c limits t fault ended scalar = given_is limits (At fault) t ∙ sym (c.events_need_no_end.ensures.stopped limits t fault ended scalar)
