use Rattle.std.proofs.Common.{ap, ◌∙◌, arith}
use Rattle.std.specs.Str.{chars}
use Rattle.gabc_places.specs.StageLaw.{concat_of}
use Rattle.gabc_text.specs.Events.{codes_of}
use Rattle.gabc_text.specs.BuiltText.{kept_chars_in}
use Rattle.gabc_text.proofs.KeptCharacters.{one_more, all_kept, events_of, kept_codes}
use Rattle.gabc_text.proofs.machine.LoopOverText.{text_fits}
use Rattle.gabc_text.proofs.kept.kept_chars.Goals as goal

pub loop-event-preserved : goal.loop-event-preserved
loop-event-preserved c = grind (arith, one_more)

pub returns-clause-events : goal.returns-clause-events
returns-clause-events c =
    all_kept c.as_slice-event-items.result.now c.loop-event.event-index _ c.loop-event-test.false c.loop-event.invariant
    ∙ ap kept_chars_in (c.as_slice-event-items.ensures ∙ c.in_ok-events.ensures.all ∙ ap concat_of (events_of c.args.at (chars c.args.body.now) c.new-stage.result c.new-stage.ensures.events (text_fits c.args.at c.args.body.now c.utf8.body c.requires.line c.requires.column)))

pub returns-clause-kept : goal.returns-clause-kept
returns-clause-kept c = ap codes_of (returns-clause-events c) ∙ kept_codes c.args.at (chars c.args.body.now)
