use Rattle.std.proofs.Common.{List, map, ap, ◌∙◌}
use Rattle.gabc_places.specs.BoundedList.{extended_by}
use Rattle.gabc_text.specs.declared.text_event.TextPart.{TextPart}
use Rattle.gabc_text.specs.declared.text_event.TextEvent.TheVariants as event
use Rattle.gabc_text.specs.witness.EventsLeft.{parts_by}
use Rattle.gabc_text.proofs.stage.TextStage.emit_parts.Goals as goal

pub returns-in-None-clause-events : goal.returns-in-None-clause-events
returns-in-None-clause-events c =
    let s = c.args.self.now in
    c.emit_part.ensures.events
    ∙ ap (λ (ps : List TextPart). extended_by c.args.out.now (map (λ (p : TextPart). event.Part p) ps))
    (c.part_at.ensures s.progress.kept ∙ ap (parts_by s.facts s.progress c.args.kind c.args.last s.progress.kept) c.in-None.ensures)
