use Rattle.gabc_notes.proofs.KeptChars.{kept_more}
use Rattle.gabc_notes.proofs.chars.add_all_kept.Goals as goal

pub loop-event-preserved : goal.loop-event-preserved
loop-event-preserved c =
    kept_more c.args.kept.now c.loop-event.kept c.add_kept.new.kept c.args.count c.args.events.now c.loop-event.event-index _ c.loop-event-test.true c.loop-event.invariant c.in_ok-add_kept.ensures
