use Rattle.std.proofs.Common.{length, arith, ap, ◌∙◌}
use Rattle.std.proofs.lemmas.Grind.{common_steps}
use Rattle.gabc_headers.specs.machine.Collected.{Collected}
use Rattle.gabc_headers.proofs.collecting.EventsAddEntries.{length-collected}
use Rattle.gabc_headers.proofs.entries.MapIsReadByEntry.{length-named}
use Rattle.gabc_headers.proofs.collected.collect.Goals as goal

pub loop-event-preserved : goal.loop-event-preserved
loop-event-preserved c =
    let taken = ap (λ (x : Collected). length x.headers) c.in_ok-take.ensures.taken in
    record {
      good = grind (arith, common_steps);
      same = grind (arith, common_steps, c.in_ok-take.ensures.taken);
      limit = c.in_ok-take.ensures.limit ∙ c.loop-event.invariant.limit;
      hasher = c.in_ok-take.ensures.hasher ∙ c.loop-event.invariant.hasher;
      few = (let f = c.loop-event.invariant.few in omega (arith, taken, length-collected, length-named));
    }
