use Rattle.std.proofs.Common.{◌≡◌, ◌≤◌, [], drop, length}
use Rattle.gabc_headers.specs.machine.Collected.{AreGoodEvents, collected_with_all}
use Rattle.gabc_headers.specs.machine.Shown.{shown}
use Rattle.gabc_headers.proofs.collected.collect.Given as goal

abbrev pub invariant-loop-event : goal.invariant-loop-event
invariant-loop-event l = record {
  good : AreGoodEvents l.text (drop l.event-index l.events);
  same : collected_with_all l.text (drop l.event-index l.events) (shown l.collected) ≡ collected_with_all l.text l.events (record { headers = []; findings = [] });
  limit : l.collected.headers.1 ≡ length l.events;
  hasher : l.collected.headers.2 ≡ l.initial.collected.headers.2;
  few : length l.collected.headers.0 ≤ l.event-index;
}
