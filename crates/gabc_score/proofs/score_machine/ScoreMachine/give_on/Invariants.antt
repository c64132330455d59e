use Rattle.std.proofs.Common.{◌≡◌, ℕ, ◌+◌, ◌<◌, ◌≤◌, List, length}
use Rattle.std.specs.Str.{IsUtf8}
use Rattle.gabc_places.specs.declared.place.Place.{Place}
use Rattle.gabc_body.specs.Syllable.{PlacedSyllable}
use Rattle.gabc_score.specs.machine.Run.{AreBefore, IsFound, RunsTo, RunsOn}
use Rattle.gabc_score.proofs.score_machine.ScoreMachine.give_on.Given as goal

abbrev pub invariant-loop-next : goal.invariant-loop-next
invariant-loop-next g l = record {
  found : IsFound l.self.body.nabc_lines l.self.limits l.reached.canonical l.reached.last;
  lines : l.lines ≡ l.self.body.nabc_lines;
  few : l.reached.count + length l.reached.last.rest.now ≤ length l.initial.reached.last.rest.now;
  utf8 : IsUtf8 l.reached.last.rest.now;
  joins : (n : ℕ) → 0 < n → n ≤ l.waiting.most → g.G.Give.TakesJoined l.out n;
  waits : (front : List ℕ) × (AreBefore l.waiting l.reached front × ((at : Place) (text : List ℕ) (given : List PlacedSyllable) → RunsTo l.self at text given l.initial.reached
      → RunsOn g.G.Give.given l.self at text given l.initial.out l.waiting front l.reached l.out));
}

abbrev pub decreases-loop-next : goal.decreases-loop-next
decreases-loop-next g l = length l.reached.last.rest.now
