use Rattle.std.proofs.Common.{length, ◌≡◌, ◌-◌, ◌<◌, ◌⊎◌}
use Rattle.gregorio.specs.machine.Taking.{TakesFrom}
use Rattle.gregorio.proofs.engine.Engine.fill_part.Given as goal

-- The bytes so far are taken, or none is yet.
abbrev pub invariant-loop-count : goal.invariant-loop-count
invariant-loop-count l = record {
  takes : TakesFrom l.initial.self l.part l.count l.self;
  begun : (0 < l.count) ⊎ (l.self ≡ l.initial.self);
}

abbrev pub decreases-loop-count : goal.decreases-loop-count
decreases-loop-count l = length l.part - l.count
