use Rattle.std.proofs.Common.{◌≡◌, ℕ, List, length}
use Rattle.gabc_score.specs.RegularSyllable.{with_lines}
use Rattle.gabc_score.specs.SpelledSyllable.{IsSpelling, ToCome}
use Rattle.gabc_score.specs.machine.Run.{sounds_among}
use Rattle.gabc_score.proofs.spelled.SpelledSyllable.sounds.Given as goal

abbrev pub invariant-loop-snippet : goal.invariant-loop-snippet
invariant-loop-snippet l = record {
  some : (texts : List (ℕ × List ℕ)) × ToCome l.rest texts;
  left : (is : IsSpelling l.self) → (later : List (ℕ × List ℕ)) × record {
    come : ToCome l.rest later;
    sound : sounds_among (with_lines l.self.lines 0 is.parts.nexts is.parts.final) ≡ sounds_among later;
  };
}

abbrev pub decreases-loop-snippet : goal.decreases-loop-snippet
decreases-loop-snippet l = length l.rest.rest.now
