use Rattle.std.proofs.Common.{◌≡◌, ℕ, List, All, length}
use Rattle.gabc_neumes.specs.InForce.{passed}
use Rattle.gabc_score.specs.SpelledSyllable.{ToCome}
use Rattle.gabc_write.specs.machine.DumpOfTexts.{lines_of_texts, steps_of_texts, IsOnLine}
use Rattle.gabc_write.proofs.dump_slices.put_spelled_snippets.Given as goal

abbrev pub invariant-loop-snippet : goal.invariant-loop-snippet
invariant-loop-snippet g l = record {
  some : (texts : List (ℕ × List ℕ)) × ToCome l.rest texts;
  left : (texts : List (ℕ × List ℕ)) → ToCome l.snippets texts → (later : List (ℕ × List ℕ)) × record {
    come : ToCome l.rest later;
    put : g.S.Put.taken l.out (lines_of_texts l.alterations later) ≡ g.S.Put.taken l.initial.out (lines_of_texts l.initial.alterations texts);
    alterations : passed l.alterations (steps_of_texts later) ≡ passed l.initial.alterations (steps_of_texts texts);
    lines : All IsOnLine later → All IsOnLine texts;
  };
}

abbrev pub decreases-loop-snippet : goal.decreases-loop-snippet
decreases-loop-snippet g l = length l.rest.rest.now
