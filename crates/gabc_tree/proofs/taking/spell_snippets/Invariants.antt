use Rattle.std.proofs.Common.{◌≡◌, ◌≤◌, ◌+◌, ◌++◌, ℕ, List, length}
use Rattle.gabc_body.specs.Canonical.{starts_word}
use Rattle.gabc_score.specs.RegularSyllable.{spans_from, with_lines}
use Rattle.gabc_score.specs.SpelledSyllable.{IsSpelling, ToCome}
use Rattle.gabc_tree.specs.machine.SyllableSlices.{gap_of}
use Rattle.gabc_tree.proofs.syllables.SpelledSlices.{total}
use Rattle.gabc_tree.proofs.taking.spell_snippets.Given as goal

abbrev pub invariant-loop-snippet : goal.invariant-loop-snippet
invariant-loop-snippet l = record {
  some : (texts : List (ℕ × List ℕ)) × ToCome l.rest texts;
  left : (is : IsSpelling l.syllable) → (later : List (ℕ × List ℕ)) × record {
    come : ToCome l.rest later;
    fits : l.from + total later ≤ length l.syllable.canonical.now + 1;
    spans : l.snippets.items ++ spans_from l.from later
        ≡ spans_from (length (gap_of (starts_word l.syllable.position)) + l.syllable.opening + 1) (with_lines l.syllable.lines 0 is.parts.nexts is.parts.final);
  };
}

abbrev pub decreases-loop-snippet : goal.decreases-loop-snippet
decreases-loop-snippet l = length l.rest.rest.now
