use Rattle.std.proofs.Common.{◌≡◌, IsUtf8}
use Rattle.std.specs.Str.{chars}
use Rattle.std.specs.Str.Iter.{chars_rest}
use Rattle.gabc_score.specs.declared.reading_again.SyllableRead.{SyllableRead}
use Rattle.gabc_score.specs.declared.reading_again.SyllableRead.TheVariants.{Open}
use Rattle.gabc_score.specs.declared.score_machine.ScoreMachine.{ScoreMachine}
use Rattle.gabc_score.specs.machine.ReadsSilently.{ReadsTextSilently}
use Rattle.gabc_score.specs.machine.ReadsChar.{StandsInBody}
use Rattle.gabc_score.proofs.score_machine.ScoreMachine.read_text_silently.Given as goal

-- what becomes of the syllable with the rest becomes of it with all
abbrev pub invariant-loop-c : goal.invariant-loop-c
invariant-loop-c l = record {
  can : goal.iterator-loop-c.can_next l.c-iterator;
  ends : goal.iterator-loop-c.is_finite l.c-iterator;
  utf8 : IsUtf8 (chars_rest l.c-iterator);
  stands : l.syllable ≡ Open → StandsInBody l.self;
  steps : (left : SyllableRead) (n : ScoreMachine) → ReadsTextSilently l.fn.is_strict l.syllable l.self (chars (chars_rest l.c-iterator)) left n → ReadsTextSilently l.fn.is_strict Open l.initial.self (chars l.fn.text) left n;
}
