use Rattle.std.proofs.Common.{arith}
use Rattle.gabc_score.proofs.regular_syllables.StagesReadRegularSyllables.{stage_emits}
use Rattle.gabc_score.proofs.regular_laws.a_stage_reads_a_regular_syllable_as_it_stands.Goals as goal

pub returns : goal.returns
returns c lines macros at r xs h fits = grind (arith, stage_emits)
