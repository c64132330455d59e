use Rattle.std.proofs.Common.{arith}
use Rattle.gabc_score.proofs.regular_syllables.SlicesAreRead.{notes_cut}
use Rattle.gabc_tree.proofs.taking.notes_from.Goals as goal

pub overflow_add-from : goal.overflow_add-from
overflow_add-from c = let cut = notes_cut c.args.syllable c.requires in omega (arith, cut.0)

pub overflow_add-result : goal.overflow_add-result
overflow_add-result c = let cut = notes_cut c.args.syllable c.requires in omega (arith, cut.0)
