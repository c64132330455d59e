use Rattle.std.proofs.Common.{refl, arith}
use Rattle.gabc_score.proofs.regular_syllables.SlicesAreRead.{notes_cut, snippets_come}
use Rattle.gabc_score.proofs.spelled.SpelledSyllable.snippets.Goals as goal

pub overflow_add-self : goal.overflow_add-self
overflow_add-self c = let cut = notes_cut c.args.self c.requires in omega (arith, cut.0)

pub split_at-requires : goal.split_at-requires
split_at-requires c = notes_cut c.args.self c.requires

pub returns : goal.returns
returns c = λ is. snippets_come c.args.self is _ refl refl refl c.split_at.ensures.back
