use Rattle.gabc_score.proofs.regular_syllables.SlicesAreRead.{text_cut}
use Rattle.gabc_score.proofs.spelled.SpelledSyllable.text.Goals as goal

pub split_at-requires : goal.split_at-requires
split_at-requires c = text_cut c.args.self c.requires
