use Rattle.gabc_score.proofs.regular_syllables.BytesOfRegularSyllables.{split_boundary}
use Rattle.gabc_score.proofs.waiting.Waiting.none.Goals as goal

pub split_at-requires : goal.split_at-requires
split_at-requires c = split_boundary c.args.text.now c.args.gap c.utf8.text c.requires
