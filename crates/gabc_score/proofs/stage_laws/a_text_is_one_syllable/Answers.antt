use Rattle.gabc_score.proofs.resuming.OneSyllable.{one_syllable}
use Rattle.gabc_score.proofs.stage_laws.a_text_is_one_syllable.Goals as goal

pub returns : goal.returns
returns c = one_syllable
