use Rattle.gabc_score.proofs.keeping.KeptOfCharacters.{one_syllable_alike}
use Rattle.gabc_score.proofs.stage_laws.one_syllable_keeps_no_more_than_its_text.Goals as goal

pub returns : goal.returns
returns c lines macros t spans limit other m enough one = one_syllable_alike lines macros t spans limit other m enough one
