use Rattle.gabc_body.proofs.within_limits.SyllablesAreFew.{syllables_few}
use Rattle.gabc_body.proofs.laws.syllables_are_fewer_than_bytes.Goals as goal

pub returns : goal.returns
returns c limits ending t = syllables_few limits ending t (c.given_syllables_are_within_the_limits.ensures limits ending t)
