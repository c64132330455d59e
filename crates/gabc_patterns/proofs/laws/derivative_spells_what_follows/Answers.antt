use Rattle.gabc_patterns.proofs.DerivativesSpellWhatFollows.{after_to, after_from, end_from, end_to}
use Rattle.gabc_patterns.proofs.laws.derivative_spells_what_follows.Goals as goal

pub returns : goal.returns
returns c = record { to = after_to; from = after_from; end = λ p. (end_from p, end_to p) }
