use Rattle.gabc_patterns.proofs.KeptTextIsKeptAgain.{keeps_again, kept_again, kept_snippet}
use Rattle.gabc_patterns.proofs.laws.kept_text_is_kept_again.Goals as goal

pub returns : goal.returns
returns g c = record { keeps = λ rows. keeps_again rows; is_kept_text = λ rows. kept_again rows; snippet = λ rows. kept_snippet rows }
