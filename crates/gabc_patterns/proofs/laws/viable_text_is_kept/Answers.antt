use Rattle.std.proofs.Common.{[]}
use Rattle.gabc_patterns.proofs.KeptTextIsKeptAgain.{keeps_all, trims_all, snippet_kept}
use Rattle.gabc_patterns.proofs.laws.viable_text_is_kept.Goals as goal

pub returns : goal.returns
returns g c = record { keeps = λ rows. keeps_all rows []; trims = λ rows. trims_all rows; is_kept_text = λ rows. snippet_kept rows }
