use Rattle.gabc_places.proofs.decoding.PlainTextsAreReadAgain.{read_again}
use Rattle.gabc_places.proofs.laws.text_again.Goals as goal

pub returns : goal.returns
returns c = read_again
