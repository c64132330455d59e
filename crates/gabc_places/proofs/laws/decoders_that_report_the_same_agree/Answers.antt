use Rattle.gabc_places.proofs.decoding.DecodersAgree.{same_told}
use Rattle.gabc_places.proofs.laws.decoders_that_report_the_same_agree.Goals as goal

pub returns : goal.returns
returns c = same_told
