use Rattle.gabc_text.proofs.printing.CanonicalTextIsPrinted.{canonical_is}
use Rattle.gabc_text.proofs.laws.canonical_is_printed.Goals as goal

pub returns : goal.returns
returns c whole t h = canonical_is whole t h
