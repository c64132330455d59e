use Rattle.gabc_text.proofs.spans.CentreLiesAmongPieces.{view_stands, spanned_is}
use Rattle.std.proofs.Common.{refl}
use Rattle.gabc_text.proofs.printing.CanonicalTextIsPrinted.{centre_same}
use Rattle.gabc_text.proofs.laws.spans_stand_for_the_view.Goals as goal

pub returns : goal.returns
returns c = record {
  view = view_stands;
  bytes = spanned_is;
  starts = λ t. refl;
  centre = centre_same;
}
