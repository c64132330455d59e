use Rattle.gabc_places.specs.Text.{with_previous, utf8_prefix_of}
use Rattle.std.proofs.Common.{take}
use Rattle.gabc_places.proofs.texts.TextIsReadLineByLine.{plain-kept}
use Rattle.gabc_places.proofs.laws.texts_are_plain.Goals as goal

pub returns : goal.returns
returns c = λ limit bytes. plain-kept (with_previous (utf8_prefix_of (take limit bytes)))
