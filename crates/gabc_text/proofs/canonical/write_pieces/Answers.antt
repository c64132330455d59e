use Rattle.std.proofs.Common.{arith}
use Rattle.gabc_text.proofs.printing.TagsOfStyleSets.{none_listed}
use Rattle.gabc_text.proofs.printing.AfterTheLastPiece.{last_text}
use Rattle.gabc_text.proofs.printing.RunsOfKeptBytes.{text_from_next, taken_in_turn, first_after}
use Rattle.gabc_text.proofs.canonical.write_pieces.Goals as goal

pub loop-next-init : goal.loop-next-init
loop-next-init g c = grind (arith, first_after, none_listed)

pub loop-next-preserved : goal.loop-next-preserved
loop-next-preserved g c = grind (arith, text_from_next, taken_in_turn)

pub returns : goal.returns
returns g c = grind (arith, last_text, none_listed)
