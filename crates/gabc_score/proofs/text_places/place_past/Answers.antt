use Rattle.std.proofs.Common.{arith, length-drop}
use Rattle.gabc_text.proofs.RegularBytes.{after_is}
use Rattle.gabc_score.proofs.PlacesByBytes.{places_agree, past_line, past_last}
use Rattle.gabc_score.proofs.text_places.place_past.Goals as goal

pub loop-end-preserved : goal.loop-end-preserved
loop-end-preserved c = grind (arith, after_is, length-drop, past_line)

pub returns-clause-place : goal.returns-clause-place
returns-clause-place c = grind (arith, past_last, places_agree)
