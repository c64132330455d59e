use Rattle.std.proofs.Common.{◌≡◌, ℕ, List, [], Bool, true, not, ◌&&◌, arith}
use Rattle.gabc_places.specs.DecoderMachine.{is_unfinished}
use Rattle.gabc_places.proofs.laws.what_a_decoder_reports_may_be_reported.Goals as goal

none_pending : (p : List ℕ) (b : Bool) → (not (is_unfinished p) && b) ≡ true → p ≡ []
none_pending p b e = grind arith

pub returns : goal.returns
returns c = grind (arith, none_pending)
