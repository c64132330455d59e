use Rattle.std.proofs.Common.{◌≡◌, ℕ, List, [], ◌++◌, length, take, arith}
use Rattle.std.proofs.Math.Seq.{take-append_seam}
use Rattle.gabc_places.specs.BoundedList.{BoundedList, extended_by}
use Rattle.gabc_places.specs.StageLaw.{concat_of}
use Rattle.gabc_places.specs.machine.StageLaw.{PushesAll}
use Rattle.gabc_places.proofs.laws.a_decoder_emits_what_is_known.Goals as goal

-- what pushes of all of xs emitted are the first lists
emitted_are : {I O : Type 0} (before after : List I → List (List O)) (xs : List I) (most : ℕ) (old new : BoundedList O) (known : List O) → PushesAll before after xs most old new
    → concat_of (take (length xs) (before (xs ++ []))) ≡ known → new ≡ extended_by old known
emitted_are before after xs most old new known p e = grind (arith, take-append_seam)

pub returns : goal.returns
returns c = emitted_are _ _ _ _ _ _ _ c.push_all.ensures.events (c.new-decoder.ensures.known c.args.bytes.now [])
