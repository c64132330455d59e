-- The step of a decoder at a byte of a longer character.
use Rattle.std.specs.Prelude.{ℕ, [], ◌∷◌, ◌++◌}
use Rattle.gabc_places.specs.DecoderMachine.{DecoderState}
use Rattle.gabc_places.specs.witness.DecoderEvents.{DecoderStep, take_pending}
use Rattle.gabc_places.specs.Text.{utf8_prefix_of, tail_of}

-- a byte after those that are pending, which is counted already
abbrev pub take_part : ℕ → DecoderState → DecoderStep
take_part x s =
    let bytes = s.pending ++ x ∷ [] in
    take_pending bytes (utf8_prefix_of bytes) (tail_of bytes) (record s { pending = [] })
