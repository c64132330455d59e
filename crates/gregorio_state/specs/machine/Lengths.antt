-- Texts whose length can be written.
use Rattle.std.specs.Prelude.{◌^◌, ◌<◌, length}
use Rattle.gregorio_state.specs.Fields.{PhaseFields, InHeaders, InScore}

-- the length of each text fits 4 bytes
abbrev pub AreShort : PhaseFields → Type 0
AreShort (InHeaders headers) = length headers < 2 ^ 32
AreShort (InScore s) = (length s.held < 2 ^ 32) × (length s.kept < 2 ^ 32)
