-- Texts that are longer than they may be, which larger limits would let pass.
use Rattle.std.specs.Prelude.{Bool, true, false, Option, Some, None}
use Rattle.gabc_places.specs.declared.code.Code.{Code}
use Rattle.gabc_places.specs.declared.code.Code.TheVariants.{F4, F5}
use Rattle.gabc_places.specs.declared.code.Fault.{Fault}

-- the headers, or a syllable, are longer than they may be
abbrev pub is_too_long : Code → Bool
is_too_long F4 = true
is_too_long F5 = true
is_too_long code = false

-- that is what stopped the reading
abbrev pub is_stopped_too_long : Option Fault → Bool
is_stopped_too_long None = false
is_stopped_too_long (Some fault) = is_too_long fault.code
