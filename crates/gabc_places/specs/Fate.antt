-- The fates of a character.
use Rattle.std.specs.Prelude.{Option}
use Rattle.gabc_places.specs.declared.code.Code.{Code}

-- It is kept, it begins a comment, it ends its part, or it is left out, with a finding of that code
-- or without one.
pub data Fate : Type 0 where
  Keep Comment Ends : Fate
  LeaveOut : Option Code → Fate
