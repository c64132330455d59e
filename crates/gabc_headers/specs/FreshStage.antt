-- The events of a stage of headers from its first character on.
use Rattle.std.specs.Prelude.{◌≡◌, ℕ, List, []}
use Rattle.std.specs.Char.{IsScalar}
use Rattle.std.specs.List.{All}
use Rattle.gabc_places.specs.declared.limits.Limits.{Limits}
use Rattle.gabc_places.specs.StageLaw.{concat_of}
use Rattle.gabc_headers.specs.Heads.{heads_of}
use Rattle.gabc_headers.specs.HeadEvents.{events_of_heads, inputs_after}
use Rattle.gabc_headers.specs.witness.HeadEvents.{HeaderStageState, events_left}

-- Of each text, given character by character, the stage emits the events of its headers under these
-- limits.
abbrev pub EmitsHeaders : Limits → HeaderStageState → Type 0
EmitsHeaders limits s = (t : List ℕ) → All IsScalar t → concat_of (events_left s.limits s.progress (inputs_after [] t)) ≡ events_of_heads t (heads_of limits t)
