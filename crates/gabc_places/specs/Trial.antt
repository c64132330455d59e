-- Ends for trials.
use Rattle.std.specs.Prelude.{ℕ, ◌-◌, min, List, length, Option, Some, None}
use Rattle.gabc_places.specs.Calls.{Calls}

-- a source that has these bytes left, supplies at most `most` a read, and fails after n bytes more,
-- if it was asked to
pub record SourceState : Type 0 where
  pub rest : List ℕ
  pub most : ℕ
  pub fails_after : Option ℕ
  pub calls : Calls

-- a sink that holds these bytes, takes at most `most` a write, and fails if it holds `fails_at` and
-- is given more
pub record SinkState : Type 0 where
  pub held : List ℕ
  pub most : ℕ
  pub fails_at : ℕ
  pub calls : Calls

-- at most n, if it was asked to
abbrev pub at_most : Option ℕ → ℕ → ℕ
at_most None n = n
at_most (Some left) n = min n left

-- the number of bytes of a read into a buffer of this length
abbrev pub read_count : SourceState → ℕ → ℕ
read_count s room = at_most s.fails_after (min (min (length s.rest) room) s.most)

-- the number of bytes that a write takes of n
abbrev pub write_count : SinkState → ℕ → ℕ
write_count s count = min (min count (s.fails_at - length s.held)) s.most
