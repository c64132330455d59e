-- The first bytes of a text, and the number of all its bytes.
use Rattle.std.specs.Prelude.{◌≡◌, ℕ, ◌-◌, ◌^◌, min, List, length, take}
use Rattle.gregorio_c.specs.declared.first_bytes.FirstBytes.{FirstBytes}

-- it has taken this text: it keeps as many bytes as it has room for, and has counted all, up to the
-- last value of a `usize`
pub record Keeps (f : FirstBytes) (text : List ℕ) : Type 0 where
  pub first : f.first.items ≡ take f.first.limit text
  pub counted : f.counter ≡ min (length text) (2 ^ 64 - 1)
