-- The parts that the lines of the headers make: what is left out, the headers, and a value that is
-- not ended.
use Rattle.std.specs.Prelude.{ℕ, List, [], ◌∷◌, Bool, false, cond, Option, Some, None, nat_le}
use Rattle.gabc_headers.specs.Lines.{bytes_len, before_colon, trim_name, trim_value}

pub data HeaderPart : Type 0 where
  -- a line or a header that is left out: the number of its line, and the point at which that
  -- becomes known
  left_out : ℕ → ℕ → HeaderPart
  -- a header: the number of its first line, its name, its value, and the point at which its end
  -- becomes known
  header : ℕ → List ℕ → List ℕ → ℕ → HeaderPart
  -- a value that is not ended: the number of its header's first line
  unended : ℕ → HeaderPart

-- a name has 1 to 64 bytes
abbrev pub is_good_name : List ℕ → Bool
is_good_name [] = false
is_good_name (c ∷ l) = nat_le (bytes_len (c ∷ l)) 64

abbrev pub good_name : List ℕ → Option (List ℕ)
good_name name = cond (is_good_name name) (Some name) None

-- the name of a header's first line, unless the header is left out for it
abbrev pub name_of : List ℕ → Option (List ℕ)
name_of l = good_name (trim_name (before_colon l))

-- a header that ends
abbrev pub ended_parts : ℕ → Option (List ℕ) → List ℕ → ℕ → List HeaderPart
ended_parts k None v p = []
ended_parts k (Some name) v p = header k name (trim_value v) p ∷ []

-- a name that is left out, known at the `:`
abbrev pub bad_name_parts : ℕ → Option (List ℕ) → ℕ → List HeaderPart
bad_name_parts k None p = left_out k p ∷ []
bad_name_parts k (Some name) p = []
