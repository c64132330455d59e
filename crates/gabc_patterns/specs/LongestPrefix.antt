-- The longest prefix of a text that is of some kind.
use Rattle.std.specs.Prelude.{◌≡◌, ◌≤◌, ℕ, List, ◌++◌, length, take, encode_utf8_all}
use Rattle.std.specs.Str.{chars}
use Rattle.std.specs.String.Boundary.{IsSplitPoint}

-- The longest prefix of the text of which this holds has n bytes.
pub record IsLongestPrefix (P : List ℕ → Type 0) (text : List ℕ) (n : ℕ) : Type 0 where
  pub within : IsSplitPoint text n
  pub is : P (chars (take n text))
  pub longest : (t rest : List ℕ) → chars text ≡ t ++ rest → P t → length (encode_utf8_all t) ≤ n
