-- The items of a list by the places where they begin and end.
use Rattle.std.specs.Prelude.{◌≡◌, ◌<◌, ◌≤◌, ℕ, List, [], ◌∷◌, slice_range, length, drop}
use Rattle.gabc_patterns.specs.LongestItems.{Table, Longest, IsItemOf, HasSome}

-- the longest item of the list that begins at from: it is of that kind, and ends at to
pub record IsTakenAt {K X : Type 0} (Has : K → List X → Type 0) (t : List X) (from : ℕ) (kind : K) (to : ℕ) : Type 0 where
  pub after : from < to
  pub within : to ≤ length t
  pub item : Has kind (slice_range t from to)
  pub longest : Longest (HasSome Has) (slice_range t from to) (drop to t)

-- a kind, and the places where an item of it begins and ends
abbrev pub ItemSpan : Type 0 → Type 0
ItemSpan K = K × ℕ × ℕ

-- from there to there, each piece begins where the one before it ends
abbrev pub FollowOn : {K : Type 0} → ℕ → List (ItemSpan K) → ℕ → Type 0
FollowOn from [] to = from ≡ to
FollowOn from (i ∷ is) to = (i.1 ≡ from) × FollowOn i.2 is to

-- so for a table: the longest item of the text that begins there
abbrev pub IsItemAt : {K : Type 0} → Table K → List ℕ → ℕ → K → ℕ → Type 0
IsItemAt rows = IsTakenAt (IsItemOf rows)
