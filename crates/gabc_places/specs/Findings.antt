-- Findings and stops with the points at which they become known. A point is an index into the text;
-- its length is the end.
use Rattle.std.specs.Prelude.{◌≡◌, ℕ, ◌<◌, ◌≤◌, ◌==◌, ◌||◌, ◌&&◌, nat_lt, List, [], ◌∷◌, map, filter, if◌then◌else◌, Option, None, Some, ◌⊎◌}
use Rattle.gabc_places.specs.declared.code.Finding.{Finding}
use Rattle.gabc_places.specs.declared.place.Place.{Place}
use Rattle.gabc_places.specs.declared.code.Fault.{Fault}
use Rattle.gabc_places.specs.Code.{rank_of}

-- a finding and the point at which it becomes known
pub record Known : Type 0 where
  pub point : ℕ
  pub finding : Finding

-- the findings that become known before a point
abbrev pub findings_before : ℕ → List Known → List Finding
findings_before stop knowns = map (λ (k : Known). k.finding) (filter (λ (k : Known). nat_lt k.point stop) knowns)

-- f comes before g: at an earlier place, or at the same place with a lower code
abbrev pub ComesBefore : Finding → Finding → Type 0
ComesBefore f g = (f.place.line < g.place.line) ⊎ ((f.place.line ≡ g.place.line) × ((f.place.column < g.place.column) ⊎ ((f.place.column ≡ g.place.column) × (rank_of f.code < rank_of g.code))))

-- each finding comes before the next one: sorted, and none twice
abbrev pub ComeAfter : Finding → List Finding → Type 0
ComeAfter f [] = Unit {0}
ComeAfter f (g ∷ gs) = ComesBefore f g × ComeAfter g gs

abbrev pub AreInOrder : List Finding → Type 0
AreInOrder [] = Unit {0}
AreInOrder (f ∷ fs) = ComeAfter f fs

-- p is no later than q
abbrev pub IsUpTo : Place → Place → Type 0
IsUpTo p q = (p.line < q.line) ⊎ ((p.line ≡ q.line) × (p.column ≤ q.column))

-- each of the findings is at p or later, and no later than q
abbrev pub LieBetween : Place → Place → List Finding → Type 0
LieBetween p q [] = Unit {0}
LieBetween p q (f ∷ fs) = (IsUpTo p f.place × IsUpTo f.place q) × LieBetween p q fs

-- a fault and the point at which it stops the run
pub record Stop : Type 0 where
  pub point : ℕ
  pub fault : Fault

-- s is no later than t: at an earlier point, or at the same point with no higher code
abbrev pub IsNoLater : Stop → Stop → Type 0
IsNoLater s t = (s.point < t.point) ⊎ ((s.point ≡ t.point) × (rank_of s.fault.code ≤ rank_of t.fault.code))

-- the one with the earlier point, at one point the one with the lower number
abbrev pub earlier : Stop → Stop → Stop
earlier a b = if nat_lt b.point a.point || ((b.point == a.point) && nat_lt (rank_of b.fault.code) (rank_of a.fault.code)) then b else a

-- the earliest of the stops, if there is one
abbrev pub or_earlier : Stop → Option Stop → Stop
or_earlier a None = a
or_earlier a (Some b) = earlier a b

abbrev pub earliest : List Stop → Option Stop
earliest [] = None
earliest (s ∷ ss) = Some (or_earlier s (earliest ss))
