-- The numbers that signs say are small.
use Rattle.std.proofs.Common.{◌≤◌, ℕ, ◌==◌, Bool, true, false, List, [], ◌∷◌, min, arith, if◌then◌else◌}
use Rattle.gabc_tree.specs.Signs.{Suffix, side_by, with_cover, covered}
use Rattle.gabc_tree.specs.declared.signs.Covered.{Covered}
use Rattle.gabc_tree.specs.declared.signs.Side.{Side}
use Rattle.gabc_tree.specs.declared.signs.Side.TheVariants as side

-- at most 7 notes at each side
abbrev pub AreFew : Covered → Type 0
AreFew c = (c.auto ≤ 7) × (c.over ≤ 7) × (c.under ≤ 7)

more : (c : Covered) (s : Side) (n : ℕ) → AreFew c → AreFew (with_cover c s (min 7 n))
more c side.Auto n h = (omega (arith, h.0), h.1, h.2)
more c side.Over n h = (h.0, omega (arith, h.1), h.2)
more c side.Under n h = (h.0, h.1, omega (arith, h.2))

-- an episema covers at most 7 notes
pub are_few : (ss : List Suffix) → AreFew (covered ss)
are_few [] = (omega arith, omega arith, omega arith)
are_few (s ∷ ss) = go (s.sign == 95) (are_few ss)
  where
    go : (b : Bool) → AreFew (covered ss) → AreFew (if b then with_cover (covered ss) (side_by s.digits) (min 7 s.count) else covered ss)
    go true h = more (covered ss) (side_by s.digits) s.count h
    go false h = h
