-- Both parts of the empty list are empty.
use Rattle.std.proofs.Common.{◌≡◌, List, [], ◌∷◌, ◌++◌, refl, sym}

pub append_none : {X : Type 0} (a b : List X) → [] ≡ a ++ b → (a ≡ []) × (b ≡ [])
append_none [] b e = (refl, sym e)
append_none (x ∷ a) b e = absurd (cc)
