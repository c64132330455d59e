-- A text of headers is read under limits that are enough for it as under those of its state.
use Rattle.std.proofs.Common.{◌≡◌, ◌↔◌, ◌≤◌, ℕ, List, Bool, IsTrue, arith}
use Rattle.gabc_places.specs.declared.limits.Limits.{Limits}
use Rattle.gabc_places.specs.declared.place.Place.{Place}
use Rattle.gabc_headers.specs.HeldText.{IsHeld}
use Rattle.gabc_headers.specs.Heads.{heads_of}
use Rattle.gabc_headers.specs.Lines.{bytes_len}
use Rattle.gregorio.specs.Saved.{GivesHeaders}
use Rattle.gregorio.specs.machine.Judging.{IsEnough}

module _ (alike : (limits other : Limits) (t : List ℕ) → IsHeld limits t → bytes_len t ≤ limits.header → bytes_len t ≤ other.header → heads_of other t ≡ heads_of limits t) where
  given_alike : (limits other : Limits) (t : List ℕ) (place : Place) (error : Bool) → bytes_len t ≤ limits.header → bytes_len t ≤ other.header → GivesHeaders limits t place error → GivesHeaders other t place error
  given_alike limits other t place error short shorter g = grind arith

  pub judged_alike : (limits small : Limits) (t : List ℕ) (len : ℕ) (place : Place) (error b : Bool) → bytes_len t ≡ len → IsEnough limits len small
      → IsTrue b ↔ GivesHeaders small t place error → IsTrue b ↔ GivesHeaders limits t place error
  judged_alike limits small t len place error b size h both = grind (arith, given_alike)
