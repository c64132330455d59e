-- Numbers ask for one thing.
use Rattle.std.proofs.Common.{◌≡◌, ℕ, List, arith}
use Rattle.gabc_places.proofs.LimitsAreNumbers.{same_limits}
use Rattle.gabc_places.specs.declared.limits.Limits.{Limits}
use Rattle.gregorio_c.specs.Asked.{AreLimitsOf, AsksFor}
use Rattle.gregorio_c.specs.declared.options.Options.{Options}
use Rattle.gregorio_c.specs.declared.request.Request.{Request}

limits_once : (options : List Options) (one other : Limits) → AreLimitsOf options one → AreLimitsOf options other → one ≡ other
limits_once options one other a b = grind (arith, same_limits)

-- what holds of what they ask for holds whatever they are said to ask for
pub for_any : (format flags : ℕ) (options : List Options) (one : Request) (limits : Limits) → AsksFor format flags options one limits
    → (Holds : Request → Limits → Type 0) → Holds one limits → (request : Request) (other : Limits) → AsksFor format flags options request other → Holds request other
for_any format flags options one limits a h holds request other b = grind (arith, limits_once)
