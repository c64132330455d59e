-- The request of a step, by the numbers that it is given.
use Rattle.std.specs.Prelude.{◌≡◌, ℕ, List, [], ◌∷◌, Some}
use Rattle.gabc_places.specs.declared.limits.Limits.{Limits}
use Rattle.gabc_places.specs.Limits.{AreUsual}
use Rattle.gregorio_c.specs.declared.options.Options.{Options}
use Rattle.gregorio_c.specs.declared.request.Request.{Request}
use Rattle.gregorio_c.specs.Request.{request_by}

-- the limits of these options
pub record HasLimits (o : Options) (limits : Limits) : Type 0 where
  pub header : limits.header ≡ o.header
  pub syllable : limits.syllable ≡ o.syllable
  pub input : limits.input ≡ o.input
  pub reserved : o.reserved ≡ 0

-- without options they are the default ones, and more than one are none
abbrev pub AreLimitsOf : List Options → Limits → Type 0
AreLimitsOf [] limits = AreUsual limits.header limits.syllable limits.input
AreLimitsOf (o ∷ []) limits = HasLimits o limits
AreLimitsOf (o ∷ p ∷ more) limits = ⊥

-- a request and limits, if all numbers are known and in range
pub record AsksFor (format flags : ℕ) (options : List Options) (request : Request) (limits : Limits) : Type 0 where
  pub request_is : request_by format flags ≡ Some request
  pub limits_are : AreLimitsOf options limits

-- the numbers ask for nothing
abbrev pub AsksForNothing : ℕ → ℕ → List Options → Type 0
AsksForNothing format flags options = (request : Request) (limits : Limits) → AsksFor format flags options request limits → ⊥
