-- Limits are nothing but their numbers.
use Rattle.std.proofs.Common.{◌≡◌, ℕ, ap, subst}
use Rattle.std.proofs.Props.{props}
use Rattle.gabc_places.specs.Limits.{AreLimits}
use Rattle.gabc_places.specs.declared.limits.Limits.{Limits}

-- limits are in range in one way only
in_range_once : (a b c : ℕ) → IsProp (AreLimits a b c)
in_range_once a b c = hlevel props

abbrev made : (a b c : ℕ) → AreLimits a b c → Limits
made a b c r = record { header = a; syllable = b; input = c; in_range = r }

by : (a b c x y z : ℕ) (r : AreLimits a b c) → a ≡ x → b ≡ y → c ≡ z → (q : AreLimits x y z) → made a b c r ≡ made x y z q
by a b c x y z r h s i =
    subst (λ (n : ℕ). (q : AreLimits n y z) → made a b c r ≡ made n y z q) h
    (subst (λ (n : ℕ). (q : AreLimits a n z) → made a b c r ≡ made a n z q) s
    (subst (λ (n : ℕ). (q : AreLimits a b n) → made a b c r ≡ made a b n q) i
    (λ q. ap (made a b c) (in_range_once a b c r q))))

-- limits with the same numbers are the same
pub same_limits : (one other : Limits) → one.header ≡ other.header → one.syllable ≡ other.syllable → one.input ≡ other.input → one ≡ other
same_limits one other h s i = by one.header one.syllable one.input other.header other.syllable other.input one.in_range h s i other.in_range
