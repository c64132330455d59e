-- Calls one after the other: which are late, and whether an end goes on.
use Rattle.std.proofs.Common.{◌≡◌, Bool, false, if◌then◌else◌, ℕ, ◌+◌, ◌<◌, arith, refl, ap, ◌∙◌}
use Rattle.std.proofs.Math.Bool.{or-false}
use Rattle.gabc_places.specs.Calls.{Calls, NoneLate, GoesOn, FailsOnce, is_end, after_answer, after_failure}

in_time : (b : Bool) (late : ℕ) → b ≡ false → (if b then late + 1 else late) ≡ late
in_time b late h = grind arith

-- ---- one call

pub answered : (old new : Calls) → new ≡ after_answer false old → GoesOn old new
answered old new h = grind (arith, or-false, in_time)

pub failed : (old new : Calls) → new ≡ after_failure old → FailsOnce old new
failed old new h = grind (arith, in_time)

no_end : (count length : ℕ) → 0 < count → is_end count length ≡ false
no_end count length some = grind arith

-- a read that gave some bytes
pub read_some : (count length : ℕ) (old new : Calls) → 0 < count → new ≡ after_answer (is_end count length) old → GoesOn old new
read_some count length old new some h = answered old new (h ∙ ap (λ (b : Bool). after_answer b old) (no_end count length some))

-- ---- calls after others

pub goes_on_here : (c : Calls) → GoesOn c c
goes_on_here c = record { failures = refl; is_stopped = refl; none_late = λ runs. refl }

late_after : (a b c : Calls) → GoesOn a b → NoneLate b c → NoneLate a c
late_after a b c first last runs = last (first.is_stopped ∙ runs) ∙ first.none_late runs

pub goes_on_after : (a b c : Calls) → GoesOn a b → GoesOn b c → GoesOn a c
goes_on_after a b c first last = grind (arith, late_after)

pub fails_after : (a b c : Calls) → GoesOn a b → FailsOnce b c → FailsOnce a c
fails_after a b c first last = grind (arith, late_after)
