-- The line `%%` alone is whole headers: a fresh stage into which it is pushed stands after them.
use Rattle.std.proofs.Common.{◌≡◌, List, [], ◌∷◌, ◌++◌, Bool, false, cond, nat_lt, Some, None, Ok, refl, arith}
use Rattle.std.proofs.lemmas.Bool.{le-ltb}
use Rattle.std.specs.declared.hash.DefaultHasher.{DefaultHasher}
use Rattle.gabc_places.specs.Findings.{earliest}
use Rattle.gabc_places.specs.declared.code.Code.TheVariants.{F2, F4, F7}
use Rattle.gabc_places.specs.declared.limits.Limits.{Limits}
use Rattle.gabc_places.specs.declared.place.Char.{Char}
use Rattle.gabc_headers.specs.HeldText.{inputs_of, text_in}
use Rattle.gabc_headers.specs.Heads.{line_place, stop_at, too_long}
use Rattle.gabc_headers.specs.witness.Heads.{heads_by}
use Rattle.gabc_headers.specs.witness.HeadEvents.{reading, after_headers, fresh_stage, progress_by, progress_with, stage_past}
use Rattle.gregorio.specs.machine.HeldHeaders.{after_mark}

-- if no limit is passed
one_by : (b : Bool) → b ≡ false
    → progress_by (37 ∷ []) (heads_by (37 ∷ []) (earliest (too_long (37 ∷ []) (cond b (Some 0) None) ++ stop_at 1 (record { line = 1; column = 2 }) F2 ∷ []))) ≡ reading (37 ∷ [])
one_by b e = rw e refl

two_by : (b d : Bool) → b ≡ false → d ≡ false
    → progress_by (37 ∷ 37 ∷ []) (heads_by (37 ∷ 37 ∷ []) (earliest (cond b (stop_at 1 (line_place 1) F4 ∷ []) [] ++ cond d (stop_at 1 (line_place 1) F7 ∷ []) []))) ≡ after_headers []
two_by b d e f = rw (e, f) refl

one_percent : (limits : Limits) → progress_with limits [] 37 ≡ reading (37 ∷ [])
one_percent limits = one_by (nat_lt limits.header 1) (le-ltb limits.header 1 (let h = limits.in_range.header_least in omega (arith, h)))

two_percents : (limits : Limits) → progress_with limits (37 ∷ []) 37 ≡ after_headers []
two_percents limits = grind (arith, two_by, le-ltb)

after_two : (limits : Limits) (hasher : DefaultHasher) (x y : Char) → x.c ≡ 37 → y.c ≡ 37 → stage_past (fresh_stage limits hasher) (Ok x ∷ Ok y ∷ []) ≡ after_mark limits hasher
after_two limits hasher x y one two = grind (arith, one_percent, two_percents)

-- wherever its characters are said to stand
pub mark_ends : (limits : Limits) (hasher : DefaultHasher) (xs : List Char) → text_in xs ≡ 37 ∷ 37 ∷ [] → stage_past (fresh_stage limits hasher) (inputs_of xs) ≡ after_mark limits hasher
mark_ends limits hasher (x ∷ y ∷ []) is = after_two limits hasher x y (cc is) (cc is)
mark_ends limits hasher _ is = absurd (cc is)
