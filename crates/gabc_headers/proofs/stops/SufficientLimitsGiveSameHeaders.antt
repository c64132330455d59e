-- Pending headers, under other limits that are no less than their bytes.
use Rattle.std.proofs.Common.{◌≡◌, ℕ, ◌+◌, ◌-◌, ◌<◌, ◌≤◌, suc, zero, List, [], ◌∷◌, Bool, true, false, refl, sym, ap, ◌∙◌, arith, length, take, Option, Some, None, Err}
use Rattle.std.specs.Char.{len_utf8}
use Rattle.gabc_places.proofs.NumbersByTests.{below_eqb}
use Rattle.gabc_places.specs.declared.limits.Limits.{Limits}
use Rattle.gabc_places.specs.Findings.{Stop}
use Rattle.gabc_headers.specs.HeldText.{IsHeld}
use Rattle.gabc_headers.specs.Lines.{bytes_len}
use Rattle.gabc_headers.specs.declared.heads.HeadFault.{HeadFault}
use Rattle.gabc_headers.specs.Heads.{head_len, first_above, too_long, text_stops, heads_of}
use Rattle.gabc_headers.specs.witness.Heads.{heads_by}
use Rattle.gabc_headers.proofs.stops.LargerLimits.{earliest_of, heads_are, same_fault}
use Rattle.gabc_headers.proofs.stops.PointsOfStops.{score_within}
use Rattle.gabc_headers.proofs.entries.TextsAsBytes.{bytes_len-cons}

take_bytes : (n : ℕ) (t : List ℕ) → bytes_len (take n t) ≤ bytes_len t
take_bytes zero t = omega arith
take_bytes (suc n) [] = omega arith
take_bytes (suc n) (c ∷ t) = let h : bytes_len (take n t) ≤ bytes_len t = take_bytes n t in omega (arith, bytes_len-cons c (take n t), bytes_len-cons c t)

pub none_above : (limit : ℕ) (t : List ℕ) → bytes_len t ≤ limit → first_above limit t ≡ None
none_above limit [] h = refl
none_above limit (c ∷ t) h = grind (arith, none_above (limit - len_utf8 c) t (omega (arith, bytes_len-cons c t)), bytes_len-cons)

not_long : (limit : ℕ) (t : List ℕ) → bytes_len t ≤ limit → text_stops limit t ≡ []
not_long limit t h = let few = take_bytes (head_len t) t in ap (too_long t) (none_above limit (take (head_len t) t) (omega arith))

ends_inside : (t : List ℕ) (s : Stop) (f : HeadFault) → s.point < length t → heads_by t (Some s) ≡ Err f → f.at_end ≡ true → true ≡ false
ends_inside t s f l e end = sym end ∙ (sym (ap (λ (f : HeadFault). f.at_end) (same_fault _ f e)) ∙ below_eqb s.point (length t) l)

-- with a line `%%` the headers are not stopped by the end
never_at_end : (t : List ℕ) (f : HeadFault) (o : Option ℕ) (x y : Bool) → head_len t + 2 ≤ length t → heads_by t (earliest_of t true o x y) ≡ Err f → f.at_end ≡ true → true ≡ false
never_at_end t f o x y w e end = grind (arith, ends_inside)

pub held_alike : (limits other : Limits) (t : List ℕ) → IsHeld limits t → bytes_len t ≤ limits.header → bytes_len t ≤ other.header → heads_of other t ≡ heads_of limits t
held_alike limits other t h small large = grind (arith, heads_are, not_long, never_at_end, score_within)
