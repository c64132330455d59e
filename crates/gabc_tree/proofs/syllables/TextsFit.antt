-- The text of a span has no more bytes than what it is part of.
use Rattle.std.proofs.Common.{◌≡◌, ◌+◌, ◌-◌, ◌<◌, ◌≤◌, ◌^◌, ℕ, List, [], length, Bool, true, false, cond, refl, arith}
use Rattle.std.specs.Prelude.{drop, nat_le, ◌&&◌}
use Rattle.std.proofs.lemmas.List.{length-take, length-drop}
use Rattle.gabc_places.specs.declared.place.Span.{Span}
use Rattle.gabc_body.specs.Syllable.{slice, text_at, is_seam}
use Rattle.gabc_tree.specs.Placed.{offset}

pub slice_len : (span : Span) (bytes : List ℕ) → length (slice span bytes) ≤ span.to - span.from
unfolding slice
slice_len span bytes = grind (arith, length-take)

slice_short : (span : Span) (bytes : List ℕ) → length (slice span bytes) ≤ length bytes
unfolding slice
slice_short span bytes = grind (arith, length-take, length-drop)

kept_by : (b : Bool) (n from : ℕ) (xs : List ℕ) → (b ≡ true → from + length xs ≤ n) → n < 2 ^ 32 → offset from + length (cond b xs []) < 2 ^ 32
kept_by true n from xs told lt = within from (length xs) n (told refl) lt
  where
    within : (from k n : ℕ) → from + k ≤ n → n < 2 ^ 32 → offset from + k < 2 ^ 32
    within from k n le lt = grind arith
kept_by false n from xs told lt = grind arith

-- where it begins and its length together are a number of 32 bits
pub text_fits : (span : Span) (bytes : List ℕ) → length bytes < 2 ^ 32 → offset span.from + length (text_at span bytes) < 2 ^ 32
text_fits span bytes lt = kept_by (nat_le span.from span.to && (nat_le span.to (length bytes) && (is_seam (drop span.from bytes) && is_seam (drop span.to bytes)))) (length bytes) span.from (slice span bytes) told lt
  where
    told : (nat_le span.from span.to && (nat_le span.to (length bytes) && (is_seam (drop span.from bytes) && is_seam (drop span.to bytes)))) ≡ true → span.from + length (slice span bytes) ≤ length bytes
    told is = grind (arith, slice_len)

short_by : (b : Bool) (n : ℕ) (xs : List ℕ) → length xs ≤ n → length (cond b xs []) ≤ n
short_by true n xs le = le
short_by false n xs le = grind arith

pub text_short : (span : Span) (bytes : List ℕ) → length bytes < 2 ^ 32 → length (text_at span bytes) < 2 ^ 32
text_short span bytes lt = grind (arith, short_by, slice_short)
