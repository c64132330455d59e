-- Where a decoder stands after a text.
use Rattle.std.proofs.Common.{◌≡◌, ℕ, ◌+◌, ◌-◌, ◌<◌, zero, suc, true, false, not, List, [], ◌∷◌, ◌++◌, length, Result, Ok, refl, ap, ap₂, sym, subst, arith, length-append, IsUtf8}
use Rattle.std.proofs.lemmas.Bool.{and_parts, and_right}
use Rattle.std.proofs.lemmas.List.Elements.{All-head, All-tail}
use Rattle.std.proofs.lemmas.Str.{length-encode, len_utf8_bounds, encodes-chars, scalars-chars}
use Rattle.std.specs.Char.{IsScalar, len_utf8}
use Rattle.std.specs.List.{All}
use Rattle.std.specs.Str.{chars}
use lib.Utf8.{encode, encodes, scalars}
use Rattle.gabc_places.specs.declared.place.Char.{Char}
use Rattle.gabc_places.specs.declared.place.Place.{Place}
use Rattle.gabc_places.specs.declared.code.Fault.{Fault}
use Rattle.gabc_places.specs.Place.{next_place, place_past}
use Rattle.gabc_places.specs.Skip.{character_events, text_events}
use Rattle.gabc_places.specs.TextOfAnInput.{IsPlain}
use Rattle.gabc_places.specs.DecoderMachine.{DecoderState, is_unfinished}
use Rattle.gabc_places.specs.DecoderReports.{MovesOn, MovesThrough, is_after_cr}
use Rattle.gabc_places.proofs.decoding.TextsAreEmitted.{one_each}
use Rattle.gabc_places.proofs.decoding.TextsAreSkipped.{lists_for, moved_past}

-- the character before is no CR
no_return_kept : (s : DecoderState) (n : ℕ) (p : Place) → is_after_cr (moved_past s n p) ≡ false
no_return_kept s n p = and_right (not (is_unfinished s.pending)) false refl

-- ---- a character

quiet_byte : (s : DecoderState) → MovesOn s [] (moved_past s 1 s.place)
quiet_byte s = record { limit = refl; taken = (omega arith, omega arith); here = tt; place = refl; ended = refl; plain = tt; cr = λ runs cr. absurd (let no = no_return_kept s 1 s.place in cc) }

last_byte : (c : ℕ) (s : DecoderState) → IsScalar c → IsPlain c → MovesOn s (Ok (record { c = c; place = s.place }) ∷ []) (moved_past s 1 (next_place s.place c))
last_byte c s scalar plain = grind (arith, no_return_kept)

bytes_of_one : (c : ℕ) → IsScalar c → IsPlain c → (n : ℕ) (s : DecoderState) → MovesThrough s (lists_for n (record { c = c; place = s.place })) (moved_past s (n + 1) (next_place s.place c))
bytes_of_one c scalar plain zero s = (moved_past s 1 (next_place s.place c), (last_byte c s scalar plain, refl))
bytes_of_one c scalar plain (suc n) s =
    let mid = moved_past s 1 s.place in
    let others : MovesThrough mid (lists_for n (record { c = c; place = s.place })) (moved_past s (suc n + 1) (next_place s.place c)) =
    subst (λ (taken : ℕ). MovesThrough mid (lists_for n (record { c = c; place = s.place })) (record s { taken = taken; place = next_place s.place c; previous = 0 })) (omega arith)
    (bytes_of_one c scalar plain n mid) in
    (mid, (quiet_byte s, others))

-- ---- a text

moves_both : (a b : List (List (Result Char Fault))) (s mid e : DecoderState) → MovesThrough s a mid → MovesThrough mid b e → MovesThrough s (a ++ b) e
moves_both [] b s mid e same more = subst (λ (t : DecoderState). MovesThrough t b e) same more
moves_both (items ∷ a) b s mid e (next, (one, others)) more = (next, (one, moves_both a b next mid e others more))

bytes_of_all : (cs : List ℕ) (s : DecoderState) → s.previous ≡ 0 → scalars cs ≡ true → All IsPlain cs → MovesThrough s (text_events s.place cs) (moved_past s (length (encodes cs)) (place_past s.place cs))
bytes_of_all [] s first scalar plain = ap₂ (λ (n p : ℕ). record s { taken = n; previous = p }) (omega arith) (sym first)
bytes_of_all (c ∷ cs) s first scalar plain =
    let ok = and_parts _ _ scalar in
    let x : Char = record { c = c; place = s.place } in
    let n = len_utf8 c - 1 in
    let mid = moved_past s (n + 1) (next_place s.place c) in
    let some = (len_utf8_bounds c).0 in
    moves_both (character_events x) (text_events (next_place s.place c) cs) s mid _ (bytes_of_one c ok.0 (All-head IsPlain c cs plain) n s)
    (subst (λ (taken : ℕ). MovesThrough mid (text_events (next_place s.place c) cs) (record s { taken = taken; place = place_past (next_place s.place c) cs; previous = 0 }))
    (omega (arith, some, length-encode c, length-append (encode c) (encodes cs)))
    (bytes_of_all cs mid refl ok.1 (All-tail IsPlain c cs plain)))

-- the character before does not matter
from_here : (lists : List (List (Result Char Fault))) (s e : DecoderState) → 0 < length lists → MovesThrough (record s { previous = 0 }) lists e → MovesThrough s lists e
from_here [] s e some moves = absurd (omega (arith, some))
from_here (items ∷ lists) s e some (mid, (one, more)) = grind arith

pub text_moves : (text : List ℕ) (s : DecoderState) → IsUtf8 text → 0 < length text → All IsPlain (chars text) → MovesThrough s (text_events s.place (chars text)) (moved_past s (length text) (place_past s.place (chars text)))
text_moves text s u some plain =
    from_here (text_events s.place (chars text)) s (moved_past s (length text) (place_past s.place (chars text))) (omega (arith, some, one_each s.place text u))
    (subst (λ (n : ℕ). MovesThrough (record s { previous = 0 }) (text_events s.place (chars text)) (moved_past s n (place_past s.place (chars text)))) (ap length (encodes-chars text u))
    (bytes_of_all (chars text) (record s { previous = 0 }) refl (scalars-chars text u) plain))
