-- The place after a text, by its bytes.
use Rattle.std.proofs.Common.{◌≡◌, ℕ, zero, suc, ◌+◌, ◌<◌, ◌≤◌, ◌==◌, Bool, true, false, cond, List, [], ◌∷◌, ◌++◌, length, drop, slice_index, refl, ap, sym, ◌∙◌, arith, IsUtf8}
use Rattle.std.proofs.lemmas.Bool.Decides.{nat_tests}
use Rattle.std.proofs.lemmas.List.Sums.{sum_by-cons}
use Rattle.std.specs.List.{count_by}
use Rattle.std.specs.Str.{chars}
use Rattle.std.proofs.lemmas.Str.{encodes-chars}
use Rattle.gabc_places.specs.Place.{place_past, next_place}
use Rattle.gabc_places.specs.declared.place.Place.{Place}
use Rattle.gabc_score.specs.machine.PlaceByBytes.{begins_character, next_by_byte, place_by_bytes}
use lib.Utf8.{encode, encodes}

-- ---- by bytes and by characters

by_append : (p : Place) (a b : List ℕ) → place_by_bytes p (a ++ b) ≡ place_by_bytes (place_by_bytes p a) b
by_append p [] b = refl
by_append p (c ∷ a) b = by_append (next_by_byte p c) a b

-- the place after a byte that is no LF
abbrev stepped : Place → Bool → Place
stepped p b = record { line = p.line; column = p.column + cond b 1 0 }

abbrev by_tests : Place → Bool → Bool → Place
by_tests p feed begins = cond feed (record { line = p.line + 1; column = 1 }) (stepped p begins)

first_byte : (p : Place) (b : ℕ) → (b == 10) ≡ false → begins_character b ≡ true → next_by_byte p b ≡ record { line = p.line; column = p.column + 1 }
first_byte p b other begins = ap (λ t. by_tests p t (begins_character b)) other ∙ ap (stepped p) begins

next_byte : (p : Place) (b : ℕ) → (128 ≤ b) × (b < 192) → next_by_byte p b ≡ p
next_byte p b within = grind arith

of_one : (p : Place) (c : ℕ) → c < 128 → next_by_byte p c ≡ next_place p c
of_one p c low = let begins : begins_character c ≡ true = grind (arith, nat_tests, low) in ap (by_tests p (c == 10)) begins

of_more : (p : Place) (c : ℕ) → 128 ≤ c → record { line = p.line; column = p.column + 1 } ≡ next_place p c
of_more p c high = grind arith

one_character : (p : Place) (c : ℕ) → place_by_bytes p (encode c) ≡ next_place p c
unfolding encode
one_character p c = grind (arith, first_byte, of_one, next_byte, of_more)

by_characters : (p : Place) (cs : List ℕ) → place_by_bytes p (encodes cs) ≡ place_past p cs
by_characters p [] = refl
by_characters p (c ∷ cs) = by_append p (encode c) (encodes cs) ∙ ap (λ q. place_by_bytes q (encodes cs)) (one_character p c) ∙ by_characters (next_place p c) cs

pub places_agree : (p : Place) (bytes : List ℕ) → IsUtf8 bytes → place_by_bytes p bytes ≡ place_past p (chars bytes)
places_agree p bytes u = ap (place_by_bytes p) (sym (encodes-chars bytes u)) ∙ by_characters p (chars bytes)

-- ---- line by line

-- an LF ends a line
pub past_line : (p : Place) (bs : List ℕ) (at : ℕ) → at < length bs → ((k : ℕ) → k < at → (slice_index bs k == 10) ≡ true → ⊥) → (slice_index bs at == 10) ≡ true
    → place_by_bytes p bs ≡ place_by_bytes (record { line = p.line + 1; column = 1 }) (drop (suc at) bs)
past_line p [] at less none is = absurd (omega (arith, less))
past_line p (b ∷ bs) zero less none is = ap (λ t. place_by_bytes (cond t (record { line = p.line + 1; column = 1 }) (stepped p (begins_character b))) bs) is
past_line p (b ∷ bs) (suc at) less none is = by (b == 10) refl (past_line (stepped p (begins_character b)) bs at (omega (arith, less)) (λ k low. none (suc k) (omega (arith, low))) is)
  where
    by : (t : Bool) → (b == 10) ≡ t
        → place_by_bytes (stepped p (begins_character b)) bs ≡ place_by_bytes (record { line = p.line + 1; column = 1 }) (drop (suc at) bs)
        → place_by_bytes (by_tests p t (begins_character b)) bs ≡ place_by_bytes (record { line = p.line + 1; column = 1 }) (drop (suc at) bs)
    by true e rest = absurd (none 0 (omega arith) e)
    by false e rest = rest

-- the last line
pub past_last : (p : Place) (bs : List ℕ) → ((k : ℕ) → k < length bs → (slice_index bs k == 10) ≡ true → ⊥)
    → place_by_bytes p bs ≡ record { line = p.line; column = p.column + count_by begins_character bs }
past_last p [] none = ap (λ n. record { line = p.line; column = n }) {x = p.column} (omega arith)
past_last p (b ∷ bs) none = by (b == 10) refl (past_last (stepped p (begins_character b)) bs (λ k low. none (suc k) (omega (arith, low))))
  where
    by : (t : Bool) → (b == 10) ≡ t
        → place_by_bytes (stepped p (begins_character b)) bs ≡ record { line = p.line; column = (p.column + cond (begins_character b) 1 0) + count_by begins_character bs }
        → place_by_bytes (by_tests p t (begins_character b)) bs ≡ record { line = p.line; column = p.column + count_by begins_character (b ∷ bs) }
    by true e rest = absurd (none 0 (omega arith) e)
    by false e rest = rest ∙ ap (λ n. record { line = p.line; column = n }) {x = (p.column + cond (begins_character b) 1 0) + count_by begins_character bs} (let one = sum_by-cons (λ k. cond (begins_character k) 1 0) b bs in omega (arith, one))
