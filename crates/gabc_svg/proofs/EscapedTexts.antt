-- An escaped text has no byte that ends its place.
use Rattle.std.proofs.Common.{◌≡◌, ◌≤◌, ◌<◌, ◌+◌, ℕ, suc, Bool, true, false, cond, nat_lt, List, [], ◌∷◌, ◌==◌, ◌||◌, codes, inl, inr, refl, sym, arith, length, get_or, append-nil, encode_utf8}
use Rattle.std.specs.List.{list_all, flat_map}
use Rattle.std.specs.Str.{chars}
use Rattle.std.proofs.lemmas.Bool.{cases_lt}
use Rattle.std.proofs.lemmas.List.Folds.{list_all-append}
use Rattle.std.proofs.lemmas.Str.{encode_ascii, inside_one}
use Rattle.gabc_svg.specs.Escape.{escaped, escaped_char, escaped_control, is_hidden}
use Rattle.gabc_svg.specs.Laws.{is_data}

-- a byte of what is no ASCII
byte_is_data : (b : ℕ) → 128 ≤ b → is_data b ≡ true
byte_is_data b high = grind arith

bytes_are_data : (bs : List ℕ) → ((k : ℕ) → k < length bs → 128 ≤ get_or bs k 0) → list_all is_data bs ≡ true
bytes_are_data [] high = refl
bytes_are_data (b ∷ bs) high =
    let first : 128 ≤ b = high 0 (omega arith) in
    rw (byte_is_data b first) (bytes_are_data bs (λ k below. high (suc k) (omega arith)))

encoded_is_high : (c k : ℕ) → 128 ≤ c → k < length (encode_utf8 c) → 128 ≤ get_or (encode_utf8 c) k 0
encoded_is_high c k high below = elim (cases_lt (get_or (encode_utf8 c) k 0) 128) [
  | inl low ↦ absurd (omega (arith, inside_one c [] (encode_utf8 c) k (sym (append-nil _)) below low))
  | inr it ↦ it
]

encoded_is_data : (c : ℕ) → 128 ≤ c → list_all is_data (encode_utf8 c) ≡ true
encoded_is_data c high = bytes_are_data (encode_utf8 c) (λ k below. encoded_is_high c k high below)

-- a character that stands as it is
plain_is_data : (c : ℕ) → nat_lt c 32 ≡ false → (c == 60) ≡ false → (c == 62) ≡ false → (c == 34) ≡ false
    → list_all is_data (encode_utf8 c) ≡ true
plain_is_data c control less greater quote = elim (cases_lt c 128) [
  | inl small ↦ rw (encode_ascii c small, control, less, greater, quote)
  | inr big ↦ encoded_is_data c big
]

control_is_data : (c : ℕ) → list_all is_data (escaped_control c) ≡ true
control_is_data c = elim (c == 9 || c == 10) as (λ t. list_all is_data (cond t (codes " ") (226 ∷ 144 ∷ (128 + c) ∷ [])) ≡ true) [
  | true ↦ refl
  | false ↦ rw (byte_is_data (128 + c) (omega arith))
]

-- one of the ways to escape a character: those that stand before the last have no byte of it
one_is_data : (control and less greater quote hidden : Bool) (picture plain : List ℕ)
    → list_all is_data picture ≡ true
    → (control ≡ false → less ≡ false → greater ≡ false → quote ≡ false → list_all is_data plain ≡ true)
    → list_all is_data (cond control picture (cond and (codes "&amp;") (cond less (codes "&lt;") (cond greater (codes "&gt;")
    (cond quote (codes "&quot;") (cond hidden (encode_utf8 65533) plain)))))) ≡ true
one_is_data true and less greater quote hidden picture plain p q = p
one_is_data false true less greater quote hidden picture plain p q = refl
one_is_data false false true greater quote hidden picture plain p q = refl
one_is_data false false false true quote hidden picture plain p q = refl
one_is_data false false false false true hidden picture plain p q = refl
one_is_data false false false false false true picture plain p q = encoded_is_data 65533 (omega arith)
one_is_data false false false false false false picture plain p q = q refl refl refl refl

char_is_data : (c : ℕ) → list_all is_data (escaped_char c) ≡ true
char_is_data c =
    one_is_data (nat_lt c 32) (c == 38) (c == 60) (c == 62) (c == 34) (is_hidden c) (escaped_control c) (encode_utf8 c)
    (control_is_data c) (plain_is_data c)

chars_are_data : (text : List ℕ) → list_all is_data (flat_map escaped_char text) ≡ true
chars_are_data [] = refl
chars_are_data (c ∷ rest) =
    rw (list_all-append is_data (escaped_char c) (flat_map escaped_char rest), char_is_data c) (chars_are_data rest)

pub escaped_stays : (text : List ℕ) → list_all is_data (escaped text) ≡ true
unfolding escaped
escaped_stays text = chars_are_data (chars text)
