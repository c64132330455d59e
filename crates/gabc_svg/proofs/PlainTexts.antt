-- What stands in a text as it is: plain characters, and numbers.
use Rattle.std.proofs.Common.{◌≡◌, ◌<◌, ◌/◌, ◌%◌, ℕ, zero, suc, ℤ, pos, negsuc, Bool, true, false, cond, List, [], ◌∷◌, ◌==◌, refl, ap, arith, nat_lt, IsAscii, length}
use Rattle.std.specs.Fmt.{decimal, signed_decimal, digits, digits_onto, digit_glyph}
use Rattle.std.specs.List.{list_all, flat_map, slice_index_or}
use Rattle.std.proofs.lemmas.Bool.{and_parts}
use Rattle.std.proofs.lemmas.List.Sums.{AllPass-from_list_all}
use Rattle.std.proofs.lemmas.Str.{chars-IsAscii, encode_ascii}
use Rattle.std.proofs.lemmas.Str.Ascii.{IsAscii-from_all}
use Rattle.gabc_svg.specs.Escape.{escaped, escaped_char, is_between, is_hidden}
use Rattle.gabc_svg.specs.machine.Plain.{is_plain}

below_it : (low high b : ℕ) → b < low → is_between low high b ≡ false
below_it low high b under = grind arith

is_shown : (b : ℕ) → b < 127 → is_hidden b ≡ false
is_shown b low =
    rw (
      below_it 127 159 b (omega arith),
      below_it 8206 8207 b (omega arith),
      below_it 8232 8238 b (omega arith),
      below_it 8294 8297 b (omega arith),
      below_it 64976 65007 b (omega arith),
      below_it 65534 65535 b (omega arith),
    )
    (grind arith)

-- what is known of a plain character
record PlainChar (b : ℕ) : Type 0 where
  printed : nat_lt b 32 ≡ false
  ascii : b < 127
  and : (b == 38) ≡ false
  less : (b == 60) ≡ false
  greater : (b == 62) ≡ false
  quote : (b == 34) ≡ false

plain_char : (b : ℕ) → is_plain b ≡ true → PlainChar b
plain_char b plain = record {
  printed = grind arith;
  ascii = grind arith;
  and = grind arith;
  less = grind arith;
  greater = grind arith;
  quote = grind arith;
}

char_stays : (b : ℕ) → is_plain b ≡ true → escaped_char b ≡ b ∷ []
char_stays b plain =
    let it = plain_char b plain in
    rw (it.printed, it.and, it.less, it.greater, it.quote, is_shown b it.ascii) (encode_ascii b (omega (arith, it.ascii)))

chars_stay : (bs : List ℕ) → list_all is_plain bs ≡ true → flat_map escaped_char bs ≡ bs
chars_stay [] plain = refl
chars_stay (b ∷ bs) plain =
    let parts = and_parts (is_plain b) (list_all is_plain bs) plain in
    rw (char_stays b parts.0) (ap (λ them. b ∷ them) (chars_stay bs parts.1))

is_ascii : (b : ℕ) → is_plain b ≡ true → b < 128
is_ascii b plain = grind arith

ascii_at : (bs : List ℕ) → list_all is_plain bs ≡ true → (k d : ℕ) → k < length bs → slice_index_or bs k d < 128
ascii_at bs plain k d below = is_ascii (slice_index_or bs k d) (AllPass-from_list_all is_plain bs plain k d below)

are_ascii : (bs : List ℕ) → list_all is_plain bs ≡ true → IsAscii bs
are_ascii bs plain = IsAscii-from_all bs (λ k d below. ascii_at bs plain k d below)

pub plain_stays : (bs : List ℕ) → list_all is_plain bs ≡ true → escaped bs ≡ bs
unfolding escaped
plain_stays bs plain = rw (chars-IsAscii bs (are_ascii bs plain)) (chars_stay bs plain)

glyph_is_plain : (d : ℕ) → d < 10 → is_plain (digit_glyph false d) ≡ true
glyph_is_plain d small = grind arith

digits_are_plain : (k n : ℕ) (acc : List ℕ) → list_all is_plain acc ≡ true → list_all is_plain (digits_onto k 10 false n acc) ≡ true
digits_are_plain zero n acc plain = plain
digits_are_plain (suc k) n acc plain =
    let first : list_all is_plain (digit_glyph false (n % 10) ∷ acc) ≡ true = rw (glyph_is_plain (n % 10) (omega arith)) plain in
    either (n / 10 == 0) _ _ first (digits_are_plain k (n / 10) (digit_glyph false (n % 10) ∷ acc) first)
  where
    either : (b : Bool) (a c : List ℕ) → list_all is_plain a ≡ true → list_all is_plain c ≡ true → list_all is_plain (cond b a c) ≡ true
    either true a c one other = one
    either false a c one other = other

decimal_is_plain : (n : ℕ) → list_all is_plain (decimal n) ≡ true
unfolding digits
decimal_is_plain n = digits_are_plain 64 n [] refl

pub decimal_stays : (n : ℕ) → escaped (decimal n) ≡ decimal n
decimal_stays n = plain_stays (decimal n) (decimal_is_plain n)

pub signed_stays : (z : ℤ) → escaped (signed_decimal z) ≡ signed_decimal z
signed_stays (pos n) = decimal_stays n
signed_stays (negsuc n) = plain_stays (45 ∷ decimal (suc n)) (decimal_is_plain (suc n))
