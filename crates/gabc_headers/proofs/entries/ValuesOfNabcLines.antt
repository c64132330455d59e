-- A value of `nabc-lines` is found among those in range by its bytes and by its characters alike.
use Rattle.std.proofs.Common.{◌≡◌, ℕ, List, [], ◌∷◌, Bool, true, ◌&&◌, cond, length, Some, None, refl, sym, ap, ◌∙◌, bytes_eq, IsUtf8, arith}
use lib.Dec.{ltb}
use lib.Utf8.{encode}
use Rattle.std.specs.List.{list_all, list_any, position, position_or_len}
use Rattle.std.specs.Option.{unwrap_or}
use Rattle.std.specs.Cmp.Lexicographic.{same_text}
use Rattle.std.specs.Str.{chars, is_utf8}
use Rattle.std.proofs.lemmas.Str.{IsUtf8-from_is_utf8}
use Rattle.std.proofs.lemmas.Bool.{and_parts}
use Rattle.gabc_headers.specs.Book.{is_one_of, nabc_values, lines_by}
use Rattle.gabc_headers.proofs.entries.TextsAsBytes.{bytes_eq-text, bytes_eq_sym}

-- a text that is its own characters
abbrev is_plain : List ℕ → Bool
is_plain row = is_utf8 row && bytes_eq (chars row) row

values_plain : list_all is_plain nabc_values ≡ true
unfolding is_utf8 chars encode
values_plain = refl

-- a row is the same text as a value by bytes or by characters
same_row : (v row : List ℕ) → IsUtf8 v → is_plain row ≡ true → bytes_eq row (chars v) ≡ bytes_eq row v
same_row v row u p =
    let plain : chars row ≡ row = same_text (chars row) row (sym (and_parts (is_utf8 row) _ p).1) in
    bytes_eq_sym row (chars v) ∙ bytes_eq-text v row u (IsUtf8-from_is_utf8 row (and_parts (is_utf8 row) _ p).0) plain ∙ bytes_eq_sym v row

place_same : (v : List ℕ) (rows : List (List ℕ)) → IsUtf8 v → list_all is_plain rows ≡ true
    → position_or_len (λ row. bytes_eq row (chars v)) rows ≡ position_or_len (λ row. bytes_eq row v) rows
place_same v [] u p = refl
place_same v (row ∷ rows) u p = grind (arith, place_same v rows u (and_parts (is_plain row) _ p).1, same_row, and_parts)

among_same : (v : List ℕ) (rows : List (List ℕ)) → IsUtf8 v → list_all is_plain rows ≡ true
    → is_one_of (chars v) rows ≡ list_any (λ row. bytes_eq row v) rows
among_same v [] u p = refl
among_same v (row ∷ rows) u p = grind (arith, among_same v rows u (and_parts (is_plain row) _ p).1, bytes_eq_sym, same_row, and_parts)

-- the number of lines that a value says
pub lines-chars : (v : List ℕ) → IsUtf8 v → lines_by (Some (chars v)) ≡ unwrap_or (position (λ row. bytes_eq row v) nabc_values) 0
lines-chars v u =
    ap (λ (n : ℕ). unwrap_or (cond (ltb n (length nabc_values)) (Some n) None) 0) (place_same v nabc_values u values_plain)

-- whether a value is in range
pub in_range-chars : (v : List ℕ) → IsUtf8 v → is_one_of (chars v) nabc_values ≡ list_any (λ row. bytes_eq row v) nabc_values
in_range-chars v u = among_same v nabc_values u values_plain
