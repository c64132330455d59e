-- Characters escaped for a text of XML or for the value of an attribute.
use Rattle.std.specs.Prelude.{ℕ, ◌+◌, Bool, ◌&&◌, ◌||◌, ◌==◌, nat_lt, nat_le, cond, List, [], ◌∷◌, codes, encode_utf8}
use Rattle.std.specs.List.{flat_map}
use Rattle.std.specs.Str.{chars}

abbrev pub is_between : ℕ → ℕ → ℕ → Bool
is_between low high c = nat_le low c && nat_le c high

-- whether a character is shown as the replacement character, U+FFFD: one that no XML may hold, one
-- that steers a terminal, or a mark that turns the direction of a text
abbrev pub is_hidden : ℕ → Bool
is_hidden c =
    is_between 127 159 c || is_between 8206 8207 c || is_between 8232 8238 c || is_between 8294 8297 c || is_between 64976 65007 c
    || c == 1564 || c == 65279 || is_between 65534 65535 c

-- a character below the blank becomes its picture, as ␛, from U+2400 on, in UTF-8; a tab and an LF
-- become a blank
abbrev pub escaped_control : ℕ → List ℕ
escaped_control c = cond (c == 9 || c == 10) (codes " ") (226 ∷ 144 ∷ (128 + c) ∷ [])

abbrev pub escaped_char : ℕ → List ℕ
escaped_char c =
    cond (nat_lt c 32) (escaped_control c)
    (cond (c == 38) (codes "&amp;")
    (cond (c == 60) (codes "&lt;")
    (cond (c == 62) (codes "&gt;")
    (cond (c == 34) (codes "&quot;")
    (cond (is_hidden c) (encode_utf8 65533)
    (encode_utf8 c))))))

-- a text, escaped
unfoldable pub escaped : List ℕ → List ℕ
escaped text = flat_map escaped_char (chars text)
