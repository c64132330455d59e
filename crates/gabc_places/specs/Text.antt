-- The text of the bytes of an input, and its fault.
use Rattle.std.specs.Prelude.{ℕ, List, [], ◌∷◌, map, filter, length, take, drop, Bool, not, Option, Some, None, ◌==◌, ◌&&◌, ◌||◌, nat_lt, if◌then◌else◌}
use Rattle.std.specs.List.{zip}
use Rattle.std.specs.Option.{option_map}
use Rattle.std.specs.Str.{chars}
use Rattle.std.specs.Str.Lossy.{utf8_valid_len, utf8_error_len}
use Rattle.gabc_places.specs.declared.limits.Limits.{Limits}
use Rattle.gabc_places.specs.declared.code.Code.{Code}
use Rattle.gabc_places.specs.declared.code.Code.TheVariants.{F1, F7}
use Rattle.gabc_places.specs.declared.decoded.Decoded.{Decoded}
use Rattle.gabc_places.specs.declared.decoded.Tail.{Tail}
use Rattle.gabc_places.specs.declared.decoded.Tail.TheVariants.{Nothing, Part, Wrong}
use Rattle.gabc_places.specs.Place.{place_after}

-- the characters of the longest prefix that is UTF-8
unfoldable pub utf8_prefix_of : List ℕ → List ℕ
utf8_prefix_of bytes = chars (take (utf8_valid_len bytes) bytes)

-- by the length of the bytes that are wrong: there is none if more bytes could make a character
abbrev pub tail_by : Option ℕ → Tail
tail_by None = Part
tail_by (Some n) = Wrong

abbrev pub tail_at : List ℕ → Tail
tail_at [] = Nothing
tail_at (b ∷ bs) = tail_by (utf8_error_len (b ∷ bs))

-- the tail after the longest prefix that is UTF-8
unfoldable pub tail_of : List ℕ → Tail
tail_of bytes = tail_at (drop (utf8_valid_len bytes) bytes)

-- a U+FEFF is not shown, wherever it is
abbrev pub is_shown : ℕ → Bool
is_shown c = not (c == 0xFEFF)

-- each character with the one directly before it; the first has none, which reads as 0
abbrev pub with_previous : List ℕ → List (ℕ × ℕ)
with_previous cs = zip (0 ∷ cs) cs

-- the characters left out: an LF directly after a CR, and each U+FEFF
abbrev pub is_left_out : ℕ × ℕ → Bool
is_left_out p = ((p.0 == 13) && (p.1 == 10)) || not (is_shown p.1)

-- a CR is read as LF
abbrev pub read_as : ℕ → ℕ
read_as c = if c == 13 then 10 else c

-- the text of these characters
abbrev pub text_of_characters : List ℕ → List ℕ
text_of_characters cs = map (λ (p : ℕ × ℕ). read_as p.1) (filter (λ (p : ℕ × ℕ). not (is_left_out p)) (with_previous cs))

-- the text of an input: of the bytes within the limit
abbrev pub text_of_bytes : ℕ → List ℕ → List ℕ
text_of_bytes limit bytes = text_of_characters (utf8_prefix_of (take limit bytes))

-- The code of its fault: bytes that begin no character; else more bytes than the limit; else an
-- unfinished character, if the source ended.
abbrev pub stop_code_of : Bool → Bool → Tail → Option Code
stop_code_of over ended Wrong = Some F1
stop_code_of over ended Nothing = if over then Some F7 else None
stop_code_of over ended Part = if over then Some F7 else (if ended then Some F1 else None)

-- the text of an input and its fault; `ended` says that the source ended and did not fail
abbrev pub decoded_of : Limits → Bool → List ℕ → Decoded
decoded_of limits ended bytes =
    let text = text_of_bytes limits.input bytes in
    record { text = text; fault = option_map (λ code. record { place = place_after text; code = code }) (stop_code_of (nat_lt limits.input (length bytes)) ended (tail_of (take limits.input bytes))) }
