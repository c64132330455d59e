-- The characters of the text of some bytes are Unicode scalar values, and have no more bytes than those.
use Rattle.std.proofs.Common.{◌≡◌, ℕ, ◌≤◌, not, Bool, true, false, cond, List, [], ◌∷◌, length, take, map, filter, arith, length-append, length-take}
use Rattle.std.proofs.lemmas.Bool.{and_parts}
use Rattle.std.proofs.lemmas.List.Elements.{All-nil, All-cons}
use Rattle.std.proofs.lemmas.Str.{scalars-chars, encodes-chars, length-encode}
use Rattle.std.specs.Char.{IsScalar}
use Rattle.std.specs.List.{zip, All}
use Rattle.std.specs.Str.Lossy.{utf8_valid_len}
use lib.Utf8.{encode, encodes, scalars}
use Rattle.gabc_places.specs.Text.{is_left_out, read_as, utf8_prefix_of, text_of_bytes}
use Rattle.gabc_places.proofs.texts.TextIsReadLineByLine.{text_after}
use Rattle.gabc_places.proofs.utf8.CharacterByCharacter.{valid_len-front}

read_scalar : (c : ℕ) → IsScalar c → IsScalar (read_as c)
read_scalar c h = grind arith

after_scalars : (p : ℕ) (cs : List ℕ) → scalars cs ≡ true → All IsScalar (text_after p cs)
after_scalars p [] h = All-nil IsScalar
after_scalars p (c ∷ cs) h = let s = and_parts _ _ h in by (not (is_left_out (p, c))) (read_scalar c s.0) (after_scalars c cs s.1)
  where
    by : (b : Bool) → IsScalar (read_as c) → All IsScalar (text_after c cs)
        → All IsScalar (map (λ (p : ℕ × ℕ). read_as p.1) (cond b ((p, c) ∷ filter (λ (p : ℕ × ℕ). not (is_left_out p)) (zip (c ∷ cs) cs)) (filter (λ (p : ℕ × ℕ). not (is_left_out p)) (zip (c ∷ cs) cs))))
    by true one rest = All-cons IsScalar (read_as c) (text_after c cs) one rest
    by false one rest = rest

read_short : (c : ℕ) → length (encode (read_as c)) ≤ length (encode c)
unfolding encode
read_short c = grind (arith, length-encode)

after_short : (p : ℕ) (cs : List ℕ) → length (encodes (text_after p cs)) ≤ length (encodes cs)
after_short p [] = omega arith
after_short p (c ∷ cs) = grind (arith, after_short c cs, length-append, read_short)

pub prefix_scalars : (bytes : List ℕ) → scalars (utf8_prefix_of bytes) ≡ true
unfolding utf8_prefix_of
prefix_scalars bytes = scalars-chars (take (utf8_valid_len bytes) bytes) (valid_len-front bytes)

pub prefix_short : (bytes : List ℕ) → length (encodes (utf8_prefix_of bytes)) ≤ length bytes
unfolding utf8_prefix_of
prefix_short bytes = grind (arith, encodes-chars, valid_len-front, length-take)

pub text_scalars : (limit : ℕ) (bytes : List ℕ) → All IsScalar (text_of_bytes limit bytes)
text_scalars limit bytes = after_scalars 0 (utf8_prefix_of (take limit bytes)) (prefix_scalars (take limit bytes))

pub text_short : (limit : ℕ) (bytes : List ℕ) → length (encodes (text_of_bytes limit bytes)) ≤ limit
text_short limit bytes = grind (arith, after_short, prefix_short, length-take)
