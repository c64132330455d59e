-- Numbers are read back from their bytes, and bytes are those of the number that is read.
use Rattle.std.proofs.Common.{◌≡◌, ℕ, ◌^◌, ◌<◌, ◌≤◌, List, ◌++◌, length, get_or, take, drop, Some, refl, sym, arith, inl, inr, length-append}
use Rattle.std.specs.Int.{Width, w16, w32, w64, byte_len, from_be_bytes, to_be_bytes}
use Rattle.std.proofs.lemmas.Bool.{cases_lt, le-ltb}
use Rattle.std.proofs.lemmas.List.{take_at, drop_at, take-append-drop, length-take, get_or-take, get_or_past}
use Rattle.std.proofs.lemmas.Nat.{be_bytes_2, be_bytes_4, be_bytes_8, from_be_bytes-to_be_bytes_2, from_be_bytes-to_be_bytes_4, from_be_bytes-to_be_bytes_8}
use Rattle.gregorio_state.specs.StateBytes.{number_bytes}
use Rattle.gregorio_state.specs.machine.Reading.{number_at}

abbrev pub IsBytes : List ℕ → Type 0
IsBytes bytes = (i : ℕ) → get_or bytes i 0 < 256

IsBytes-take : (n : ℕ) (bytes : List ℕ) → IsBytes bytes → IsBytes (take n bytes)
IsBytes-take n bytes h i =
    elim (cases_lt i n) [
      | inl lt ↦ rw (get_or-take n bytes i 0 lt) (h i)
      | inr le ↦ rw (get_or_past (take n bytes) i 0 (omega (arith, length-take n bytes))) (omega arith)
    ]

-- numbers of this width are below the limit, and each is given back by its bytes
pub record IsWide (w : Width) (limit : ℕ) : Type 0 where
  pub len : (n : ℕ) → length (to_be_bytes w n) ≡ byte_len w
  pub back : (bytes : List ℕ) → length bytes ≡ byte_len w → IsBytes bytes → to_be_bytes w (from_be_bytes w bytes) ≡ bytes
  pub again : (n : ℕ) → n < limit → from_be_bytes w (to_be_bytes w n) ≡ n

pub wide_16 : IsWide w16 (2 ^ 16)
wide_16 = record {
  len = λ n. refl;
  back = λ bytes len fits. be_bytes_2 bytes _ len fits refl;
  again = λ n lt. from_be_bytes-to_be_bytes_2 n lt;
}

pub wide_32 : IsWide w32 (2 ^ 32)
wide_32 = record {
  len = λ n. refl;
  back = λ bytes len fits. be_bytes_4 bytes _ len fits refl;
  again = λ n lt. from_be_bytes-to_be_bytes_4 n lt;
}

pub wide_64 : IsWide w64 (2 ^ 64)
wide_64 = record {
  len = λ n. refl;
  back = λ bytes len fits. be_bytes_8 bytes _ len fits refl;
  again = λ n lt. from_be_bytes-to_be_bytes_8 n lt;
}

module _ (w : Width) (limit : ℕ) (wide : IsWide w limit) where
  -- the bytes are those of the number read from their front, and the others
  pub number_written : (bytes : List ℕ) (n : ℕ) (front rest : List ℕ) → IsBytes bytes → byte_len w ≤ length bytes → front ≡ take (byte_len w) bytes → rest ≡ drop (byte_len w) bytes → n ≡ from_be_bytes w front
      → bytes ≡ number_bytes w n ++ rest
  unfolding number_bytes
  number_written bytes n front rest fits long f r e =
      let b : to_be_bytes w (from_be_bytes w (take (byte_len w) bytes)) ≡ take (byte_len w) bytes = wide.back (take (byte_len w) bytes) (omega (arith, length-take (byte_len w) bytes)) (IsBytes-take (byte_len w) bytes fits) in
      rw (e, f, r, b) (sym (take-append-drop (byte_len w) bytes))

  -- a number that is written is read, whatever follows it
  pub number_again : (n : ℕ) (rest : List ℕ) → n < limit → number_at w (number_bytes w n ++ rest) ≡ Some (n, rest)
  unfolding number_bytes number_at
  number_again n rest lt = grind (arith, le-ltb, length-append, take_at, drop_at)
