-- A decoder, which reads bytes one at a time, and what it will still emit.
use Rattle.std.specs.Prelude.{ℕ, ◌+◌, ◌≤◌, List, [], ◌∷◌, length, Bool, true, false, Some, None, Result, Ok, Err, ◌≡◌}
use Rattle.std.specs.Str.Lossy.{utf8_valid_len, utf8_error_len}
use Rattle.gabc_places.specs.declared.place.Place.{Place}
use Rattle.gabc_places.specs.declared.place.Char.{Char}
use Rattle.gabc_places.specs.declared.code.Fault.{Fault}
use Rattle.gabc_places.specs.Place.{place_after}

-- the state of a decoder: the limit and the bytes taken so far, the place of the next character,
-- the bytes of a character that is not whole yet, and the character before it (0 if there is none,
-- or if it is only known to be no CR)
pub record DecoderState : Type 0 where
  pub limit : ℕ
  pub taken : ℕ
  pub place : Place
  pub pending : List ℕ
  pub previous : ℕ
  pub ended : Bool

-- bs is empty, or the beginning of a character
pub record IsPartial (bs : List ℕ) : Type 0 where
  pub none : utf8_valid_len bs ≡ 0
  pub more : utf8_error_len bs ≡ None

-- no character begins with bs
pub record IsWrong (bs : List ℕ) : Type 0 where
  pub none : utf8_valid_len bs ≡ 0
  pub size : ℕ
  pub fault : utf8_error_len bs ≡ Some size

-- The places at which the next character can be after n bytes, of which the last `pending` are a
-- part of it: each byte before moves it on by a line or a column, if at all.
pub record IsReached (place : Place) (pending taken : ℕ) : Type 0 where
  pub line : 1 ≤ place.line
  pub column : 1 ≤ place.column
  pub bytes : place.line + place.column + pending ≤ taken + 2

-- the place of a character that begins a line other than the first
pub record BeginsLine (place : Place) : Type 0 where
  pub column : place.column ≡ 1
  pub line : 2 ≤ place.line

-- what holds of every decoder
pub record IsDecoder (s : DecoderState) : Type 0 where
  pub partial : IsPartial s.pending
  pub taken : s.taken ≤ s.limit
  pub reached : IsReached s.place (length s.pending) s.taken
  pub cr : s.previous ≡ 13 → BeginsLine s.place

abbrev pub fresh_decoder : ℕ → DecoderState
fresh_decoder limit = record { limit = limit; taken = 0; place = place_after []; pending = []; previous = 0; ended = false }

-- the end of the input
abbrev pub is_unfinished : List ℕ → Bool
is_unfinished [] = false
is_unfinished (b ∷ bs) = true

-- a fault ends a decoder
abbrev pub is_fault_item : Result Char Fault → Bool
is_fault_item (Ok c) = false
is_fault_item (Err fault) = true
