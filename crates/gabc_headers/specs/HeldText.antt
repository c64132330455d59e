-- The pending headers of a stage: their text, until their line `%%` has come.
use Rattle.std.specs.Prelude.{◌≡◌, ◌⊎◌, ℕ, ◌-◌, ◌≤◌, List, [], length, drop, map, codes, true, Result, Ok, Err}
use Rattle.std.specs.declared.hash.DefaultHasher.{DefaultHasher}
use Rattle.gabc_places.specs.declared.place.Char.{Char}
use Rattle.gabc_places.specs.declared.code.Fault.{Fault}
use Rattle.gabc_places.specs.declared.code.Finding.{Finding}
use Rattle.gabc_places.specs.declared.limits.Limits.{Limits}
use Rattle.gabc_headers.specs.declared.heads.HeadFault.{HeadFault}
use Rattle.gabc_headers.specs.witness.HeadEvents.{HeaderStageState, reading}
use Rattle.gabc_headers.specs.Heads.{heads_of, findings_of}

-- Its end alone stops it: it has no line `%%`, and no limit is passed.
pub record IsHeld (limits : Limits) (t : List ℕ) : Type 0 where
  pub stopped : HeadFault
  pub heads : heads_of limits t ≡ Err stopped
  pub at_end : stopped.at_end ≡ true

-- Its bytes are within a limit, or one `%` that begins a line is above it.
abbrev pub IsWithinHeaders : ℕ → List ℕ → Type 0
IsWithinHeaders limit bytes = (length bytes ≤ limit) ⊎ (drop (limit - 1) bytes ≡ codes "\n%")

-- what is found in it
abbrev pub findings_held : Limits → List ℕ → List Finding
findings_held limits t = findings_of (heads_of limits t)

-- the stage whose pending headers have this text
abbrev pub holding : Limits → DefaultHasher → List ℕ → HeaderStageState
holding limits hasher t = record { limits = limits; progress = reading t; book = []; hasher = hasher }

-- ---- characters, wherever they stand

abbrev pub text_in : List Char → List ℕ
text_in xs = map (λ (x : Char). x.c) xs

abbrev pub inputs_of : List Char → List (Result Char Fault)
inputs_of xs = map (λ x. Ok x) xs
