-- The reading of an NABC snippet in which nothing was found yet.
use Rattle.std.specs.Prelude.{◌≡◌, ◌<◌, ℕ, List, true, length, slice_index, Option, Some, None, if◌then◌else◌}
use Rattle.gabc_nabc.specs.CharClass.{class_of_character}
use Rattle.gabc_nabc.specs.Events.{is_missing}
use Rattle.gabc_nabc.specs.Names.{is_known}
use Rattle.gabc_nabc.specs.declared.class.NabcClass.TheVariants.{Other}
use Rattle.gabc_nabc.specs.witness.DescriptorMachine.{first_at, next_state}
use Rattle.gabc_nabc.specs.declared.regular.RegularState.{RegularState}
use Rattle.gabc_nabc.specs.declared.state.DescriptorState.{DescriptorState}

abbrev pub regular_by : RegularState → ℕ → Option DescriptorState → Option RegularState
regular_by r c None = None
regular_by r c (Some z) = if is_missing (first_at r.part r.letter) c then None else Some (record { part = z; letter = c })

-- the state after a character, if it is kept and nothing is found at it
abbrev pub regular_after : RegularState → ℕ → Option RegularState
regular_after r c = regular_by r c (next_state r.part (class_of_character c))

-- a code that has a name, with a character after it that is in no snippet
pub record IsLoneCode (bytes : List ℕ) : Type 0 where
  pub ends : 2 < length bytes
  pub named : is_known (slice_index bytes 0) (slice_index bytes 1) ≡ true
  pub stops : class_of_character (slice_index bytes 2) ≡ Other
