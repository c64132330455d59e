-- A character that stands in no snippet stops the reading of a regular one.
use Rattle.std.proofs.Common.{arith, ◌≡◌, ℕ, sym, ap, ◌∙◌, None}
use Rattle.gabc_nabc.specs.CharClass.{class_of_character}
use Rattle.gabc_nabc.specs.witness.DescriptorMachine.{next_state}
use Rattle.gabc_nabc.specs.machine.Regular.{regular_by, regular_after}
use Rattle.gabc_nabc.specs.declared.class.NabcClass.TheVariants.{Other}
use Rattle.gabc_nabc.specs.declared.regular.RegularState.{RegularState}
use Rattle.gabc_nabc.specs.declared.state.DescriptorState.{DescriptorState}

pub stops : (s : DescriptorState) → next_state s Other ≡ None
stops s = grind arith

pub foreign_stops : (r : RegularState) (c : ℕ) → class_of_character c ≡ Other → None ≡ regular_after r c
foreign_stops r c is = sym (ap (regular_by r c) (ap (next_state r.part) is ∙ stops r.part))
