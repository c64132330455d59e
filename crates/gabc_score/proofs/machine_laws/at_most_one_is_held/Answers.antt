use Rattle.std.proofs.Common.{◌≡◌, ◌≤◌, ◌++◌, length, Bool, false, arith}
use Rattle.gabc_score.specs.declared.slot_pair.SlotUse.{SlotUse}
use Rattle.gabc_score.specs.machine.Slot.{ReadSyllable}
use Rattle.gabc_score.specs.machine.SlotPair.{held_in, is_made, made_last}
use Rattle.gabc_score.proofs.machine_laws.at_most_one_is_held.Goals as goal

-- nothing was made but the held syllable
one_is_held : (held : Bool) (used : SlotUse) (now other : ReadSyllable) → is_made used ≡ false → length (held_in held other ++ made_last used now) ≤ 1
one_is_held held used now other h = grind arith

pub returns : goal.returns
returns c = grind (arith, one_is_held)
