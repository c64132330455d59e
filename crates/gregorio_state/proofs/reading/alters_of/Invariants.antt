use Rattle.std.proofs.Common.{◌≡◌, length, map, take, drop}
use Rattle.gregorio_state.specs.StateBytes.{alter_number}
use Rattle.gregorio_state.specs.machine.Reading.{alters_of}
use Rattle.gregorio_state.proofs.AltersAreRead.{with_front}
use Rattle.gregorio_state.proofs.reading.alters_of.Given as goal

abbrev pub invariant-loop-height : goal.invariant-loop-height
invariant-loop-height l =
    (with_front (take l.height l.alters) (alters_of (drop l.height l.numbers)) ≡ alters_of l.numbers) × (take l.height l.numbers ≡ map alter_number (take l.height l.alters)) × (length l.alters ≡ 15)
