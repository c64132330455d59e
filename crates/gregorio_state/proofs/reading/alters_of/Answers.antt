use Rattle.std.proofs.Common.{◌<◌, ◌≤◌, length, sym, arith, ◌∙◌, length-set}
use Rattle.std.proofs.lemmas.List.{take_more_set}
use Rattle.gregorio_state.specs.machine.Reading.{alters_of}
use Rattle.gregorio_state.proofs.AltersAreRead.{goes_on, written_on, all_read, all_written}
use Rattle.gregorio_state.proofs.reading.alters_of.Goals as goal

pub loop-height-preserved : goal.loop-height-preserved
loop-height-preserved c =
    let numbers = c.args.numbers.now in
    let i = c.loop-height.height in
    let front : i < length c.loop-height.alters = omega (arith, c.loop-height.invariant.2) in
    let lt : i < length numbers = omega arith in
    rw (take_more_set c.loop-height.alters i c.in_ok-alters.field-0 front) (
      goes_on _ numbers i c.in_ok-alters.field-0 (alters_of numbers) lt (sym c.in_ok-alters.ensures.read) c.loop-height.invariant.0,
      written_on _ numbers i c.in_ok-alters.field-0 lt c.in_ok-alters.ensures.written c.loop-height.invariant.1,
      length-set c.loop-height.alters i c.in_ok-alters.field-0 ∙ c.loop-height.invariant.2,
    )

pub returns-clause-read : goal.returns-clause-read
returns-clause-read c = grind (arith, all_read)

pub returns-clause-written : goal.returns-clause-written
returns-clause-written c =
    let numbers : length c.args.numbers.now ≤ c.loop-height.height = omega arith in
    let alters : length c.loop-height.alters ≤ c.loop-height.height = omega (arith, c.loop-height.invariant.2) in
    all_written c.loop-height.alters c.args.numbers.now c.loop-height.height numbers alters c.loop-height.invariant.1
