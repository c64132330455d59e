use Rattle.std.proofs.Common.{◌≡◌, None, arith, ap, ◌∙◌}
use Rattle.std.specs.Str.Iter.{chars_rest}
use Rattle.gabc_nabc.specs.CharClass.{class_of_character}
use Rattle.gabc_nabc.specs.witness.DescriptorMachine.{going_on}
use Rattle.gabc_nabc.specs.Table.{nabc}
use Rattle.gabc_nabc.proofs.machine.MachineReadsTable.{machine, items_read}
use Rattle.gabc_nabc.proofs.parts_of_text.FirstPartIsFound.{best_found}
use Rattle.gabc_patterns.proofs.FirstItemByBytes.{begun_at, fits_in, ends_at, on_at, stops_at, end_at}
use Rattle.gabc_nabc.proofs.descriptors.first_part.Goals as goal

pub loop-c-init : goal.loop-c-init
loop-c-init c = begun_at nabc machine items_read c.args.text.now (chars_rest c.into_iter-c-iterator.result) (ap chars_rest c.into_iter-c-iterator.ensures.into_iter_gives ∙ c.chars-c-items.ensures.rest) c.utf8.text

pub overflow_add-read : goal.overflow_add-read
overflow_add-read c =
    let f = fits_in nabc machine items_read c.args.text.now c.loop-c.yielded _ _ c.loop-c.state c.loop-c.read c.in-Some.c c.loop-c.best c.utf8.text c.loop-c.invariant c.in-Some.ensures.steps.0 in
    omega (arith, f, c.len_utf8-read.ensures.value)

pub loop-c-preserved-in-Some-ends : goal.loop-c-preserved-in-Some-ends
loop-c-preserved-in-Some-ends c = grind (arith, ends_at, items_read)

pub loop-c-preserved : goal.loop-c-preserved
loop-c-preserved c = grind (arith, on_at, items_read)

pub returns-in-None-goes_on : goal.returns-in-None-goes_on
returns-in-None-goes_on c =
    let g : going_on c.loop-c.state (class_of_character c.in-Some.c) ≡ None = cc (c.class_of.ensures, c.goes_on.ensures, c.in-None-goes_on.is) in
    best_found c.args.text.now c.loop-c.best (stops_at nabc machine items_read c.args.text.now c.loop-c.yielded _ _ c.loop-c.state c.loop-c.read c.in-Some.c c.loop-c.best c.loop-c.invariant c.in-Some.ensures.steps.0 g)

pub returns : goal.returns
returns c =
    best_found c.args.text.now c.loop-c.best (end_at nabc machine items_read c.args.text.now c.loop-c.yielded _ c.loop-c.state c.loop-c.read c.loop-c.best c.loop-c.invariant c.in-None.ensures.steps.0.0)
