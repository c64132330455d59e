use Rattle.std.proofs.Common.{ℕ, ◌+◌, List, ◌∷◌, ap, sym, ◌∙◌, arith}
use Rattle.std.proofs.lemmas.Str.{IsCharBoundary-from_drop}
use Rattle.gabc_nabc.specs.Parts.{parts_from}
use Rattle.gabc_nabc.specs.declared.descriptor.Descriptor.{Descriptor}
use Rattle.gabc_nabc.proofs.parts_of_text.PartsByBytes.{part_at, after_first, none_left}
use Rattle.gabc_nabc.proofs.descriptors.PartReaderIterator.next.Goals as goal

pub range_from-self-inside-requires : goal.range_from-self-inside-requires
range_from-self-inside-requires c =
    let here = after_first c.self.inside.rest.now c.self.inside.at (c.in_ok-space.space, c.in_ok-space.len) c.self.invariant.0 (sym c.first_part.ensures ∙ c.in_ok-space.was) in
    λ l. IsCharBoundary-from_drop c.self.inside.rest.now c.in_ok-space.len here.within here.utf8

pub overflow_add-span : goal.overflow_add-span
overflow_add-span c =
    let here = after_first c.self.inside.rest.now c.self.inside.at (c.in_ok-space.space, c.in_ok-space.len) c.self.invariant.0 (sym c.first_part.ensures ∙ c.in_ok-space.was) in
    let fits = c.self.invariant.1 in
    let within = here.within in
    omega (arith, fits, within)

pub returns-in_err-space-clause-steps : goal.returns-in_err-space-clause-steps
returns-in_err-space-clause-steps c =
    let none = none_left c.self.inside.rest.now c.self.inside.at in
    grind (arith, none)

pub returns-clause-steps : goal.returns-clause-steps
returns-clause-steps c =
    let part : Descriptor = part_at c.self.inside.at (c.in_ok-space.space, c.in_ok-space.len) in
    let here = after_first c.self.inside.rest.now c.self.inside.at (c.in_ok-space.space, c.in_ok-space.len) c.self.invariant.0 (sym c.first_part.ensures ∙ c.in_ok-space.was) in
    sym c.self.view_is
    ∙ (here.parts
    ∙ ap (λ (rest : List ℕ). part ∷ parts_from (c.self.inside.at + c.in_ok-space.len) rest) (sym c.range_from-self-inside.ensures.value))

pub returns-clause-goes : goal.returns-clause-goes
returns-clause-goes c = grind (arith, returns-clause-steps)
