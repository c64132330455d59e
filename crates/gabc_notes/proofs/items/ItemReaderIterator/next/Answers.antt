use Rattle.std.proofs.Common.{ℕ, ◌+◌, List, ◌∷◌, ap, sym, ◌∙◌, arith}
use Rattle.std.proofs.lemmas.Str.{IsCharBoundary-from_drop}
use Rattle.gabc_notes.specs.Items.{items_from}
use Rattle.gabc_notes.specs.declared.item.Item.{Item}
use Rattle.gabc_notes.proofs.items_of_text.ItemsByBytes.{item_at, first_from, none_left}
use Rattle.gabc_notes.proofs.items.ItemReaderIterator.next.Goals as goal

pub range_from-self-inside-requires : goal.range_from-self-inside-requires
range_from-self-inside-requires c = let first = c.in_ok-kind.ensures.found in λ l. IsCharBoundary-from_drop c.self.inside.rest.now c.in_ok-kind.len first.within first.utf8

pub returns-in_err-kind-clause-steps : goal.returns-in_err-kind-clause-steps
returns-in_err-kind-clause-steps c =
    let none = none_left c.self.inside.rest.now c.self.inside.at in
    grind (arith, none)

pub returns-clause-steps : goal.returns-clause-steps
returns-clause-steps c =
    let item : Item = item_at c.in_ok-kind.kind c.self.inside.at c.in_ok-kind.len in
    sym c.self.view_is
    ∙ (first_from c.self.inside.rest.now c.self.inside.at c.in_ok-kind.len c.in_ok-kind.kind c.self.invariant.0 c.in_ok-kind.ensures.found
    ∙ ap (λ (rest : List ℕ). item ∷ items_from (c.self.inside.at + c.in_ok-kind.len) rest) (sym c.range_from-self-inside.ensures.value))

pub returns-clause-goes : goal.returns-clause-goes
returns-clause-goes c = grind (arith, returns-clause-steps)
