use Rattle.std.proofs.Common.{add-one, arith}
use Rattle.std.proofs.Math.ListN.{drop_of_length-le}
use Rattle.gabc_headers.specs.Entries.{spelled_entries}
use Rattle.gabc_headers.proofs.entries.HeadersAreSpelled.{length-spelled, name_spelled, left_here}
use Rattle.gabc_headers.proofs.headers.HeadersIterator.next.Goals as goal

pub returns-then-self-len-clause-steps : goal.returns-then-self-len-clause-steps
returns-then-self-len-clause-steps c = grind (arith, length-spelled, drop_of_length-le)

pub returns-clause-steps : goal.returns-clause-steps
returns-clause-steps c =
    let text = c.self.inside.text.now in
    let headers = c.self.inside.headers.now.0 in
    rw (← c.self.view_is, add-one)
    (left_here (spelled_entries text headers) c.self.inside.first c.name-name.result.now c.value_in-value.result.now (name_spelled text headers c.self.inside.first c.name-name.result.now c.name-name.ensures) c.value_in-value.ensures)

pub returns-clause-goes : goal.returns-clause-goes
returns-clause-goes c = grind (arith, returns-clause-steps)
