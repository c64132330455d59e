use Rattle.std.proofs.Common.{◌∙◌, sym, ap, add-one, arith, List, ℕ}
use Rattle.std.proofs.Math.ListN.{drop_of_length-le}
use Rattle.std.specs.Str.{chars}
use Rattle.gabc_headers.specs.Book.{value_named}
use Rattle.gabc_headers.specs.Entries.{spelled_entries}
use Rattle.gabc_headers.proofs.entries.BookIsReadByEntry.{named_here, named_later}
use Rattle.gabc_headers.proofs.entries.HeadersAreSpelled.{length-spelled, name_spelled}
use Rattle.gabc_headers.proofs.headers.Headers.get.Goals as goal

pub loop-index-init : goal.loop-index-init
loop-index-init c = ap (λ (es : List (List ℕ × List ℕ)). value_named (chars c.args.name.now) es) (sym c.self.view_is)

pub returns-then-eq : goal.returns-then-eq
returns-then-eq c =
    let text = c.self.inside.text.now in
    let headers = c.self.inside.headers.now.0 in
    c.loop-index.invariant
    ∙ named_here c.args.name.now c.name.result.now c.value_in.result.now (spelled_entries text headers) c.loop-index.index c.utf8.name c.name.utf8
    (name_spelled text headers c.loop-index.index c.name.result.now c.name.ensures) c.value_in.ensures (sym c.if-eq.ensures)

pub loop-index-preserved : goal.loop-index-preserved
loop-index-preserved c =
    let text = c.self.inside.text.now in
    let headers = c.self.inside.headers.now.0 in
    rw add-one (c.loop-index.invariant
    ∙ named_later c.args.name.now c.name.result.now (spelled_entries text headers) c.loop-index.index c.utf8.name c.name.utf8 (name_spelled text headers c.loop-index.index c.name.result.now c.name.ensures) (sym c.if-eq.ensures))

pub returns : goal.returns
returns c = grind (arith, length-spelled, drop_of_length-le)
