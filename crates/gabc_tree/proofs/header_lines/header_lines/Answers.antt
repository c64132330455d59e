use Rattle.std.proofs.Common.{◌≡◌, ◌+◌, ◌++◌, Option, ap, ◌∙◌, length, arith}
use Rattle.gabc_places.specs.declared.code.Code.{Code}
use Rattle.gabc_tree.specs.HeaderLines.{nodes_of, open_after, header_line_nodes}
use Rattle.gabc_tree.specs.machine.HeaderLines.{row_of}
use Rattle.gabc_tree.proofs.LinesByBytes.{rest_of}
use Rattle.gabc_tree.proofs.HeaderLinesByRow.{lined_on}
use Rattle.gabc_tree.proofs.header_lines.header_lines.Goals as goal

pub loop-at-preserved : goal.loop-at-preserved
loop-at-preserved c =
    let row = c.first_row-row.ensures.row ∙ ap row_of (rest_of c.args.text.now c.loop-at.at) in
    let next = c.in_ok-header.ensures.header ∙ ap (λ (f : Option Code). open_after c.loop-at.header f c.loop-at.at c.first_row-row.result.now) c.found_at-found.ensures in
    let nodes = c.in_ok-header.ensures.nodes ∙ ap (λ (f : Option Code). c.loop-at.out.items ++ nodes_of c.args.text.now c.loop-at.header f c.loop-at.at c.first_row-row.result.now) c.found_at-found.ensures in
    let count : c.loop-at.at + length c.first_row-row.result.now + 1 ≡ c.loop-at.at + (length c.first_row-row.result.now + 1) = omega arith in
    let on = lined_on c.args.text.now (c.args.out.now.items ++ header_line_nodes c.args.text.now c.args.findings.now) c.loop-at.out.items c.next_line.new.out.items
    c.loop-at.header c.in_ok-header.header c.loop-at.ahead.now c.loop-at.line c.loop-at.at c.first_row-row.result.now c.loop-at-test.true c.loop-at.invariant row next nodes in
    rw (c.found_after-ahead.ensures, ← count) on
