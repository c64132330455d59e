use Rattle.std.proofs.Common.{◌+◌, ◌++◌, List, Some, append-nil, sym, ap, ◌∙◌}
use Rattle.gabc_nodes.specs.declared.node.Node.{Node}
use Rattle.gabc_tree.specs.declared.header_lines.Header.{Header}
use Rattle.gabc_tree.specs.HeaderLines.{ended_at}
use Rattle.gabc_tree.specs.machine.HeaderLines.{first_mark}
use Rattle.gabc_tree.proofs.LinesByBytes.{rest_of}
use Rattle.gabc_tree.proofs.HeaderLinesByRow.{header_is, line_ends, line_opens}
use Rattle.gabc_tree.proofs.header_lines.header_line.Goals as goal

pub returns-in_ok-end_header-in-Some-clause-nodes : goal.returns-in_ok-end_header-in-Some-clause-nodes
returns-in_ok-end_header-in-Some-clause-nodes c =
    let same = header_is c.args.found c.args.at c.args.row.now c.args.colon c.trimmed.result c.requires.colon c.trimmed.ensures.span in
    let ends = line_ends c.args.text.now c.args.found c.args.at c.args.row.now c.args.colon c.requires.seen c.requires.colon c.in-Some.mark (ap (first_mark 1) (sym (rest_of c.args.row.now (c.args.colon + 1))) ∙ sym c.first_mark.ensures.place ∙ c.in-Some.is) in
    c.in_ok-end_header-in-Some.ensures
    ∙ ap (λ (h : Header). c.args.out.now.items ++ ended_at c.args.text.now h c.args.at c.args.row.now (c.args.colon + 1 + c.in-Some.mark)) same
    ∙ ap (λ (ns : List Node). c.args.out.now.items ++ ns) (sym ends.0)

pub returns-in_ok-end_header-in-Some-clause-header : goal.returns-in_ok-end_header-in-Some-clause-header
returns-in_ok-end_header-in-Some-clause-header c =
    let ends = line_ends c.args.text.now c.args.found c.args.at c.args.row.now c.args.colon c.requires.seen c.requires.colon c.in-Some.mark (ap (first_mark 1) (sym (rest_of c.args.row.now (c.args.colon + 1))) ∙ sym c.first_mark.ensures.place ∙ c.in-Some.is) in
    sym ends.1

pub returns-in-None-clause-nodes : goal.returns-in-None-clause-nodes
returns-in-None-clause-nodes c =
    let opens = line_opens c.args.text.now c.args.found c.args.at c.args.row.now c.args.colon c.requires.seen c.requires.colon (ap (first_mark 1) (sym (rest_of c.args.row.now (c.args.colon + 1))) ∙ sym c.first_mark.ensures.place ∙ c.in-None.is) in
    sym (append-nil c.args.out.now.items) ∙ ap (λ (ns : List Node). c.args.out.now.items ++ ns) (sym opens.0)

pub returns-in-None-clause-header : goal.returns-in-None-clause-header
returns-in-None-clause-header c =
    let opens = line_opens c.args.text.now c.args.found c.args.at c.args.row.now c.args.colon c.requires.seen c.requires.colon (ap (first_mark 1) (sym (rest_of c.args.row.now (c.args.colon + 1))) ∙ sym c.first_mark.ensures.place ∙ c.in-None.is) in
    ap (λ (h : Header). Some h) (header_is c.args.found c.args.at c.args.row.now c.args.colon c.trimmed.result c.requires.colon c.trimmed.ensures.span) ∙ sym opens.1
