use Rattle.std.proofs.Common.{◌≡◌, ◌≤◌, length, drop}
use Rattle.gabc_svg.specs.Xml.{written}
use Rattle.gabc_svg.specs.Page.{rows_content}
use Rattle.gabc_svg.proofs.page.put_rows.Given as goal

-- with what is left, it will have taken all of it
abbrev pub invariant-loop-rest : goal.invariant-loop-rest
invariant-loop-rest g l = record {
  within : l.passed ≤ length l.parts;
  all : g.S.Put.taken l.out (written (rows_content l.rest (drop l.passed l.parts))) ≡ g.S.Put.taken l.initial.out (written (rows_content l.rows l.parts));
}

abbrev pub decreases-loop-rest : goal.decreases-loop-rest
decreases-loop-rest g l = length l.rest
