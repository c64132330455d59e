use Rattle.std.proofs.Common.{refl, ◌≡◌, false, ◌==◌, ◌&&◌, slice_index_or, ◌∙◌, arith, []}
use Rattle.std.proofs.lemmas.Bool.Decides.{nat_tests}
use Rattle.gabc_nabc.proofs.glyphs.NameOfFirstRow.{Row, has_code, other_code, no_code}
use Rattle.gabc_nabc.proofs.name.find_name.Goals as goal
use Rattle.gabc_nabc.proofs.name.find_name.Goals.{else-a-first-via-then-a-first+else-b-second, else-a-first-via-else-a-first}

abbrev none : Row
none = (0, 0, record { ref_ptr = (0, 0); now = [] })

pub loop-a-init : goal.loop-a-init
loop-a-init c = refl

pub returns-then-b-second : goal.returns-then-b-second
returns-then-b-second c =
    c.loop-a.invariant ∙ has_code c.args.first c.args.second c.loop-a.a-index c.args.names.now none c.loop-a-test.true c.if-a-first.true c.if-b-second.true

pub loop-a-preserved : goal.loop-a-preserved
loop-a-preserved c =
    let e : ((slice_index_or c.args.names.now c.loop-a.a-index none).0 == c.args.first) && ((slice_index_or c.args.names.now c.loop-a.a-index none).1 == c.args.second) ≡ false =
    elim c.else-a-first.branch [
      | else-a-first-via-then-a-first+else-b-second w ↦ grind (arith, nat_tests, w.if-a-first.true, w.if-b-second.false)
      | else-a-first-via-else-a-first w ↦ grind (arith, nat_tests, w.if-a-first.false)
    ] in
    c.loop-a.invariant ∙ other_code c.args.first c.args.second c.loop-a.a-index c.args.names.now none c.loop-a-test.true e

pub returns : goal.returns
returns c = c.loop-a.invariant ∙ no_code c.args.first c.args.second c.loop-a.a-index c.args.names.now (let f = c.loop-a-test.false in omega (arith, f))
