use Rattle.std.proofs.Common.{ap, sym, ◌∙◌}
use Rattle.gabc_text.specs.Canonical.{listed_styles}
use Rattle.gabc_text.proofs.printing.ChangedStylesCloseFromTheFirst.{boundary_of_same, same_styles}
use Rattle.gabc_text.proofs.canonical.put_boundary.Goals as goal

pub returns-then-eq : goal.returns-then-eq
returns-then-eq g c =
    rw (c.put_some.ensures, c.as_bytes.ensures.value, same_styles c.args.old c.args.new (sym c.eq.ensures ∙ c.if-eq.true))
    (ap (g.S.Put.taken c.args.out.now) (sym (boundary_of_same (listed_styles c.args.new) c.args.braces.now)))
