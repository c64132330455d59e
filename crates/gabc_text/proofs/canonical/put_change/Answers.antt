use Rattle.std.proofs.Common.{ap, sym, ◌∙◌}
use Rattle.gabc_text.proofs.printing.ChangedStylesCloseFromTheFirst.{boundary_is}
use Rattle.gabc_text.proofs.canonical.put_change.Goals as goal

pub returns : goal.returns
returns g c =
    rw (c.put_opening.ensures, c.put_some.ensures, c.put_closing.ensures, c.common_styles-2.ensures, c.common_styles.ensures, c.changed_styles-changed.ensures, c.as_bytes.ensures.value)
    (g.met.S.Put.taken_both _ _ _ ∙ (g.met.S.Put.taken_both _ _ _ ∙ ap (g.S.Put.taken c.args.out.now) (sym (boundary_is c.args.old c.args.new c.args.braces.now))))
