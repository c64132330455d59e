use Rattle.std.proofs.Common.{ap, sym, ◌∙◌}
use Rattle.gabc_text.proofs.printing.TagsOfStyleSets.{closed_is}
use Rattle.gabc_text.proofs.canonical.put_closing.Goals as goal

pub returns : goal.returns
returns g c = c.put_each.ensures ∙ ap (g.S.Put.taken c.args.out.now) (sym (closed_is c.args.styles))
