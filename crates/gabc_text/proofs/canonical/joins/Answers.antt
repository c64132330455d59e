use Rattle.std.proofs.Common.{sym, ◌∙◌}
use Rattle.std.proofs.lemmas.Bool.{not-false}
use Rattle.gabc_text.proofs.printing.ChangedStylesCloseFromTheFirst.{same_styles}
use Rattle.gabc_text.proofs.canonical.joins.Goals as goal

pub returns-then-is_empty-clause-styles : goal.returns-then-is_empty-clause-styles
returns-then-is_empty-clause-styles c = λ h. same_styles c.args.old c.args.piece.styles (not-false _ (sym c.ne.ensures ∙ c.if-ne.false))
