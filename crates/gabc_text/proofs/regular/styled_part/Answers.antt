use Rattle.std.proofs.Common.{arith, ◌∙◌, sym}
use Rattle.gabc_text.proofs.RegularParts.{styled_so, apart_style}
use Rattle.gabc_text.proofs.regular.styled_part.Goals as goal

pub returns-clause-part : goal.returns-clause-part
returns-clause-part c = grind (arith, styled_so)

pub returns-clause-apart : goal.returns-clause-apart
returns-clause-apart c = apart_style c.args.last c.style_by-style.result (sym c.is_style.ensures ∙ c.if-is_style.false)
