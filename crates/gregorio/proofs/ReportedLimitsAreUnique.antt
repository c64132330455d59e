-- A state reports one kind of limits.
use Rattle.std.proofs.Common.{◌≡◌, sym, ◌∙◌}
use Rattle.gabc_places.proofs.LimitsAreNumbers.{same_limits}
use Rattle.gabc_places.specs.declared.limits.Limits.{Limits}
use Rattle.gregorio_state.specs.Fields.{StateFields}
use Rattle.gregorio.specs.SavedState.{ReportsLimits}

-- those that a state reports are the same
pub told_once : (s : StateFields) (one other : Limits) → ReportsLimits s one → ReportsLimits s other → one ≡ other
told_once s one other h g = same_limits one other (sym h.header ∙ g.header) (sym h.syllable ∙ g.syllable) (sym h.input ∙ g.input)
