use Rattle.std.proofs.Common.{length, ap, sym, subst, ◌∙◌}
use Rattle.gregorio_state.specs.Conditions.{AreStateFields}
use Rattle.gregorio_state.specs.Fields.{StateFields, fields_of}
use Rattle.gregorio_state.specs.StateBytes.{state_bytes}
use Rattle.gregorio_state.proofs.OwnPendingTextKeepsFields.{holding_its_own}
use Rattle.gregorio_state.proofs.fields.StateFields.len.Goals as goal

pub len_holding-requires : goal.len_holding-requires
len_holding-requires c = subst AreStateFields (sym (holding_its_own (fields_of c.args.self.now) c.held-held.result.now c.held-held.ensures)) c.requires

pub returns-clause-len : goal.returns-clause-len
returns-clause-len c = c.len_holding.ensures.len ∙ ap (λ (s : StateFields). length (state_bytes s)) (holding_its_own (fields_of c.args.self.now) c.held-held.result.now c.held-held.ensures)
