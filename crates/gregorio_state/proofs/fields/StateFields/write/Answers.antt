use Rattle.std.proofs.Common.{ap, sym, subst, ◌∙◌}
use Rattle.gregorio_state.specs.Conditions.{AreStateFields}
use Rattle.gregorio_state.specs.Fields.{StateFields, fields_of}
use Rattle.gregorio_state.specs.StateBytes.{state_bytes}
use Rattle.gregorio_state.proofs.OwnPendingTextKeepsFields.{holding_its_own}
use Rattle.gregorio_state.proofs.fields.StateFields.write.Goals as goal

pub write_holding-requires : goal.write_holding-requires
write_holding-requires g c = subst AreStateFields (sym (holding_its_own (fields_of c.args.self.now) c.held-held.result.now c.held-held.ensures)) c.requires

pub returns : goal.returns
returns g c = c.write_holding.ensures ∙ ap (λ (s : StateFields). g.S.Put.taken c.args.out.now (state_bytes s)) (holding_its_own (fields_of c.args.self.now) c.held-held.result.now c.held-held.ensures)
