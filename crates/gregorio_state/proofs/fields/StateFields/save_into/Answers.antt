use Rattle.std.proofs.Common.{sym, subst, arith}
use Rattle.gregorio_state.specs.Conditions.{AreStateFields}
use Rattle.gregorio_state.specs.Fields.{fields_of}
use Rattle.gregorio_state.proofs.OwnPendingTextKeepsFields.{holding_its_own}
use Rattle.gregorio_state.proofs.fields.StateFields.save_into.Goals as goal

pub save_holding-requires : goal.save_holding-requires
save_holding-requires c = subst AreStateFields (sym (holding_its_own (fields_of c.args.self.now) c.held-held.result.now c.held-held.ensures)) c.requires

pub returns-clause-written : goal.returns-clause-written
returns-clause-written c = grind (arith, holding_its_own)

pub returns-clause-len : goal.returns-clause-len
returns-clause-len c = grind (arith, holding_its_own)

pub returns-clause-longer : goal.returns-clause-longer
returns-clause-longer c = grind (arith, holding_its_own)
