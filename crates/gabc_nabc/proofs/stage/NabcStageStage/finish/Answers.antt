use Rattle.std.proofs.Common.{refl, true}
use Rattle.gabc_nabc.proofs.Stopping.{ended-emits_nothing, finish_stops}
use Rattle.gabc_nabc.proofs.stage.NabcStageStage.finish.Goals as goal

pub returns-clause-over : goal.returns-clause-over
returns-clause-over c = ended-emits_nothing (record c.args.self.now { ended = true }) refl

pub returns-clause-end : goal.returns-clause-end
returns-clause-end c = finish_stops c.args.self.now (record c.args.self.now { ended = true }) c.args.out.now c.stop.new.out refl c.stop.ensures
