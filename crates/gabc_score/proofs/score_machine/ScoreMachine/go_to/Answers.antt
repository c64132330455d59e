use Rattle.gabc_score.proofs.resuming.StagesMove.{score_moved}
use Rattle.gabc_score.proofs.score_machine.ScoreMachine.go_to.Goals as goal

pub returns-clause-rests : goal.returns-clause-rests
returns-clause-rests c = score_moved c.args.self.now c.args.at c.go_to.new.self c.go_to.ensures.keeps c.go_to.ensures.moved c.args.self.now.part c.requires.rests
