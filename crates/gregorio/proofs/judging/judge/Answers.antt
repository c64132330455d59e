use Rattle.gregorio.proofs.judging.judge.Goals as goal

pub returns-in-Ok-true-clause-other : goal.returns-in-Ok-true-clause-other
returns-in-Ok-true-clause-other c = λ other. c.in-Ok-true.ensures.read.0 c.in-Ok-true.field-0-test
