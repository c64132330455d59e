use Rattle.gabc_neumes.proofs.StepsArePassed.{after_all, passed_all}
use Rattle.gabc_neumes.proofs.laws.steps_are_passed_one_by_one.Goals as goal

pub returns-clause-back : goal.returns-clause-back
returns-clause-back c = after_all

pub returns-clause-forth : goal.returns-clause-forth
returns-clause-forth c = passed_all
