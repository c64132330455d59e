use Rattle.gabc_neumes.proofs.StepsArePassed.{clef_there, alter_there}
use Rattle.gabc_neumes.proofs.laws.positions_say_what_is_in_force.Goals as goal

pub returns-clause-clef : goal.returns-clause-clef
returns-clause-clef c = clef_there

pub returns-clause-alter : goal.returns-clause-alter
returns-clause-alter c = alter_there
