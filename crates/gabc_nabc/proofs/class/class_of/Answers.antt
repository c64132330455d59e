use Rattle.std.proofs.Common.{◌∙◌}
use Rattle.gabc_nabc.specs.declared.class.NabcClass.TheVariants.{Other}
use Rattle.gabc_nabc.proofs.machine.ClassesInTable.{class_in_table}
use Rattle.gabc_nabc.proofs.class.class_of.Goals as goal

pub returns-in-Some : goal.returns-in-Some
returns-in-Some c = let found = c.in-Some.ensures.lookup in found.3.1 Other ∙ class_in_table c.args.c Other found.3.0
