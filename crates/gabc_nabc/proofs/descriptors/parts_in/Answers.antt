use Rattle.gabc_nabc.proofs.parts_of_text.PartsAreTheReading.{parts_lie, parts_few}
use Rattle.gabc_nabc.proofs.descriptors.parts_in.Goals as goal

pub returns-clause-within : goal.returns-clause-within
returns-clause-within c = parts_lie c.args.kept.now c.utf8.kept

pub returns-clause-few : goal.returns-clause-few
returns-clause-few c = parts_few c.args.kept.now c.utf8.kept
