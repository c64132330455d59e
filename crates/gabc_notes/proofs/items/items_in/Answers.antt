use Rattle.gabc_notes.proofs.items_of_text.ItemsByBytes.{items_lie_in, items_few}
use Rattle.gabc_notes.proofs.items.items_in.Goals as goal

pub returns-clause-within : goal.returns-clause-within
returns-clause-within c = items_lie_in c.args.kept.now c.utf8.kept

pub returns-clause-few : goal.returns-clause-few
returns-clause-few c = items_few c.args.kept.now c.utf8.kept
