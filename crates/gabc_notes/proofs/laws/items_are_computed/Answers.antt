use Rattle.gabc_notes.proofs.items_of_text.ItemsByBytes.{items_are_those, items_read_text}
use Rattle.gabc_notes.proofs.laws.items_are_computed.Goals as goal

pub returns : goal.returns
returns c = record { items = items_are_those; snippet = items_read_text }
