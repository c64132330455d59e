use Rattle.gabc_nabc.proofs.parts_of_text.PartsAreTheReading.{parts_are, parts_read, parts_lie}
use Rattle.gabc_nabc.proofs.laws.parts_are_computed.Goals as goal

pub returns : goal.returns
returns c = record { parts = parts_are; snippet = parts_read; within = parts_lie }
