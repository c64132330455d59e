use Rattle.gabc_nabc.specs.Table.{nabc}
use Rattle.gabc_patterns.specs.LongestItems.{IsItemOf}
use Rattle.gabc_patterns.proofs.OneReading.{one_reading}
use Rattle.gabc_nabc.proofs.grammar.LawsOfEvents.{kinds_are_one, none_empty}
use Rattle.gabc_nabc.proofs.parts_of_text.PartsAreTheReading.{parts_are_one}
use Rattle.gabc_nabc.proofs.laws.descriptors_are_one.Goals as goal

pub returns : goal.returns
returns c = record { readings = one_reading (IsItemOf nabc) none_empty kinds_are_one; parts = parts_are_one }
