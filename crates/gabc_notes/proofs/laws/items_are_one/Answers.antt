use Rattle.gabc_notes.specs.Table.{gabc}
use Rattle.gabc_notes.proofs.grammar.LawsOfKeptTexts.{kinds_are_one, none_empty}
use Rattle.gabc_notes.proofs.items_of_text.ItemsByBytes.{items_are_one_list}
use Rattle.gabc_patterns.specs.LongestItems.{IsItemOf}
use Rattle.gabc_patterns.proofs.OneReading.{one_reading}
use Rattle.gabc_notes.proofs.laws.items_are_one.Goals as goal

pub returns : goal.returns
returns c = record { readings = one_reading (IsItemOf gabc) none_empty kinds_are_one; items = items_are_one_list }
