use Rattle.std.proofs.Common.{arith}
use Rattle.gabc_headers.proofs.entries.HeadersAreSpelled.{value_spelled}
use Rattle.gabc_headers.proofs.entries.MapIsReadByEntry.{within_get}
use Rattle.gabc_headers.proofs.entry_map.EntryMap.value_in.Goals as goal

pub range-requires : goal.range-requires
range-requires c = grind (arith, within_get)

pub returns : goal.returns
returns c = rw c.range.ensures.value (value_spelled c.args.text.now c.args.self.now.0 c.args.index c.value-value.result c.value-value.ensures)
