use Rattle.std.proofs.Common.{arith}
use Rattle.gabc_headers.proofs.entries.MapIsReadByEntry.{value_get}
use Rattle.gabc_headers.proofs.entry_map.EntryMap.value.Goals as goal

pub returns : goal.returns
returns c = grind (arith, value_get)
