use Rattle.std.proofs.Common.{arith}
use Rattle.gabc_headers.proofs.entries.MapIsReadByEntry.{get_none}
use Rattle.gabc_headers.proofs.entry_map.EntryMap.name.Goals as goal

pub returns-in-Some : goal.returns-in-Some
returns-in-Some c = grind arith

pub returns-in-None : goal.returns-in-None
returns-in-None c = grind (arith, get_none)
