-- The headers and findings collected, without the room for them.
use Rattle.gabc_headers.specs.declared.collected.Collected.{Collected as Room}
use Rattle.gabc_headers.specs.machine.Collected.{Collected}
use Rattle.gabc_headers.specs.machine.EntryMap.{named_entries}

abbrev pub shown : Room → Collected
shown c = record { headers = named_entries c.headers.0; findings = c.findings }
