use Rattle.std.specs.Str.{chars, IsUtf8}
use Rattle.std.specs.Str.Iter.{chars_rest}
use Rattle.gabc_headers.specs.machine.HeaderMachine.{IsBounded}
use Rattle.gabc_headers.proofs.machines.OnePush.{Following}
use Rattle.gabc_headers.proofs.event_list.events_of_headers.Given as goal

abbrev pub invariant-loop-c : goal.invariant-loop-c
invariant-loop-c l = IsUtf8 (chars_rest l.c-iterator) × IsBounded l.machine × Following l.text l.limit (chars (chars_rest l.c-iterator)) l.machine l.events.items
