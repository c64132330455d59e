use Rattle.std.proofs.Common.{◌≡◌, ◌++◌, drop, map, take}
use Rattle.gregorio_c.specs.MessageBytes.{byte_in_text}
use Rattle.gregorio_c.proofs.message_bytes.put_all.Given as goal

abbrev pub invariant-loop-at : goal.invariant-loop-at
invariant-loop-at l = record {
  put : l.bytes ≡ map (byte_in_text l.initial.reader) (take l.at l.messages) ++ drop l.at l.initial.bytes;
  same : l.reader ≡ l.initial.reader;
}
