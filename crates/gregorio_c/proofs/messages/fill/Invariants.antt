use Rattle.std.proofs.Common.{◌≡◌, ◌+◌, ◌-◌, ◌^◌, ◌≤◌, List, drop, length, min}
use Rattle.gabc_places.specs.Filling.{filled}
use Rattle.gregorio_c.specs.Messages.{messages_by}
use Rattle.gregorio_c.specs.declared.message.Message.{Message}
use Rattle.gregorio_c.proofs.MessagesAreFilled.{messages_left}
use Rattle.gregorio_c.proofs.messages.fill.Given as goal

abbrev pub invariant-loop-finding : goal.invariant-loop-finding
invariant-loop-finding l =
    let left : List Message = messages_left l.all_warnings l.score.fault (drop l.finding-index l.score.findings) in
    record {
      buf : filled l.buf l.len left ≡ filled l.initial.buf l.at (messages_by l.all_warnings l.score);
      count : min (l.count + length left) (2 ^ 64 - 1) ≡ min (length (messages_by l.all_warnings l.score)) (2 ^ 64 - 1);
      few : l.count ≤ 2 ^ 64 - 1;
    }
