use Rattle.std.proofs.Common.{◌≡◌, take}
use Rattle.gabc_text.specs.BuiltText.{kept_chars_in}
use Rattle.gabc_text.proofs.kept.kept_chars.Given as goal

abbrev pub invariant-loop-event : goal.invariant-loop-event
invariant-loop-event l = l.kept ≡ kept_chars_in (take l.event-index l.event-items)
