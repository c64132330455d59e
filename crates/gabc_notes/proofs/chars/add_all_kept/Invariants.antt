use Rattle.std.proofs.Common.{◌≡◌, ◌++◌, take}
use Rattle.gabc_notes.specs.SnippetRead.{kept_chars_of}
use Rattle.gabc_notes.proofs.chars.add_all_kept.Given as goal

abbrev pub invariant-loop-event : goal.invariant-loop-event
invariant-loop-event l = l.kept ≡ take l.count (l.initial.kept ++ kept_chars_of (take l.event-index l.events))
