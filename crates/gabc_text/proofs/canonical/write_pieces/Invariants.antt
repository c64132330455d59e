use Rattle.std.proofs.Common.{◌≡◌, ◌≤◌, ◌-◌, length}
use Rattle.gabc_text.specs.Canonical.{canonical_text}
use Rattle.gabc_text.specs.TextView.{content_of}
use Rattle.gabc_text.specs.machine.Runs.{text_at}
use Rattle.gabc_text.proofs.canonical.write_pieces.Given as goal

-- with what is left, it will have taken all of it
abbrev pub invariant-loop-next : goal.invariant-loop-next
invariant-loop-next g l = record {
  text : g.S.Put.taken l.out (text_at l.fn.view l.fn.kept l.old l.next) ≡ g.S.Put.taken l.fn.out (canonical_text (content_of l.fn.view) l.fn.kept);
  within : l.next ≤ length l.pieces;
}

abbrev pub decreases-loop-next : goal.decreases-loop-next
decreases-loop-next g l = length l.pieces - l.next
