use Rattle.std.proofs.Common.{take}
use Rattle.gabc_neumes.proofs.glyphs_of_notes.KindByStates.{KindSoFar}
use Rattle.gabc_neumes.proofs.kind.kind_of.Given as goal

abbrev pub invariant-loop-note : goal.invariant-loop-note
invariant-loop-note l = KindSoFar (take l.note-index l.notes) l.state l.before
