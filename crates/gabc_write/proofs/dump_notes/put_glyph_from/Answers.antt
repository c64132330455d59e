use Rattle.std.proofs.Common.{◌≡◌, List, length, Some, sym, ◌∙◌, arith}
use Rattle.gabc_notes.specs.declared.note.Note.{Note}
use Rattle.gabc_neumes.specs.Cut.{longest_glyph}
use Rattle.gabc_write.specs.machine.NoteLines.{notes_from}
use Rattle.gabc_write.proofs.ItemsLineByLine.{longest_fits}
use Rattle.gabc_write.proofs.dump_notes.put_glyph_from.Goals as goal

pub overflow_sub-result : goal.overflow_sub-result
overflow_sub-result g c =
    let notes : List Note = notes_from c.args.kept.now c.args.first c.args.after.now in
    let is : longest_glyph (length notes) notes ≡ Some (c.in-Some.kind, c.in-Some.count) = sym c.glyph_from.ensures.glyph ∙ c.in-Some.is in
    let some = (longest_fits (length notes) notes (c.in-Some.kind, c.in-Some.count) is).0 in
    omega (arith, some)
