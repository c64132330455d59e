use Rattle.std.proofs.Common.{◌≡◌, ◌≤◌, ℕ, List, ◌∷◌, length, sym, ap, ◌∙◌, arith}
use Rattle.std.proofs.lemmas.List.Elements.{All-tail}
use Rattle.gabc_notes.specs.declared.item.Item.{Item}
use Rattle.gabc_notes.specs.declared.note.Note.{Note}
use Rattle.gabc_write.specs.machine.NoteLines.{glyph_of, line_of_next, left_after, notes_from}
use Rattle.gabc_write.specs.DumpOfNotes.{notes_after}
use Rattle.gabc_write.proofs.dump_notes.put_next_glyph.Goals as goal

pub put_glyph_from-requires-clause-within : goal.put_glyph_from-requires-clause-within
put_glyph_from-requires-clause-within g c =
    All-tail (λ (i : Item). (i.span.from ≤ i.span.to) × (i.span.to ≤ length c.args.kept.now)) c.args.item c.args.after.now c.requires.within

pub returns-in-Some-clause-line : goal.returns-in-Some-clause-line
returns-in-Some-clause-line g c =
    let notes : notes_after c.args.kept.now (c.args.item ∷ c.args.after.now) ≡ notes_from c.args.kept.now c.in-Some.note c.args.after.now = grind arith in
    let none : c.args.left ≡ 0 = grind arith in
    c.put_glyph_from.ensures.line
    ∙ ap (g.S.Put.taken c.args.out.now)
    (ap (λ (left : ℕ). line_of_next left (glyph_of (notes_from c.args.kept.now c.in-Some.note c.args.after.now))) (sym none) ∙ ap (λ (ns : List Note). line_of_next c.args.left (glyph_of ns)) (sym notes))

pub returns-in-Some-clause-left : goal.returns-in-Some-clause-left
returns-in-Some-clause-left g c =
    let notes : notes_after c.args.kept.now (c.args.item ∷ c.args.after.now) ≡ notes_from c.args.kept.now c.in-Some.note c.args.after.now = grind arith in
    let none : c.args.left ≡ 0 = grind arith in
    c.put_glyph_from.ensures.left
    ∙ (ap (λ (left : ℕ). left_after left (glyph_of (notes_from c.args.kept.now c.in-Some.note c.args.after.now))) (sym none) ∙ ap (λ (ns : List Note). left_after c.args.left (glyph_of ns)) (sym notes))
