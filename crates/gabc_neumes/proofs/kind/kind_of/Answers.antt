use Rattle.std.proofs.Common.{sym, ap, ◌∙◌, false}
use Rattle.gabc_notes.specs.declared.note.Note.{Note}
use Rattle.gabc_notes.specs.declared.note.Shape.TheVariants.{Punctum}
use Rattle.gabc_neumes.specs.machine.GlyphMachine.{next_state}
use Rattle.gabc_neumes.specs.declared.state.NoteClass.{NoteClass}
use Rattle.gabc_neumes.proofs.glyphs_of_notes.KindByStates.{far_first, far_next, far_none, far_all}
use Rattle.gabc_neumes.proofs.kind.kind_of.Goals as goal

abbrev pub default : Note
default = record { height = 0; shape = Punctum; debilis = false; span = record { from = 0; to = 0 } }

pub loop-note-init : goal.loop-note-init
loop-note-init c = far_first

pub returns-in_err-state : goal.returns-in_err-state
returns-in_err-state c =
    far_none c.args.notes.now c.loop-note.note-index c.loop-note.state c.loop-note.before default c.from_residual.result c.loop-note-test.true c.loop-note.invariant
    (ap (λ (k : NoteClass). next_state c.loop-note.state k) (sym c.class_of.ensures) ∙ (sym c.goes_on.ensures ∙ c.in_err-state.was)) c.from_residual.ensures

pub loop-note-preserved : goal.loop-note-preserved
loop-note-preserved c =
    far_next c.args.notes.now c.loop-note.note-index c.loop-note.state c.in_ok-state.state c.loop-note.before default c.loop-note-test.true c.loop-note.invariant
    (ap (λ (k : NoteClass). next_state c.loop-note.state k) (sym c.class_of.ensures) ∙ (sym c.goes_on.ensures ∙ c.in_ok-state.was))

pub returns : goal.returns
returns c = far_all c.args.notes.now c.loop-note.note-index c.loop-note.state c.loop-note.before c.ends.result c.loop-note-test.false c.loop-note.invariant c.ends.ensures
