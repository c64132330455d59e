use Rattle.std.proofs.Common.{◌≡◌, ◌+◌, ◌<◌, ◌∷◌, ℕ, List, drop, length, get_or, false, ap, sym, ◌∙◌, subst, add-one}
use Rattle.std.proofs.Math.Seq.{drop-cons}
use Rattle.std.proofs.lemmas.List.{drop_all}
use Rattle.gabc_notes.specs.declared.note.Note.{Note}
use Rattle.gabc_notes.specs.declared.note.Shape.TheVariants.{Punctum}
use Rattle.gabc_neumes.proofs.glyphs_of_notes.SearchOfGlyph.{Searched, searched_with, searched_stops, searched_end, search_grows}
use Rattle.gabc_neumes.proofs.glyphs.first_glyph.Goals as goal

abbrev pub default : Note
default = record { height = 0; shape = Punctum; debilis = false; span = record { from = 0; to = 0 } }

-- what is left at a note
left_at : (notes : List Note) (i : ℕ) → i < length notes → drop i notes ≡ get_or notes i default ∷ drop (i + 1) notes
left_at notes i l = drop-cons notes i default l ∙ ap (λ (n : ℕ). get_or notes i default ∷ drop n notes) (sym (add-one i))

pub loop-note-preserved : goal.loop-note-preserved
loop-note-preserved c =
    let notes = c.args.notes.now in
    let i = c.loop-note.note-index in
    let h = subst (λ (l : List Note). Searched notes l c.loop-note.search) (left_at notes i c.loop-note-test.true) c.loop-note.invariant.searched in
    let w = sym c.with.ensures ∙ c.in-Some.is in
    record {
      searched = searched_with notes (drop (i + 1) notes) (get_or notes i default) c.loop-note.search c.in-Some.after h w;
      read = search_grows c.loop-note.search c.in-Some.after (get_or notes i default) w ∙ ap (λ (n : ℕ). n + 1) c.loop-note.invariant.read;
    }

pub returns-in-None-clause-found : goal.returns-in-None-clause-found
returns-in-None-clause-found c =
    let notes = c.args.notes.now in
    let i = c.loop-note.note-index in
    (searched_stops notes (drop (i + 1) notes) (get_or notes i default) c.loop-note.search
    (subst (λ (l : List Note). Searched notes l c.loop-note.search) (left_at notes i c.loop-note-test.true) c.loop-note.invariant.searched) (sym c.with.ensures ∙ c.in-None.is)).found

pub returns-in-None-clause-none : goal.returns-in-None-clause-none
returns-in-None-clause-none c =
    let notes = c.args.notes.now in
    let i = c.loop-note.note-index in
    (searched_stops notes (drop (i + 1) notes) (get_or notes i default) c.loop-note.search
    (subst (λ (l : List Note). Searched notes l c.loop-note.search) (left_at notes i c.loop-note-test.true) c.loop-note.invariant.searched) (sym c.with.ensures ∙ c.in-None.is)).none

pub returns-clause-found : goal.returns-clause-found
returns-clause-found c =
    let notes = c.args.notes.now in
    (searched_end notes c.loop-note.search (subst (λ (l : List Note). Searched notes l c.loop-note.search) (drop_all c.loop-note.note-index notes c.loop-note-test.false) c.loop-note.invariant.searched)).found

pub returns-clause-none : goal.returns-clause-none
returns-clause-none c =
    let notes = c.args.notes.now in
    (searched_end notes c.loop-note.search (subst (λ (l : List Note). Searched notes l c.loop-note.search) (drop_all c.loop-note.note-index notes c.loop-note-test.false) c.loop-note.invariant.searched)).none
