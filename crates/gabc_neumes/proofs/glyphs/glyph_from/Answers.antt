use Rattle.std.proofs.Common.{◌≡◌, ◌≤◌, ◌∷◌, ℕ, List, [], true, false, length, ap, sym, ◌∙◌, subst, arith}
use Rattle.std.specs.List.{take_while}
use Rattle.std.proofs.lemmas.List.Elements.{All-tail}
use Rattle.gabc_notes.specs.Items.{AreWithin}
use Rattle.gabc_notes.specs.declared.item.Item.{Item}
use Rattle.gabc_notes.specs.declared.note.Note.{Note}
use Rattle.gabc_neumes.specs.Elements.{is_in_segment, notes_in}
use Rattle.gabc_neumes.proofs.glyphs_of_notes.SearchOfGlyph.{Searched, fresh, searched_start, searched_with, searched_stops, searched_end, search_grows, IsFound, found_of}
use Rattle.gabc_neumes.proofs.runs_of_items.NotesOfFirstSegment.{ahead_end, ahead_note, ahead_none}
use Rattle.gabc_neumes.proofs.glyphs.glyph_from.Goals as goal

-- the notes of the segment that begins the items
abbrev ahead : List ℕ → List Item → List Note
ahead kept items = notes_in kept (take_while is_in_segment items)

-- those after an item lie in the text too
rest_within : (kept : List ℕ) (items rest : List Item) (i : Item) → items ≡ i ∷ rest → AreWithin kept items → AreWithin kept rest
rest_within kept items rest i e h = All-tail (λ (j : Item). (j.span.from ≤ j.span.to) × (j.span.to ≤ length kept)) i rest (subst (AreWithin kept) e h)

pub loop-item-init : goal.loop-item-init
loop-item-init c =
    let same : c.into_iter-item-iterator.result ≡ c.args.later.now = c.into_iter-item-iterator.ensures.into_iter_gives ∙ c.ahead-item-items.ensures in
    let w = sym c.with.ensures ∙ c.in_ok-search.was in
    let few = c.requires.few in
    let size = ap (length {A = Item}) same in
    let read = search_grows fresh c.in_ok-search.search c.args.first w in
    record {
      searched = subst (λ (items : List Item). Searched (c.args.first ∷ ahead c.args.kept.now c.args.later.now) (ahead c.args.kept.now items) c.in_ok-search.search) (sym same)
          (searched_start (ahead c.args.kept.now c.args.later.now) c.args.first c.in_ok-search.search w);
      few = omega (arith, few, size, read);
      within = subst (AreWithin c.args.kept.now) (sym same) c.requires.within;
    }

-- what is found where an item ends the segment
found_before : (c : goal.Then-not-is_in_segment) → IsFound (c.args.first ∷ ahead c.args.kept.now c.args.later.now) c.loop-item.search.best
found_before c =
    let kept = c.args.kept.now in
    let ns : List Note = c.args.first ∷ ahead kept c.args.later.now in
    let out : is_in_segment c.in-Some.item ≡ false = cc (c.is_in_segment.ensures, c.if-not-is_in_segment.true) in
    let none : ahead kept c.loop-item.item-iterator ≡ [] = ap (ahead kept) c.in-Some.ensures.steps ∙ ahead_end kept c.in-Some.item c.next.new.self out in
    found_of c.args.first (ahead kept c.args.later.now) c.loop-item.search.best
    (searched_end ns c.loop-item.search (subst (λ (l : List Note). Searched ns l c.loop-item.search) none c.loop-item.invariant.searched))

pub returns-then-not-is_in_segment-clause-glyph : goal.returns-then-not-is_in_segment-clause-glyph
returns-then-not-is_in_segment-clause-glyph c = (found_before c).glyph

pub returns-then-not-is_in_segment-clause-some : goal.returns-then-not-is_in_segment-clause-some
returns-then-not-is_in_segment-clause-some c = (found_before c).some

pub loop-item-preserved-in-Some-with : goal.loop-item-preserved-in-Some-with
loop-item-preserved-in-Some-with c =
    let kept = c.args.kept.now in
    let ns : List Note = c.args.first ∷ ahead kept c.args.later.now in
    let joins : is_in_segment c.in-Some.item ≡ true = cc (c.is_in_segment.ensures, c.if-not-is_in_segment.false) in
    let next : ahead kept c.loop-item.item-iterator ≡ c.in-Some-note_of.note ∷ ahead kept c.next.new.self =
    ap (ahead kept) c.in-Some.ensures.steps ∙ ahead_note kept c.in-Some.item c.next.new.self c.in-Some-note_of.note joins (sym c.note_of.ensures ∙ c.in-Some-note_of.is) in
    let w = sym c.with-in-Some-note_of.ensures ∙ c.in-Some-with.is in
    let few = c.loop-item.invariant.few in
    let size = ap (length {A = Item}) c.in-Some.ensures.steps in
    let read = search_grows c.loop-item.search c.in-Some-with.after c.in-Some-note_of.note w in
    record {
      searched = searched_with ns (ahead kept c.next.new.self) c.in-Some-note_of.note c.loop-item.search c.in-Some-with.after
          (subst (λ (l : List Note). Searched ns l c.loop-item.search) next c.loop-item.invariant.searched) w;
      few = omega (arith, few, size, read);
      within = rest_within kept c.loop-item.item-iterator c.next.new.self c.in-Some.item c.in-Some.ensures.steps c.loop-item.invariant.within;
    }

-- what is found where no glyph goes on with a note
found_so_far : (c : goal.In-None-with) → IsFound (c.args.first ∷ ahead c.args.kept.now c.args.later.now) c.loop-item.search.best
found_so_far c =
    let kept = c.args.kept.now in
    let ns : List Note = c.args.first ∷ ahead kept c.args.later.now in
    let joins : is_in_segment c.in-Some.item ≡ true = cc (c.is_in_segment.ensures, c.if-not-is_in_segment.false) in
    let next : ahead kept c.loop-item.item-iterator ≡ c.in-Some-note_of.note ∷ ahead kept c.next.new.self =
    ap (ahead kept) c.in-Some.ensures.steps ∙ ahead_note kept c.in-Some.item c.next.new.self c.in-Some-note_of.note joins (sym c.note_of.ensures ∙ c.in-Some-note_of.is) in
    found_of c.args.first (ahead kept c.args.later.now) c.loop-item.search.best
    (searched_stops ns (ahead kept c.next.new.self) c.in-Some-note_of.note c.loop-item.search
    (subst (λ (l : List Note). Searched ns l c.loop-item.search) next c.loop-item.invariant.searched) (sym c.with-in-Some-note_of.ensures ∙ c.in-None-with.is))

pub returns-in-None-with-clause-glyph : goal.returns-in-None-with-clause-glyph
returns-in-None-with-clause-glyph c = (found_so_far c).glyph

pub returns-in-None-with-clause-some : goal.returns-in-None-with-clause-some
returns-in-None-with-clause-some c = (found_so_far c).some

pub loop-item-preserved : goal.loop-item-preserved
loop-item-preserved c =
    let kept = c.args.kept.now in
    let ns : List Note = c.args.first ∷ ahead kept c.args.later.now in
    let joins : is_in_segment c.in-Some.item ≡ true = cc (c.is_in_segment.ensures, c.if-not-is_in_segment.false) in
    let next : ahead kept c.loop-item.item-iterator ≡ ahead kept c.next.new.self =
    ap (ahead kept) c.in-Some.ensures.steps ∙ ahead_none kept c.in-Some.item c.next.new.self joins (sym c.note_of.ensures ∙ c.in_default.is) in
    let few = c.loop-item.invariant.few in
    let size = ap (length {A = Item}) c.in-Some.ensures.steps in
    record {
      searched = subst (λ (l : List Note). Searched ns l c.loop-item.search) next c.loop-item.invariant.searched;
      few = omega (arith, few, size);
      within = rest_within kept c.loop-item.item-iterator c.next.new.self c.in-Some.item c.in-Some.ensures.steps c.loop-item.invariant.within;
    }

pub returns-clause-glyph : goal.returns-clause-glyph
returns-clause-glyph c =
    let kept = c.args.kept.now in
    let ns : List Note = c.args.first ∷ ahead kept c.args.later.now in
    let none : ahead kept c.loop-item.item-iterator ≡ [] = ap (ahead kept) c.in-None.ensures.steps.0 in
    (found_of c.args.first (ahead kept c.args.later.now) c.loop-item.search.best
    (searched_end ns c.loop-item.search (subst (λ (l : List Note). Searched ns l c.loop-item.search) none c.loop-item.invariant.searched))).glyph

pub returns-clause-some : goal.returns-clause-some
returns-clause-some c =
    let kept = c.args.kept.now in
    let ns : List Note = c.args.first ∷ ahead kept c.args.later.now in
    let none : ahead kept c.loop-item.item-iterator ≡ [] = ap (ahead kept) c.in-None.ensures.steps.0 in
    (found_of c.args.first (ahead kept c.args.later.now) c.loop-item.search.best
    (searched_end ns c.loop-item.search (subst (λ (l : List Note). Searched ns l c.loop-item.search) none c.loop-item.invariant.searched))).some
