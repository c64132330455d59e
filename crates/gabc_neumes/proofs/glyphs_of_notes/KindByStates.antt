-- The kind of notes, read a note at a time.
use Rattle.std.proofs.Common.{◌≡◌, ℕ, List, [], ◌∷◌, ◌++◌, refl, sym, ap, ◌∙◌, subst, Option, Some, None, take, drop, length, get_or, ◌<◌, ◌≤◌, ◌+◌, MatchOption, take-append-drop, take_at, arith}
use Rattle.std.proofs.lemmas.List.{take_more, take_all}
use Rattle.gabc_notes.specs.declared.note.Note.{Note}
use Rattle.gabc_patterns.specs.LongestItems.{IsItemOf}
use Rattle.gabc_patterns.specs.Derivative.{rows_run, end_kind}
use Rattle.gabc_patterns.proofs.AutomatonsByTests.{rows_of, rows_at}
use Rattle.gabc_patterns.proofs.RowsRun.{rows_run-append, item_at_end, no_item_at_end, no_item_past}
use Rattle.gabc_neumes.specs.Glyphs.{HasKind}
use Rattle.gabc_neumes.specs.Letters.{letters}
use Rattle.gabc_neumes.specs.Table.{neumes}
use Rattle.gabc_neumes.specs.machine.GlyphMachine.{class_at, next_state, kind_at_end}
use Rattle.gabc_neumes.specs.declared.glyph.GlyphKind.{GlyphKind}
use Rattle.gabc_neumes.specs.declared.state.GlyphState.{GlyphState}
use Rattle.gabc_neumes.specs.declared.state.GlyphState.TheVariants.{Start}
use Rattle.gabc_neumes.proofs.glyphs_of_notes.LettersOfNotes.{are_letters, class_of_letter_of, last_height, letters-snoc, last-snoc}
use Rattle.gabc_neumes.proofs.glyphs_of_notes.MachineReadsNeumes.{machine, items_read}

-- The notes are read, the state is s, and that is the height of the last of them.
pub record KindSoFar (done : List Note) (s : GlyphState) (before : Option ℕ) : Type 0 where
  pub rows : rows_of neumes machine s ≡ rows_run neumes (letters done)
  pub last : before ≡ last_height done

-- before the first note
pub far_first : KindSoFar [] Start None
far_first = record { rows = refl; last = refl }

-- the rows after a note more
pub rows_more : (done : List Note) (s : GlyphState) (before : Option ℕ) (n : Note) (o : Option GlyphState) → KindSoFar done s before → next_state s (class_at before n) ≡ o
    → rows_at neumes machine o ≡ rows_run neumes (letters (done ++ n ∷ []))
rows_more done s before n o h g = grind (arith, class_of_letter_of, letters-snoc, items_read, rows_run-append)

-- a note more
pub far_more : (done : List Note) (s z : GlyphState) (before : Option ℕ) (n : Note) → KindSoFar done s before → next_state s (class_at before n) ≡ Some z
    → KindSoFar (done ++ n ∷ []) z (Some n.height)
far_more done s z before n h g = record { rows = rows_more done s before n (Some z) h g; last = sym (last-snoc None done n) }

-- the same by a place in the list
pub far_next : (ns : List Note) (i : ℕ) (s z : GlyphState) (before : Option ℕ) (d : Note) → i < length ns → KindSoFar (take i ns) s before
    → next_state s (class_at before (get_or ns i d)) ≡ Some z → KindSoFar (take (i + 1) ns) z (Some (get_or ns i d).height)
far_next ns i s z before d l h g =
    subst (λ (u : List Note). KindSoFar u z (Some (get_or ns i d).height)) (sym (take_more ns i d l)) (far_more (take i ns) s z before (get_or ns i d) h g)

-- after a note with which no glyph goes on, whatever follows, there is none
pub far_stops : (done more : List Note) (s : GlyphState) (before : Option ℕ) (n : Note) → KindSoFar done s before
    → next_state s (class_at before n) ≡ None → (k : GlyphKind) → ¬ HasKind k ((done ++ n ∷ []) ++ more)
far_stops done more s before n h g k r =
    let all : List Note = (done ++ n ∷ []) ++ more in
    let many : ℕ = length (done ++ n ∷ []) in
    let whole : letters all ≡ letters (done ++ n ∷ []) ++ drop many (letters all) =
    sym (take-append-drop many (letters all)) ∙ ap (λ (u : List ℕ). u ++ drop many (letters all)) (sym (are_letters.prefix many all) ∙ ap letters (take_at (done ++ n ∷ []) more many refl)) in
    no_item_past neumes (letters (done ++ n ∷ [])) (drop many (letters all)) (sym (rows_more done s before n None h g)) (k, subst (λ (u : List ℕ). IsItemOf neumes k u) whole r)

-- all notes are read
pub far_end : (ns : List Note) (s : GlyphState) (before : Option ℕ) (o : Option GlyphKind) → KindSoFar ns s before → o ≡ kind_at_end s
    → MatchOption o ((k : GlyphKind) → ¬ HasKind k ns) (λ k. HasKind k ns)
far_end ns s before None h e = λ k r. no_item_at_end neumes (letters ns) (ap end_kind (sym h.rows) ∙ (items_read.ends s ∙ sym e)) (k, r)
far_end ns s before (Some k) h e = item_at_end neumes (letters ns) k (ap end_kind (sym h.rows) ∙ (items_read.ends s ∙ sym e))

-- the same after a loop over them
pub far_all : (ns : List Note) (i : ℕ) (s : GlyphState) (before : Option ℕ) (o : Option GlyphKind) → length ns ≤ i → KindSoFar (take i ns) s before → o ≡ kind_at_end s
    → MatchOption o ((k : GlyphKind) → ¬ HasKind k ns) (λ k. HasKind k ns)
far_all ns i s before o l h e = far_end ns s before o (subst (λ (u : List Note). KindSoFar u s before) (take_all i ns l) h) e

-- the same where the loop stopped
pub far_none : (ns : List Note) (i : ℕ) (s : GlyphState) (before : Option ℕ) (d : Note) (o : Option GlyphKind) → i < length ns → KindSoFar (take i ns) s before
    → next_state s (class_at before (get_or ns i d)) ≡ None → o ≡ None → MatchOption o ((k : GlyphKind) → ¬ HasKind k ns) (λ k. HasKind k ns)
far_none ns i s before d None l h g e =
    let whole : ns ≡ (take i ns ++ get_or ns i d ∷ []) ++ drop (i + 1) ns = sym (take-append-drop (i + 1) ns) ∙ ap (λ (u : List Note). u ++ drop (i + 1) ns) (take_more ns i d l) in
    λ k r. far_stops (take i ns) (drop (i + 1) ns) s before (get_or ns i d) h g k (subst (HasKind k) whole r)
far_none ns i s before d (Some k) l h g e = absurd (cc)
