-- A search for the longest glyph that begins some notes, a note at a time.
use Rattle.std.proofs.Common.{◌≡◌, ℕ, zero, suc, List, [], ◌∷◌, refl, sym, ap, ◌∙◌, subst, Option, Some, None, take, drop, length, get_or, ◌<◌, ◌≤◌, ◌+◌, arith, length-drop, add-one, is_some, true}
use Rattle.std.proofs.Math.Seq.{drop-cons}
use native.Mathlib.Decide.{dec_lt}
use Rattle.gabc_patterns.specs.LongestItems.{IsItem}
use Rattle.gabc_patterns.specs.Function.{best_of}
use Rattle.gabc_notes.specs.declared.note.Note.{Note}
use Rattle.gabc_neumes.specs.Cut.{kind_by, longest_glyph}
use Rattle.gabc_neumes.specs.Letters.{letters}
use Rattle.gabc_neumes.specs.Table.{neumes}
use Rattle.gabc_neumes.specs.machine.Glyphs.{IsFirstGlyph, search_with}
use Rattle.gabc_neumes.specs.machine.GlyphMachine.{class_at, next_state, kind_at_end}
use Rattle.gabc_neumes.specs.declared.glyph.GlyphKind.{GlyphKind}
use Rattle.gabc_neumes.specs.declared.glyphs.GlyphSearch.{GlyphSearch}
use Rattle.gabc_neumes.specs.declared.state.GlyphState.{GlyphState}
use Rattle.gabc_neumes.specs.declared.state.GlyphState.TheVariants.{Start}
use Rattle.gabc_neumes.proofs.glyphs_of_notes.LettersOfNotes.{are_letters}
use Rattle.gabc_neumes.proofs.glyphs_of_notes.FirstGlyphByStates.{ReadSoFar, BestFound, reading_start, reading_ends, reading_on, reading_stops, reading_end}
use Rattle.gabc_neumes.proofs.glyphs_of_notes.GlyphsAreComputed.{kind_is, kind_none}

-- What a search has found in the notes, of which those are left.
pub record Searched (ns left : List Note) (s : GlyphSearch) : Type 0 where
  pub far : ReadSoFar ns s.read s.state s.before s.best
  pub left_is : drop s.read ns ≡ left

-- the note at a place, if notes are left there
record Here (ns rest : List Note) (at : ℕ) (note : Note) : Type 0 where
  inside : at < length ns
  note_is : get_or ns at note ≡ note
  rest_is : drop (at + 1) ns ≡ rest

here : (ns rest : List Note) (at : ℕ) (note : Note) → drop at ns ≡ note ∷ rest → Here ns rest at note
here ns rest at note e =
    let size : length (drop at ns) ≡ suc (length rest) = ap length e in
    let inside : at < length ns = omega (arith, length-drop at ns) in
    let both : get_or ns at note ∷ drop (suc at) ns ≡ note ∷ rest = sym (drop-cons ns at note inside) ∙ e in
    record {
      inside = inside;
      note_is = ap (λ (l : List Note). get_or l 0 note) both;
      rest_is = ap (λ (n : ℕ). drop n ns) (add-one at) ∙ ap (λ (l : List Note). drop 1 l) both;
    }

-- a note more
pub searched_with : (ns rest : List Note) (note : Note) (s z : GlyphSearch) → Searched ns (note ∷ rest) s → search_with s note ≡ Some z → Searched ns rest z
searched_with ns rest note s z h w = go (next_state s.state (class_at s.before note)) refl
  where
    p : Here ns rest s.read note
    p = here ns rest s.read note h.left_is

    class_same : (o : Option GlyphState) → next_state s.state (class_at s.before note) ≡ o → next_state s.state (class_at s.before (get_or ns s.read note)) ≡ o
    class_same o e = ap (λ (n : Note). next_state s.state (class_at s.before n)) p.note_is ∙ e

    go : (o : Option GlyphState) → next_state s.state (class_at s.before note) ≡ o → Searched ns rest z
    go None e = absurd (let f : search_with s note ≡ None = rw e refl in cc)
    go (Some after) e = on (kind_at_end after) refl
      where
        further : Option (GlyphKind × ℕ) → GlyphSearch
        further best = record { state = after; before = Some note.height; read = s.read + 1; best = best }

        found : search_with s note ≡ Some (further (best_of (kind_at_end after) (s.read + 1) s.best))
        found = rw e refl

        on : (o : Option GlyphKind) → kind_at_end after ≡ o → Searched ns rest z
        on None f =
            let f2 : search_with s note ≡ Some (further s.best) = found ∙ ap (λ (k : Option GlyphKind). Some (further (best_of k (s.read + 1) s.best))) f in
            let same : further s.best ≡ z = cc in
            let r = reading_on ns s.read s.state after s.before note s.best p.inside h.far (class_same (Some after) e) f in
            subst (Searched ns rest) same (record {
              far = subst (λ (n : Note). ReadSoFar ns (s.read + 1) after (Some n.height) s.best) p.note_is r;
              left_is = p.rest_is;
            })
        on (Some k) f =
            let f2 : search_with s note ≡ Some (further (Some (k, s.read + 1))) = found ∙ ap (λ (k : Option GlyphKind). Some (further (best_of k (s.read + 1) s.best))) f in
            let same : further (Some (k, s.read + 1)) ≡ z = cc in
            let r = reading_ends ns s.read s.state after s.before note k s.best p.inside h.far (class_same (Some after) e) f in
            subst (Searched ns rest) same (record {
              far = subst (λ (n : Note). ReadSoFar ns (s.read + 1) after (Some n.height) (Some (k, s.read + 1))) p.note_is r;
              left_is = p.rest_is;
            })

-- a note with which no glyph goes on
pub searched_stops : (ns rest : List Note) (note : Note) (s : GlyphSearch) → Searched ns (note ∷ rest) s → search_with s note ≡ None → BestFound ns s.best
searched_stops ns rest note s h w = go (next_state s.state (class_at s.before note)) refl
  where
    p : Here ns rest s.read note
    p = here ns rest s.read note h.left_is

    go : (o : Option GlyphState) → next_state s.state (class_at s.before note) ≡ o → BestFound ns s.best
    go (Some after) e = absurd (let f : search_with s note ≡ Some (record { state = after; before = Some note.height; read = s.read + 1; best = best_of (kind_at_end after) (s.read + 1) s.best }) = rw e refl in cc)
    go None e = reading_stops ns s.read s.state s.before note s.best p.inside h.far (ap (λ (n : Note). next_state s.state (class_at s.before n)) p.note_is ∙ e)

-- where none is left
pub searched_end : (ns : List Note) (s : GlyphSearch) → Searched ns [] s → BestFound ns s.best
searched_end ns s h =
    let none : length (drop s.read ns) ≡ 0 = ap length h.left_is in
    reading_end ns s.read s.state s.before s.best (omega (arith, length-drop s.read ns)) h.far

-- ---- the longest glyph that was found is what the function gives

longest_found : (ns : List Note) (k : GlyphKind) (count n : ℕ) → IsFirstGlyph ns k count → count ≤ n → n ≤ length ns → longest_glyph n ns ≡ Some (k, count)
longest_found ns k count zero h a b = absurd (let some = h.some in omega arith)
longest_found ns k count (suc n) h a b = elim (dec_lt count (suc n)) [
  | no x ↦ (let same : count ≡ suc n = omega arith in
      let is_kind = kind_is k (take count ns) (rw (are_letters.prefix count ns) h.item) in
      ap step (ap (λ (m : ℕ). kind_by (take m ns)) (sym same) ∙ is_kind) ∙ ap (λ (m : ℕ). Some (k, m)) (sym same))
  | yes x ↦ (let many = are_letters.as_many ns in
      let none : ¬ IsItem neumes (letters (take (suc n) ns)) = rw (are_letters.prefix (suc n) ns) (h.none (suc n) x (omega arith)) in
      ap step (kind_none (take (suc n) ns) none) ∙ longest_found ns k count n h (omega arith) (omega arith))
]
  where
    step : Option GlyphKind → Option (GlyphKind × ℕ)
    step o = elim o as (λ _. Option (GlyphKind × ℕ)) [ None ↦ longest_glyph n ns | Some kind ↦ Some (kind, suc n) ]

-- What is found of a note and more.
pub record IsFound (ns : List Note) (best : Option (GlyphKind × ℕ)) : Type 0 where
  pub glyph : best ≡ longest_glyph (length ns) ns
  pub some : is_some best ≡ true

pub found_of : (n : Note) (ns : List Note) (best : Option (GlyphKind × ℕ)) → BestFound (n ∷ ns) best → IsFound (n ∷ ns) best
found_of n ns None h = absurd (let none = h.none in cc)
found_of n ns (Some g) h = let f = h.found in record { glyph = sym (longest_found (n ∷ ns) g.0 g.1 (length (n ∷ ns)) f f.within (omega arith)); some = refl }

-- a search has read a note more
pub search_grows : (s z : GlyphSearch) (note : Note) → search_with s note ≡ Some z → z.read ≡ s.read + 1
search_grows s z note w = grind arith

-- after the first note
abbrev pub fresh : GlyphSearch
fresh = record { state = Start; before = None; read = 0; best = None }

pub searched_start : (ns : List Note) (first : Note) (z : GlyphSearch) → search_with fresh first ≡ Some z → Searched (first ∷ ns) ns z
searched_start ns first z w = searched_with (first ∷ ns) ns first fresh z (record { far = reading_start (first ∷ ns); left_is = refl }) w
