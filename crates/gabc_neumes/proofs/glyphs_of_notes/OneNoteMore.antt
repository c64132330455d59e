-- Where a glyph begins with some notes, these are a glyph, or all but the last are.
use Rattle.std.proofs.Common.{◌≡◌, ℕ, List, [], ◌∷◌, ◌++◌, refl, sym, ◌∙◌, subst, Option, Some, None, append_assoc, append-nil, ◌⊎◌, inl, inr, arith}
use Rattle.gabc_notes.specs.declared.note.Note.{Note}
use Rattle.gabc_patterns.specs.LongestItems.{HasSome}
use Rattle.gabc_neumes.specs.Glyphs.{HasKind}
use Rattle.gabc_neumes.specs.machine.GlyphMachine.{class_at, next_state, kind_at_end}
use Rattle.gabc_neumes.specs.declared.glyph.GlyphKind.{GlyphKind}
use Rattle.gabc_neumes.specs.declared.state.NoteClass.{NoteClass}
use Rattle.gabc_neumes.specs.declared.state.NoteClass.TheVariants.{First, PointDown}
use Rattle.gabc_neumes.specs.declared.state.GlyphState.{GlyphState}
use Rattle.gabc_neumes.specs.declared.state.GlyphState.TheVariants.{Start, One, Half}
use Rattle.gabc_neumes.proofs.glyphs_of_notes.FirstGlyphByStates.{kind_of_one, one_ends}
use Rattle.gabc_neumes.proofs.glyphs_of_notes.KindByStates.{KindSoFar, far_first, far_more, far_stops, far_end}

-- before a state in which no glyph ends stands one in which one ends
before_open : (s z : GlyphState) (c : NoteClass) → next_state s c ≡ Some z → kind_at_end z ≡ None → (j : GlyphKind) × (kind_at_end s ≡ Some j)
before_open Start z (First s) e f = (let g = one_ends s in absurd (cc))
before_open Start z _ e f = absurd (cc)
before_open Half z PointDown e f = grind arith
before_open Half z _ e f = absurd (cc)
before_open (One s) z c e f = (kind_of_one s, one_ends s)
before_open _ z c e f = (_, refl)

-- the notes are read to some state
abbrev pub IsOpen : List Note → Type 0
IsOpen notes = (s : GlyphState) × (b : Option ℕ) × KindSoFar notes s b

-- no glyph begins with the notes
abbrev pub IsShut : List Note → Type 0
IsShut notes = (more : List Note) (k : GlyphKind) → ¬ HasKind k (notes ++ more)

after : (done rest : List Note) (s : GlyphState) (b : Option ℕ) → KindSoFar done s b → IsOpen (done ++ rest) ⊎ IsShut (done ++ rest)
after done [] s b h = inl (s, b, subst (λ (u : List Note). KindSoFar u s b) (sym (append-nil done)) h)
after done (n ∷ rest) s b h = go (next_state s (class_at b n)) refl (λ z g. after (done ++ n ∷ []) rest z (Some n.height) g)
  where
    whole : (more : List Note) → (done ++ n ∷ rest) ++ more ≡ (done ++ n ∷ []) ++ (rest ++ more)
    whole more = append_assoc done (n ∷ rest) more ∙ sym (append_assoc done (n ∷ []) (rest ++ more))

    go : (o : Option GlyphState) → next_state s (class_at b n) ≡ o
        → ((z : GlyphState) → KindSoFar (done ++ n ∷ []) z (Some n.height) → IsOpen ((done ++ n ∷ []) ++ rest) ⊎ IsShut ((done ++ n ∷ []) ++ rest))
        → IsOpen (done ++ n ∷ rest) ⊎ IsShut (done ++ n ∷ rest)
    go None e later = inr (λ more k r. far_stops done (rest ++ more) s b n h e k (subst (HasKind k) (whole more) r))
    go (Some z) e later = subst (λ (u : List Note). IsOpen u ⊎ IsShut u) (append_assoc done (n ∷ []) rest) (later z (far_more done s z b n h e))

pub one_note_more : (k : GlyphKind) (notes more : List Note) (n : Note) → HasKind k (notes ++ n ∷ more) → HasSome HasKind (notes ++ n ∷ []) ⊎ HasSome HasKind notes
one_note_more k notes more n h = elim (after [] notes Start None far_first) [
  | inr shut ↦ absurd (shut (n ∷ more) k h)
  | inl x ↦ go x.0 x.1 x.2 (next_state x.0 (class_at x.1 n)) refl
]
  where
    at : (s z : GlyphState) (b : Option ℕ) → KindSoFar notes s b → next_state s (class_at b n) ≡ Some z → (o : Option GlyphKind) → kind_at_end z ≡ o
        → HasSome HasKind (notes ++ n ∷ []) ⊎ HasSome HasKind notes
    at s z b x e (Some j) f = inl (j, far_end (notes ++ n ∷ []) z (Some n.height) (Some j) (far_more notes s z b n x e) (sym f))
    at s z b x e None f = (let j = before_open s z (class_at b n) e f in inr (j.0, far_end notes s b (Some j.0) x (sym j.1)))

    go : (s : GlyphState) (b : Option ℕ) → KindSoFar notes s b → (o : Option GlyphState) → next_state s (class_at b n) ≡ o → HasSome HasKind (notes ++ n ∷ []) ⊎ HasSome HasKind notes
    go s b x None e = absurd (far_stops notes more s b n x e k (subst (HasKind k) (sym (append_assoc notes (n ∷ []) more)) h))
    go s b x (Some z) e = at s z b x e (kind_at_end z) refl
