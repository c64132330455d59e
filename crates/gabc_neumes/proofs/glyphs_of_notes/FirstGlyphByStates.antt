-- The longest glyph that begins some notes, found a note at a time. Each note begins one.
use Rattle.std.proofs.Common.{◌≡◌, ℕ, zero, suc, List, [], ◌∷◌, refl, ap, subst, Option, Some, None, take, length, get_or, ◌<◌, ◌≤◌, ◌+◌, arith, IfSome, IfNone}
use native.Mathlib.Decide.{dec_lt}
use Rattle.gabc_notes.specs.declared.note.Note.{Note}
use Rattle.gabc_notes.specs.declared.note.Shape.{Shape}
use Rattle.gabc_notes.specs.declared.note.Shape.TheVariants as shape
use Rattle.gabc_patterns.proofs.ItemSoFar.{ItemSoFar, IsBest, item_start, item_ends, item_on, item_stops}
use Rattle.gabc_neumes.specs.Letters.{letters, letter_of}
use Rattle.gabc_neumes.specs.Table.{neumes}
use Rattle.gabc_neumes.specs.machine.Glyphs.{IsFirstGlyph}
use Rattle.gabc_neumes.specs.machine.GlyphMachine.{class_of_letter, class_at, next_state, kind_at_end}
use Rattle.gabc_neumes.specs.declared.glyph.Base.TheVariants as base
use Rattle.gabc_neumes.specs.declared.glyph.Tail.TheVariants as tail
use Rattle.gabc_neumes.specs.declared.glyph.GlyphKind.{GlyphKind}
use Rattle.gabc_neumes.specs.declared.state.NoteClass.{NoteClass}
use Rattle.gabc_neumes.specs.declared.state.GlyphState.{GlyphState}
use Rattle.gabc_neumes.specs.declared.state.GlyphState.TheVariants.{Start, One}
use Rattle.gabc_neumes.proofs.glyphs_of_notes.LettersOfNotes.{are_letters, class_of_letter_of, last_height, last_next, letter_at}
use Rattle.gabc_neumes.proofs.glyphs_of_notes.MachineReadsNeumes.{machine, items_read}

-- ---- each note begins a glyph

-- some glyph is the longest that begins these letters
abbrev pub HasBest : List ℕ → Type 0
HasBest text = (i : GlyphKind × ℕ) × IsBest neumes text (length text) (Some i)

done : (text : List ℕ) (n : ℕ) (s : GlyphState) (i : GlyphKind × ℕ) → length text ≤ n → ItemSoFar neumes machine text n s (Some i) → HasBest text
done text n s i l h = let fits = h.fits in let same : n ≡ length text = omega arith in (i, subst (λ m. IsBest neumes text m (Some i)) same h.is_best)

same_there : (text : List ℕ) (n a b : ℕ) → n < length text → get_or text n a ≡ get_or text n b
same_there [] n a b l = absurd (omega arith)
same_there (c ∷ text) zero a b l = refl
same_there (c ∷ text) (suc n) a b l = same_there text n a b (omega arith)

walk : (text : List ℕ) (fuel n : ℕ) (s : GlyphState) (i : GlyphKind × ℕ) → length text ≤ n + fuel → ItemSoFar neumes machine text n s (Some i) → HasBest text
walk text zero n s i l h = done text n s i (omega arith) h
walk text (suc f) n s i l h = elim (dec_lt n (length text)) [
  | no x ↦ done text n s i (omega arith) h
  | yes y ↦ go y (next_state s (class_of_letter (get_or text n 0))) refl (λ z j g. walk text f (n + 1) z j (omega arith) g)
]
  where
    go : n < length text → (o : Option GlyphState) → next_state s (class_of_letter (get_or text n 0)) ≡ o
        → ((z : GlyphState) (j : GlyphKind × ℕ) → ItemSoFar neumes machine text (n + 1) z (Some j) → HasBest text) → HasBest text
    go y None e later = (i, item_stops neumes machine items_read text n (get_or text n 0) s (Some i) y (same_there text n 0 _ y) e h)
    go y (Some z) e later = on (kind_at_end z) refl
      where
        on : (p : Option GlyphKind) → kind_at_end z ≡ p → HasBest text
        on None f = later z i (item_on neumes machine items_read text n (get_or text n 0) s z (Some i) y (same_there text n 0 _ y) e f h)
        on (Some k) f = later z (k, n + 1) (item_ends neumes machine items_read text n (get_or text n 0) s z k (Some i) y (same_there text n 0 _ y) e f h)

-- the kind of one note
abbrev pub kind_of_one : Shape → GlyphKind
kind_of_one shape.Inclinatum = record { base = base.Inclinata; tail = tail.Plain }
kind_of_one s = record { base = base.One s; tail = tail.Plain }

pub one_ends : (s : Shape) → kind_at_end (One s) ≡ Some (kind_of_one s)
one_ends s = grind arith

pub first_best : (n : Note) (ns : List Note) → HasBest (letters (n ∷ ns))
first_best n ns =
    let text = letters (n ∷ ns) in
    let g : next_state Start (class_of_letter (letter_of None n)) ≡ Some (One n.shape) = ap (λ (k : NoteClass). next_state Start k) (class_of_letter_of None n) in
    walk text (length text) 1 (One n.shape) (kind_of_one n.shape, 1) (omega arith)
    (item_ends neumes machine items_read text 0 (letter_of None n) Start (One n.shape) (kind_of_one n.shape) None (omega arith) refl g (one_ends n.shape) (item_start neumes machine items_read text))

-- ---- the longest glyph that begins the notes

-- Of the notes n are read: the state is s, that is the height of the last, and best is the longest glyph so far.
pub record ReadSoFar (ns : List Note) (i : ℕ) (s : GlyphState) (before : Option ℕ) (best : Option (GlyphKind × ℕ)) : Type 0 where
  pub far : ItemSoFar neumes machine (letters ns) i s best
  pub last : before ≡ last_height (take i ns)

pub reading_start : (ns : List Note) → ReadSoFar ns 0 Start None None
reading_start ns = record { far = item_start neumes machine items_read (letters ns); last = refl }

-- the letter of the note at a place
abbrev pub here : List Note → ℕ → Note → ℕ
here ns i d = letter_of (last_height (take i ns)) (get_or ns i d)

goes : (ns : List Note) (i : ℕ) (s : GlyphState) (before : Option ℕ) (d : Note) (o : Option GlyphState) → before ≡ last_height (take i ns)
    → next_state s (class_at before (get_or ns i d)) ≡ o → next_state s (class_of_letter (here ns i d)) ≡ o
goes ns i s before d o e g = grind (arith, class_of_letter_of)

inside : (ns : List Note) (i : ℕ) → i < length ns → i < length (letters ns)
inside ns i l = let m = are_letters.as_many ns in omega arith

-- a note more, and the glyph may end after it
pub reading_ends : (ns : List Note) (i : ℕ) (s z : GlyphState) (before : Option ℕ) (d : Note) (k : GlyphKind) (best : Option (GlyphKind × ℕ)) → i < length ns
    → ReadSoFar ns i s before best → next_state s (class_at before (get_or ns i d)) ≡ Some z → kind_at_end z ≡ Some k → ReadSoFar ns (i + 1) z (Some (get_or ns i d).height) (Some (k, i + 1))
reading_ends ns i s z before d k best l h g f = record {
  far = item_ends neumes machine items_read (letters ns) i (here ns i d) s z k best (inside ns i l) (letter_at None ns i d _ l) (goes ns i s before d (Some z) h.last g) f h.far;
  last = last_next ns i d l;
}

-- a note more, and the glyph may not end after it
pub reading_on : (ns : List Note) (i : ℕ) (s z : GlyphState) (before : Option ℕ) (d : Note) (best : Option (GlyphKind × ℕ)) → i < length ns
    → ReadSoFar ns i s before best → next_state s (class_at before (get_or ns i d)) ≡ Some z → kind_at_end z ≡ None → ReadSoFar ns (i + 1) z (Some (get_or ns i d).height) best
reading_on ns i s z before d best l h g f = record {
  far = item_on neumes machine items_read (letters ns) i (here ns i d) s z best (inside ns i l) (letter_at None ns i d _ l) (goes ns i s before d (Some z) h.last g) f h.far;
  last = last_next ns i d l;
}

-- What the reading has found.
pub record BestFound (ns : List Note) (best : Option (GlyphKind × ℕ)) : Type 0 where
  pub found : IfSome best (λ g. IsFirstGlyph ns g.0 g.1)
  pub none : IfNone best (ns ≡ [])

best_found : (ns : List Note) (best : Option (GlyphKind × ℕ)) → IsBest neumes (letters ns) (length (letters ns)) best → BestFound ns best
best_found ns (Some g) h = grind (arith, are_letters)
best_found [] None h = record { found = tt; none = refl }
best_found (n ∷ ns) None h = let b = first_best n ns in absurd (h b.0.1 b.1.0 b.1.1 (b.0.0, b.1.2))

-- a note with which no glyph goes on
pub reading_stops : (ns : List Note) (i : ℕ) (s : GlyphState) (before : Option ℕ) (d : Note) (best : Option (GlyphKind × ℕ)) → i < length ns
    → ReadSoFar ns i s before best → next_state s (class_at before (get_or ns i d)) ≡ None → BestFound ns best
reading_stops ns i s before d best l h g =
    best_found ns best (item_stops neumes machine items_read (letters ns) i (here ns i d) s best (inside ns i l) (letter_at None ns i d _ l) (goes ns i s before d None h.last g) h.far)

-- after the last note
pub reading_end : (ns : List Note) (i : ℕ) (s : GlyphState) (before : Option ℕ) (best : Option (GlyphKind × ℕ)) → length ns ≤ i → ReadSoFar ns i s before best → BestFound ns best
reading_end ns i s before best l h =
    let far = h.far in
    let fits = far.fits in
    let m = are_letters.as_many ns in
    let same : i ≡ length (letters ns) = omega arith in
    best_found ns best (subst (λ n. IsBest neumes (letters ns) n best) same far.is_best)
