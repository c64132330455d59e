-- The lines of a snippet's items, put one item at a time.
use Rattle.std.proofs.Common.{◌≡◌, ℕ, zero, suc, ◌+◌, ◌-◌, ◌≤◌, ◌<◌, ◌==◌, ◌&&◌, List, [], ◌∷◌, ◌++◌, Bool, true, false, not, Option, Some, None, refl, sym, ap, ◌∙◌, subst, length, drop, reverse, map, arith, append_assoc, append-nil, length-append, ne_eqb, codes, if◌then◌else◌}
use Rattle.std.specs.List.{take_while}
use Rattle.std.proofs.lemmas.List.{reverse-append, reverse-reverse, map-append}
use Rattle.gabc_places.proofs.NumbersByTests.{same_eqb}
use Rattle.gabc_notes.specs.Items.{bytes_of}
use Rattle.gabc_notes.specs.declared.item.Item.{Item}
use Rattle.gabc_notes.specs.declared.note.Note.{Note}
use Rattle.gabc_neumes.specs.Cut.{longest_glyph, glyphs_within, glyphs_of}
use Rattle.gabc_neumes.specs.Elements.{is_in_element, is_in_segment}
use Rattle.gabc_neumes.specs.Glyphs.{HasKind, AreGlyphsOf, read_as}
use Rattle.gabc_neumes.specs.InForce.{InForce, ScoreStep, step_of, passed}
use Rattle.gabc_neumes.specs.declared.glyph.Glyph.{Glyph}
use Rattle.gabc_neumes.specs.declared.glyph.GlyphKind.{GlyphKind}
use Rattle.gabc_patterns.specs.LongestItems.{IsReadingBy}
use Rattle.gabc_write.specs.DumpOfNotes.{is_after_element, element_line, line_of_glyph, line_of_glyph_at, notes_before, notes_after, is_note, glyph_line, line_of_item, in_force_at, lines_after}
use Rattle.gabc_write.specs.machine.NoteLines.{glyph_at, line_of_next, left_after, lines_at, place_after_input}
use Rattle.gabc_write.specs.declared.dump_notes.ItemPlace.{ItemPlace}
use Rattle.gabc_write.proofs.dump_is_short.LinesOfItems.{Kinds, kinds, outside, inside, a_note, after_by, before_none, before_some, in_none, in_some}
use Rattle.gabc_write.proofs.dump_is_short.LineOfGlyph.{found}

-- ---- glyphs in their order

-- each begins at that index or later, and after the one before it
abbrev pub Ascends : ℕ → List Glyph → Type 0
Ascends low [] = Unit {0}
Ascends low (g ∷ gs) = (low ≤ g.first) × Ascends (g.first + 1) gs

ascends_below : (low high : ℕ) (gs : List Glyph) → low ≤ high → Ascends high gs → Ascends low gs
ascends_below low high [] l h = tt
ascends_below low high (g ∷ gs) l h = (let a = h.0 in omega arith, h.1)

-- the longest glyph has a note, and no more than there are
pub longest_fits : (n : ℕ) (ns : List Note) (g : GlyphKind × ℕ) → longest_glyph n ns ≡ Some g → (0 < g.1) × (g.1 ≤ n)
longest_fits n ns g e = let f = found n ns g.0 g.1 e in (omega arith, omega arith)

within_ascends : (n from : ℕ) (ns : List Note) → Ascends from (glyphs_within n from ns)
within_ascends zero from ns = tt
within_ascends (suc n) from ns = go (longest_glyph (length ns) ns) (λ g e. (longest_fits (length ns) ns g e).0) (λ k. within_ascends n (from + k) (drop k ns))
  where
    go : (o : Option (GlyphKind × ℕ)) → ((g : GlyphKind × ℕ) → o ≡ Some g → 0 < g.1) → ((k : ℕ) → Ascends (from + k) (glyphs_within n (from + k) (drop k ns)))
        → Ascends from (elim o as (λ _. List Glyph) [ None ↦ [] | Some g ↦ record { kind = g.0; first = from; count = g.1 } ∷ glyphs_within n (from + g.1) (drop g.1 ns) ])
    go None s F = tt
    go (Some g) s F = let some = s g refl in (omega arith, ascends_below (from + 1) (from + g.1) (glyphs_within n (from + g.1) (drop g.1 ns)) (omega arith) (F g.1))

-- before the first there is none
none_at : (low index : ℕ) (gs : List Glyph) → Ascends low gs → index < low → line_of_glyph_at gs index ≡ []
none_at low index [] h l = refl
none_at low index (g ∷ gs) h l = grind (arith, none_at (g.first + 1) index gs h.1 (omega arith), ne_eqb)

-- a note begins a glyph
pub some_glyph : ((notes : List Note) → AreGlyphsOf notes (glyphs_of notes)) → (n : Note) (ns : List Note) → longest_glyph (length (n ∷ ns)) (n ∷ ns) ≡ None → ⊥
some_glyph law n ns e =
    let none : glyphs_of (n ∷ ns) ≡ [] =
    ap (λ (o : Option (GlyphKind × ℕ)). elim o as (λ _. List Glyph) [ None ↦ [] | Some g ↦ record { kind = g.0; first = 0; count = g.1 } ∷ glyphs_within (length ns) (0 + g.1) (drop g.1 (n ∷ ns)) ]) e in
    let read : IsReadingBy HasKind [] (n ∷ ns) = subst (λ (gs : List Glyph). IsReadingBy HasKind (map (read_as (n ∷ ns)) gs) (n ∷ ns)) none (law (n ∷ ns)).reads in
    absurd (cc)

-- ---- the cut of a segment at one of its notes

-- each begins before that index
abbrev pub Below : ℕ → List Glyph → Type 0
Below high [] = Unit {0}
Below high (g ∷ gs) = (g.first < high) × Below high gs

below_later : (low high : ℕ) (gs : List Glyph) → low ≤ high → Below low gs → Below high gs
below_later low high [] l h = tt
below_later low high (g ∷ gs) l h = (let b = h.0 in omega arith, below_later low high gs l h.1)

below_push : (high : ℕ) (gs : List Glyph) (g : Glyph) → g.first < high → Below high gs → Below high (gs ++ g ∷ [])
below_push high [] g l h = (l, tt)
below_push high (f ∷ gs) g l h = (h.0, below_push high gs g l h.1)

-- so none of them begins there
later_line : (index : ℕ) (gs rest : List Glyph) → Below index gs → line_of_glyph_at (gs ++ rest) index ≡ line_of_glyph_at rest index
later_line index [] rest h = refl
later_line index (g ∷ gs) rest h = grind (arith, later_line index gs rest h.1, ne_eqb)

-- Between notes of a segment: of its glyphs those are written that begin before, and of the last of
-- them n notes are to come.
pub record Cut (done ahead : List Note) (left : ℕ) : Type 0 where
  pub written : List Glyph
  pub most : ℕ
  pub fits : left ≤ length ahead
  pub enough : length ahead ≤ most + left
  pub all : glyphs_of (done ++ ahead) ≡ written ++ glyphs_within most (length done + left) (drop left ahead)
  pub below : Below (length done) written

-- at the beginning of a segment
cut_first : (ahead : List Note) → Cut [] ahead 0
cut_first ahead = record { written = []; most = length ahead; fits = omega arith; enough = omega arith; all = refl; below = tt }

-- The steps at a note: the line of the glyph that begins with it, and the place of the cut after
-- it.
record AtNote (done ahead : List Note) (n : Note) (left : ℕ) : Type 0 where
  line : line_of_glyph_at (glyphs_of (done ++ n ∷ ahead)) (length done) ≡ line_of_next left (longest_glyph (length (n ∷ ahead)) (n ∷ ahead))
  after : Cut (done ++ n ∷ []) ahead (left_after left (longest_glyph (length (n ∷ ahead)) (n ∷ ahead)))

-- a note of a glyph that is written
note_inside : (done ahead : List Note) (n : Note) (left : ℕ) → Cut done (n ∷ ahead) (suc left) → AtNote done ahead n (suc left)
note_inside done ahead n left c =
    let size : length (done ++ n ∷ []) ≡ length done + 1 = length-append done (n ∷ []) in
    let here : length done + suc left ≡ length (done ++ n ∷ []) + left = omega arith in
    let later : List Glyph = glyphs_within c.most (length done + suc left) (drop left ahead) in
    let fits = c.fits in
    let enough = c.enough in
    record {
      line = ap (λ (gs : List Glyph). line_of_glyph_at gs (length done)) c.all
          ∙ (later_line (length done) c.written later c.below ∙ none_at (length done + suc left) (length done) later (within_ascends c.most (length done + suc left) (drop left ahead)) (omega arith));
      after = record {
        written = c.written;
        most = c.most;
        fits = omega arith;
        enough = omega arith;
        all = ap glyphs_of (append_assoc done (n ∷ []) ahead) ∙ (c.all ∙ ap (λ (k : ℕ). c.written ++ glyphs_within c.most k (drop left ahead)) here);
        below = below_later (length done) (length (done ++ n ∷ [])) c.written (omega arith) c.below;
      };
    }

-- a note with which a glyph begins
note_begins : (done ahead : List Note) (n : Note) (g : GlyphKind × ℕ) → longest_glyph (length (n ∷ ahead)) (n ∷ ahead) ≡ Some g → Cut done (n ∷ ahead) 0
    → (line_of_glyph_at (glyphs_of (done ++ n ∷ ahead)) (length done) ≡ line_of_glyph (record { kind = g.0; first = 0; count = g.1 })) × Cut (done ++ n ∷ []) ahead (g.1 - 1)
note_begins done ahead n g e c = by c.most c.enough c.all
  where
    by : (most : ℕ) → length (n ∷ ahead) ≤ most + 0 → glyphs_of (done ++ n ∷ ahead) ≡ c.written ++ glyphs_within most (length done + 0) (drop 0 (n ∷ ahead))
        → (line_of_glyph_at (glyphs_of (done ++ n ∷ ahead)) (length done) ≡ line_of_glyph (record { kind = g.0; first = 0; count = g.1 })) × Cut (done ++ n ∷ []) ahead (g.1 - 1)
    by zero l a = absurd (omega arith)
    by (suc most) l a =
        let fits = longest_fits (length (n ∷ ahead)) (n ∷ ahead) g e in
        let some = fits.0 in
        let few = fits.1 in
        let start : length done + 0 ≡ length done = omega arith in
        let first : Glyph = record { kind = g.0; first = length done + 0; count = g.1 } in
        let later : List Glyph = glyphs_within most (length done + 0 + g.1) (drop g.1 (n ∷ ahead)) in
        let opened : glyphs_within (suc most) (length done + 0) (n ∷ ahead) ≡ first ∷ later =
        ap (λ (o : Option (GlyphKind × ℕ)). elim o as (λ _. List Glyph) [ None ↦ [] | Some h ↦ record { kind = h.0; first = length done + 0; count = h.1 } ∷ glyphs_within most (length done + 0 + h.1) (drop h.1 (n ∷ ahead)) ]) e in
        let whole : glyphs_of (done ++ n ∷ ahead) ≡ c.written ++ first ∷ later = a ∙ ap (λ (gs : List Glyph). c.written ++ gs) opened in
        let size : length (done ++ n ∷ []) ≡ length done + 1 = length-append done (n ∷ []) in
        let place : length done + 0 + g.1 ≡ length (done ++ n ∷ []) + (g.1 - 1) = omega arith in
        let one : g.1 ≡ suc (g.1 - 1) = omega arith in
        let rest : drop g.1 (n ∷ ahead) ≡ drop (g.1 - 1) ahead = ap (λ (k : ℕ). drop k (n ∷ ahead)) one in
        let next : List Glyph = glyphs_within most (length (done ++ n ∷ []) + (g.1 - 1)) (drop (g.1 - 1) ahead) in
        let moved : later ≡ next = ap (λ (k : ℕ). glyphs_within most k (drop g.1 (n ∷ ahead))) place ∙ ap (λ (ns : List Note). glyphs_within most (length (done ++ n ∷ []) + (g.1 - 1)) ns) rest in
        let there : (length done + 0 == length done) ≡ true = ap (λ (k : ℕ). k == length done) start ∙ same_eqb (length done) in (
          ap (λ (gs : List Glyph). line_of_glyph_at gs (length done)) whole
              ∙ (later_line (length done) c.written (first ∷ later) c.below
              ∙ (ap (λ (x : Bool). (if x then line_of_glyph first else []) ++ line_of_glyph_at later (length done)) there
              ∙ (ap (λ (t : List ℕ). line_of_glyph first ++ t)
              (none_at (length done + 0 + g.1) (length done) later (within_ascends most (length done + 0 + g.1) (drop g.1 (n ∷ ahead))) (omega arith))
              ∙ append-nil (line_of_glyph first)))),
          record {
            written = c.written ++ first ∷ [];
            most = most;
            fits = omega arith;
            enough = omega arith;
            all = ap glyphs_of (append_assoc done (n ∷ []) ahead)
                ∙ (whole ∙ (ap (λ (gs : List Glyph). c.written ++ first ∷ gs) moved ∙ sym (append_assoc c.written (first ∷ []) next)));
            below = below_push (length (done ++ n ∷ [])) c.written first (omega arith) (below_later (length done) (length (done ++ n ∷ [])) c.written (omega arith) c.below);
          },
        )

-- a note
at_note : ((notes : List Note) → AreGlyphsOf notes (glyphs_of notes)) → (done ahead : List Note) (n : Note) (left : ℕ) → Cut done (n ∷ ahead) left → AtNote done ahead n left
at_note law done ahead n (suc left) c = note_inside done ahead n left c
at_note law done ahead n zero c = go (longest_glyph (length (n ∷ ahead)) (n ∷ ahead)) refl
  where
    go : (o : Option (GlyphKind × ℕ)) → longest_glyph (length (n ∷ ahead)) (n ∷ ahead) ≡ o → AtNote done ahead n zero
    go None e = absurd (some_glyph law n ahead e)
    go (Some g) e =
        let b = note_begins done ahead n g e c in
        record {
          line = b.0 ∙ ap (line_of_next zero) (sym e);
          after = subst (λ (o : Option (GlyphKind × ℕ)). Cut (done ++ n ∷ []) ahead (left_after zero o)) (sym e) b.1;
        }

-- ---- the state of the writer

-- Between what is before and the items.
pub record Stands (kept : List ℕ) (before items : List Item) (place : ItemPlace) : Type 0 where
  pub in_element : place.in_element ≡ is_after_element kept before
  pub cut : Cut (notes_before kept before) (notes_after kept items) place.left

-- before the first item
pub stands_first : (kept : List ℕ) (items : List Item) → Stands kept [] items (record { in_element = false; left = 0 })
stands_first kept items = record { in_element = refl; cut = cut_first (notes_after kept items) }

-- What an item does to the cut of its segment, and the line of the glyph that begins with it.
record AtItem (kept : List ℕ) (before items : List Item) (i : Item) (left : ℕ) : Type 0 where
  line : (if is_note i.kind then line_of_next left (glyph_at kept (i ∷ items)) else []) ≡ glyph_line kept before i items
  after : Cut (notes_before kept (i ∷ before)) (notes_after kept items) (if is_note i.kind then left_after left (glyph_at kept (i ∷ items)) else left)

at_item : ((notes : List Note) → AreGlyphsOf notes (glyphs_of notes)) → (kept : List ℕ) (before items : List Item) (i : Item) (left : ℕ)
    → Cut (notes_before kept before) (notes_after kept (i ∷ items)) left → Kinds i.kind i.span (bytes_of kept i) → AtItem kept before items i left
at_item law kept before items i left c (outside e f g) =
    let none : notes_after kept (i ∷ items) ≡ [] = after_by kept i items false e in
    let size = ap (length {A = Note}) none in
    let fits = c.fits in
    let zero_left : left ≡ 0 = omega arith in
    let fresh = cut_first (notes_after kept items) in
    record {
      line = rw f refl;
      after = rw f (subst (Cut (notes_before kept (i ∷ before)) (notes_after kept items)) (sym zero_left)
          (subst (λ (ns : List Note). Cut ns (notes_after kept items) 0) (sym (before_none kept i before e)) fresh));
    }
at_item law kept before items i left c (inside e f g) =
    let same_after : notes_after kept (i ∷ items) ≡ notes_after kept items = after_by kept i items true e ∙ in_none kept i (take_while is_in_segment items) g in
    let same_before : notes_before kept (i ∷ before) ≡ notes_before kept before =
    before_some kept i before e ∙ (ap (λ (x : List Note). notes_before kept before ++ x) (in_none kept i [] g) ∙ append-nil (notes_before kept before)) in
    record {
      line = rw f refl;
      after = rw f (subst (λ (ns : List Note). Cut ns (notes_after kept items) left) (sym same_before) (subst (λ (ns : List Note). Cut (notes_before kept before) ns left) same_after c));
    }
at_item law kept before items i left c (a_note n e f g s l) =
    let nb : List Note = notes_before kept before in
    let na : List Note = notes_after kept items in
    let more_after : notes_after kept (i ∷ items) ≡ n ∷ na = after_by kept i items true e ∙ in_some kept i (take_while is_in_segment items) n g in
    let more_before : notes_before kept (i ∷ before) ≡ nb ++ n ∷ [] = before_some kept i before e ∙ ap (λ (x : List Note). nb ++ x) (in_some kept i [] n g) in
    let at = at_note law nb na n left (subst (λ (ns : List Note). Cut nb ns left) more_after c) in
    let found : longest_glyph (length (n ∷ na)) (n ∷ na) ≡ glyph_at kept (i ∷ items) = ap (λ (ns : List Note). longest_glyph (length ns) ns) (sym more_after) in
    record {
      line = rw f (sym (ap (λ (ns : List Note). line_of_glyph_at (glyphs_of (nb ++ ns)) (length nb)) more_after ∙ (at.line ∙ ap (line_of_next left) found)));
      after = rw f (subst (λ (ns : List Note). Cut ns na (left_after left (glyph_at kept (i ∷ items)))) (sym more_before)
          (subst (λ (o : Option (GlyphKind × ℕ)). Cut (nb ++ n ∷ []) na (left_after left o)) found at.after));
    }

-- What an item's step does: its lines are those of the definition, and the writer stands after it.
pub record Step (outset : InForce) (kept : List ℕ) (before items : List Item) (i : Item) (place : ItemPlace) : Type 0 where
  pub lines : lines_at (in_force_at outset kept before) kept place i items ++ lines_after outset kept (i ∷ before) items ≡ lines_after outset kept before (i ∷ items)
  pub stands : Stands kept (i ∷ before) items (place_after_input kept place i items)

element_same : (kept : List ℕ) (before : List Item) (i : Item) (b : Bool) (t : List ℕ) → b ≡ is_after_element kept before
    → (if is_in_element kept i && not b then codes "element\n" else []) ++ t ≡ element_line kept before i ++ t
element_same kept before i b t e = ap (λ (x : Bool). (if is_in_element kept i && not x then codes "element\n" else []) ++ t) e

-- an item's step
pub step : ((notes : List Note) → AreGlyphsOf notes (glyphs_of notes)) → (outset : InForce) (kept : List ℕ) (before items : List Item) (i : Item) (place : ItemPlace)
    → Stands kept before (i ∷ items) place → Step outset kept before items i place
step law outset kept before items i place s =
    let at = at_item law kept before items i place.left s.cut (kinds i.kind i.span (bytes_of kept i)) in
    let line : List ℕ = line_of_item (in_force_at outset kept before) kept i in
    let later : List ℕ = lines_after outset kept (i ∷ before) items in
    let first : List ℕ = if is_in_element kept i && not place.in_element then codes "element\n" else [] in
    let glyph : List ℕ = if is_note i.kind then line_of_next place.left (glyph_at kept (i ∷ items)) else [] in
    record {
      lines = append_assoc first (glyph ++ line) later
          ∙ (ap (λ (t : List ℕ). first ++ t) (append_assoc glyph line later ∙ ap (λ (t : List ℕ). t ++ (line ++ later)) at.line)
          ∙ element_same kept before i place.in_element (glyph_line kept before i items ++ (line ++ later)) s.in_element);
      stands = record { in_element = refl; cut = at.after };
    }

-- ---- the items of a list, passed in order

steps_reversed : (kept : List ℕ) (items : List Item) → map (step_of kept) (reverse items) ≡ reverse (map (step_of kept) items)
steps_reversed kept [] = refl
steps_reversed kept (i ∷ items) =
    ap (map (step_of kept)) (reverse-append (i ∷ []) items)
    ∙ (map-append (step_of kept) (reverse items) (i ∷ [])
    ∙ (ap (λ (t : List ScoreStep). t ++ step_of kept i ∷ []) (steps_reversed kept items)
    ∙ sym (reverse-append (step_of kept i ∷ []) (map (step_of kept) items))))

-- if none is to come, all are passed
pub all_passed : (outset : InForce) (kept : List ℕ) (before items : List Item) → items ≡ reverse before ++ [] → in_force_at outset kept before ≡ passed outset (map (step_of kept) items)
all_passed outset kept before items e = grind (arith, append-nil, steps_reversed, reverse-reverse)

-- an item more is passed
pub one_more : (before items : List Item) (i : Item) → reverse before ++ i ∷ items ≡ reverse (i ∷ before) ++ items
one_more before items i = sym (ap (λ (l : List Item). l ++ items) (reverse-append (i ∷ []) before) ∙ append_assoc (reverse before) (i ∷ []) items)
