-- The lines of items are short: of items with b bytes in all, at most 61 * b.
use Rattle.std.proofs.Common.{◌≡◌, ℕ, zero, suc, ◌+◌, ◌*◌, ◌-◌, ◌≤◌, ◌<◌, ◌^◌, List, [], ◌∷◌, ◌++◌, Bool, true, false, cond, Some, None, length, length-append, length-take, take, drop, reverse, arith, refl, sym, ap, ◌∙◌, append_assoc, append-nil, if◌then◌else◌}
use Rattle.std.specs.List.{prefix_len, take_while}
use Rattle.std.proofs.lemmas.List.{reverse-append}
use Rattle.std.proofs.lemmas.List.Elements.{filter_map-append}
use Rattle.std.proofs.lemmas.List.Sums.{take_while-cons}
use Rattle.gabc_places.specs.declared.place.Span.{Span}
use Rattle.gabc_notes.specs.Items.{bytes_of}
use Rattle.gabc_notes.specs.Notes.{note_by, note_in}
use Rattle.gabc_notes.specs.declared.item.Item.{Item}
use Rattle.gabc_notes.specs.declared.item.ItemKind.{ItemKind}
use Rattle.gabc_notes.specs.declared.item.ItemKind.TheVariants as kind
use Rattle.gabc_notes.specs.declared.note.Note.{Note}
use Rattle.gabc_neumes.specs.Cut.{glyphs_of}
use Rattle.gabc_neumes.specs.Elements.{joins_segment, is_in_segment, notes_in}
use Rattle.gabc_neumes.specs.InForce.{InForce}
use Rattle.gabc_neumes.specs.Words.{shape_word}
use Rattle.gabc_write.specs.DumpOfNotes.{line_of_item, element_line, line_of_glyph_at, notes_before, notes_after, line_of_first_glyph, is_note, glyph_line, in_force_at, lines_after}
use Rattle.gabc_write.proofs.dump_is_short.LineOfItem.{shape_short, line_short}
use Rattle.gabc_write.proofs.dump_is_short.LineOfGlyph.{size_of, sizes_of, AreSized}
use Rattle.gabc_write.proofs.dump_is_short.LinesOfGlyphs.{glyphs_short, lines_at, at_most_once}

-- how many bytes the items have
abbrev pub item_size : Item → ℕ
item_size i = i.span.to - i.span.from

abbrev pub items_size : List Item → ℕ
items_size [] = 0
items_size (i ∷ is) = item_size i + items_size is

-- each has a byte
abbrev pub HaveBytes : List Item → Type 0
HaveBytes [] = Unit {0}
HaveBytes (i ∷ is) = (1 ≤ item_size i) × HaveBytes is

-- ---- items and notes

-- What an item is: part of no segment, of a segment and no note, or a note.
pub data Kinds (k : ItemKind) (s : Span) (t : List ℕ) : Type 0 where
  outside : joins_segment k ≡ false → is_note k ≡ false → note_by k s t ≡ None → Kinds k s t
  inside : joins_segment k ≡ true → is_note k ≡ false → note_by k s t ≡ None → Kinds k s t
  a_note : (n : Note) → joins_segment k ≡ true → is_note k ≡ true → note_by k s t ≡ Some n → n.span ≡ s → (length t ≤ s.to - s.from → 1 ≤ s.to - s.from → length (shape_word n.shape) ≤ 10 * (s.to - s.from)) → Kinds k s t

pub kinds : (k : ItemKind) (s : Span) (t : List ℕ) → Kinds k s t
kinds kind.Note s t = a_note _ refl refl refl refl (λ l m. shape_short t (s.to - s.from) l m)
kinds kind.Attribute s t = inside refl refl refl
kinds kind.Fusion s t = inside refl refl refl
kinds _ s t = outside refl refl refl

-- an item more after a place, or before it
module _ (kept : List ℕ) where
  pub in_none : (i : Item) (is : List Item) → note_in kept i ≡ None → notes_in kept (i ∷ is) ≡ notes_in kept is
  in_none i is e = rw (e) refl

  pub in_some : (i : Item) (is : List Item) (n : Note) → note_in kept i ≡ Some n → notes_in kept (i ∷ is) ≡ n ∷ notes_in kept is
  in_some i is n e = rw (e) refl

  pub after_by : (i : Item) (is : List Item) (b : Bool) → is_in_segment i ≡ b → notes_after kept (i ∷ is) ≡ notes_in kept (cond b (i ∷ take_while is_in_segment is) [])
  after_by i is b e = ap (λ (x : List Item). notes_in kept x) (take_while-cons is_in_segment i is ∙ ap (λ b. cond b (i ∷ take_while is_in_segment is) []) e)

  pub before_none : (i : Item) (before : List Item) → is_in_segment i ≡ false → notes_before kept (i ∷ before) ≡ []
  before_none i before e = grind (arith, take_while-cons)

  pub before_some : (i : Item) (before : List Item) → is_in_segment i ≡ true → notes_before kept (i ∷ before) ≡ notes_before kept before ++ notes_in kept (i ∷ [])
  before_some i before e =
      ap (λ (x : List Item). notes_in kept (reverse x)) (take_while-cons is_in_segment i before ∙ ap (λ b. cond b (i ∷ take_while is_in_segment before) []) e)
      ∙ (ap (λ (x : List Item). notes_in kept x) (reverse-append (i ∷ []) (take_while is_in_segment before))
      ∙ filter_map-append (note_in kept) (reverse (take_while is_in_segment before)) (i ∷ []))

module _ (outset : InForce) (kept : List ℕ) where
  -- ---- the notes of sized items are sized

  sized_note : (i : Item) → 1 ≤ item_size i → (n : Note) → note_in kept i ≡ Some n → n.span ≡ i.span
      → (length (bytes_of kept i) ≤ item_size i → 1 ≤ item_size i → length (shape_word n.shape) ≤ 10 * item_size i) → (1 ≤ size_of n) × (length (shape_word n.shape) ≤ 10 * size_of n)
  sized_note i h n e s short = grind (arith, length-take)

  notes_sized : (is : List Item) → HaveBytes is → AreSized (notes_in kept is) × (sizes_of (notes_in kept is) ≤ items_size is)
  notes_sized [] h = (tt, omega arith)
  notes_sized (i ∷ is) (a, h) = grind (arith, notes_sized is h, kinds, in_none, in_some, sized_note)

  -- ---- the lines from a place on

  element_short : (before : List Item) (i : Item) → length (element_line kept before i) ≤ 8
  element_short before i = grind arith

  -- the lines of glyphs that are still to come in the segment of that place
  abbrev lines_left : List Item → List Item → ℕ
  lines_left before items = lines_at (glyphs_of (notes_before kept before ++ notes_after kept items)) (length (notes_before kept before)) (length (notes_after kept items))

  -- the bound of the lines from a place on
  abbrev IsBounded : List Item → List Item → Type 0
  IsBounded before items =
      length (lines_after outset kept before items) + 20 * sizes_of (notes_after kept items)
      ≤ 41 * items_size items + (20 * sizes_of (notes_in kept items) + lines_left before items)

  line_of : (before : List Item) (i : Item) (is : List Item)
      → length (lines_after outset kept before (i ∷ is))
      ≡ length (element_line kept before i) + (length (glyph_line kept before i is) + (length (line_of_item (in_force_at outset kept before) kept i) + length (lines_after outset kept (i ∷ before) is)))
  line_of before i is = grind (arith, length-append)

  item_line_short : (f : InForce) (i : Item) → 1 ≤ item_size i → length (line_of_item f kept i) ≤ 33 * item_size i
  item_line_short f i h = line_short f i.kind (bytes_of kept i) (item_size i) (omega (arith, length-take (i.span.to - i.span.from) (drop i.span.from kept))) h

  no_glyph : (before : List Item) (i : Item) (is : List Item) → is_note i.kind ≡ false → length (glyph_line kept before i is) ≡ 0
  no_glyph before i is e = ap (λ b. length (if b then line_of_first_glyph kept before (i ∷ is) else [])) e

  a_glyph : (before : List Item) (i : Item) (is : List Item) → is_note i.kind ≡ true → glyph_line kept before i is ≡ line_of_first_glyph kept before (i ∷ is)
  a_glyph before i is e = ap (λ b. if b then line_of_first_glyph kept before (i ∷ is) else []) e

  -- in a segment that begins here, the glyphs' lines are short
  all_left : (before items : List Item) → notes_before kept before ≡ [] → AreSized (notes_after kept items) → sizes_of (notes_after kept items) < 2 ^ 64
      → lines_left before items ≤ 20 * sizes_of (notes_after kept items)
  all_left before items e h l = grind (arith, at_most_once, glyphs_short)

  taken : (m : ℕ) (is : List Item) → HaveBytes is → HaveBytes (take m is) × (items_size (take m is) ≤ items_size is)
  taken zero is h = (tt, omega arith)
  taken (suc m) [] h = (tt, omega arith)
  taken (suc m) (i ∷ is) (a, h) = let t = taken m is h in let l = t.1 in ((a, t.0), omega arith)

  -- the notes of the segment after a place are sized
  after_sized : (is : List Item) → HaveBytes is → AreSized (notes_after kept is) × (sizes_of (notes_after kept is) ≤ items_size is)
  after_sized is h =
      let t = taken (prefix_len is_in_segment is) is h in
      let s = notes_sized (take_while is_in_segment is) t.0 in
      let a = t.1 in
      let b = s.1 in
      (s.0, omega arith)

  outside_step : (before : List Item) (i : Item) (is : List Item) → HaveBytes (i ∷ is) → items_size (i ∷ is) < 2 ^ 64
      → is_in_segment i ≡ false → is_note i.kind ≡ false → note_in kept i ≡ None → IsBounded (i ∷ before) is → IsBounded before (i ∷ is)
  outside_step before i is (a, h) l j m e later =
      let s = after_sized is h in
      let few = s.1 in
      let left = all_left (i ∷ before) is (before_none kept i before j) s.0 (omega arith) in
      let now : sizes_of (notes_after kept (i ∷ is)) ≡ 0 = ap sizes_of (after_by kept i is false j) in
      let same : sizes_of (notes_in kept (i ∷ is)) ≡ sizes_of (notes_in kept is) = ap sizes_of (in_none kept i is e) in
      omega (arith, line_of before i is, element_short before i, no_glyph before i is m, item_line_short (in_force_at outset kept before) i a, left, now, same, later)

  -- the glyphs that are left, by the notes before a place and those after it
  abbrev left_by : List Note → List Note → ℕ
  left_by x y = lines_at (glyphs_of (x ++ y)) (length x) (length y)

  inside_step : (before : List Item) (i : Item) (is : List Item) → HaveBytes (i ∷ is)
      → is_in_segment i ≡ true → is_note i.kind ≡ false → note_in kept i ≡ None → IsBounded (i ∷ before) is → IsBounded before (i ∷ is)
  inside_step before i is (a, h) j m e later =
      let after : notes_after kept (i ∷ is) ≡ notes_after kept is = after_by kept i is true j ∙ in_none kept i (take_while is_in_segment is) e in
      let front : notes_before kept (i ∷ before) ≡ notes_before kept before =
      before_some kept i before j ∙ (ap (λ (x : List Note). notes_before kept before ++ x) (in_none kept i [] e) ∙ append-nil (notes_before kept before)) in
      let now : sizes_of (notes_after kept (i ∷ is)) ≡ sizes_of (notes_after kept is) = ap sizes_of after in
      let same : sizes_of (notes_in kept (i ∷ is)) ≡ sizes_of (notes_in kept is) = ap sizes_of (in_none kept i is e) in
      let left : lines_left before (i ∷ is) ≡ lines_left (i ∷ before) is =
      ap (λ (y : List Note). left_by (notes_before kept before) y) after ∙ ap (λ (x : List Note). left_by x (notes_after kept is)) (sym front) in
      omega (arith, line_of before i is, element_short before i, no_glyph before i is m, item_line_short (in_force_at outset kept before) i a, left, now, same, later)

  -- the first of the notes after a place has its glyph's line there
  first_left : (x : List Note) (n : Note) (y : List Note) → left_by x (n ∷ y) ≡ length (line_of_glyph_at (glyphs_of (x ++ n ∷ y)) (length x)) + left_by (x ++ n ∷ []) y
  first_left x n y = grind (arith, append_assoc, length-append)

  note_step : (before : List Item) (i : Item) (is : List Item) (n : Note) → HaveBytes (i ∷ is)
      → is_in_segment i ≡ true → is_note i.kind ≡ true → note_in kept i ≡ Some n → n.span ≡ i.span → IsBounded (i ∷ before) is → IsBounded before (i ∷ is)
  note_step before i is n (a, h) j m e s later =
      let x = notes_before kept before in
      let y = notes_after kept is in
      let size : size_of n ≡ item_size i = ap (λ (z : Span). z.to - z.from) s in
      let after : notes_after kept (i ∷ is) ≡ n ∷ y = after_by kept i is true j ∙ in_some kept i (take_while is_in_segment is) n e in
      let front : notes_before kept (i ∷ before) ≡ x ++ n ∷ [] = before_some kept i before j ∙ ap (λ (z : List Note). x ++ z) (in_some kept i [] n e) in
      let now : sizes_of (notes_after kept (i ∷ is)) ≡ size_of n + sizes_of y = ap sizes_of after in
      let same : sizes_of (notes_in kept (i ∷ is)) ≡ size_of n + sizes_of (notes_in kept is) = ap sizes_of (in_some kept i is n e) in
      let here : lines_left before (i ∷ is) ≡ left_by x (n ∷ y) = ap (λ (z : List Note). left_by x z) after in
      let next : lines_left (i ∷ before) is ≡ left_by (x ++ n ∷ []) y = ap (λ (z : List Note). left_by z y) front in
      let glyph : length (glyph_line kept before i is) ≡ length (line_of_glyph_at (glyphs_of (x ++ n ∷ y)) (length x)) =
      ap (length {A = ℕ}) (a_glyph before i is m ∙ ap (λ (z : List Note). line_of_glyph_at (glyphs_of (x ++ z)) (length x)) after) in
      omega (arith, line_of before i is, element_short before i, glyph, item_line_short (in_force_at outset kept before) i a, here, next, first_left x n y, now, same, size, later)

  bounded : (before items : List Item) → HaveBytes items → items_size items < 2 ^ 64 → IsBounded before items
  bounded before [] h l = omega arith
  bounded before (i ∷ is) (a, h) l = grind (arith, bounded (i ∷ before) is h (omega arith), kinds, outside_step, inside_step, note_step)

  pub items_short : (items : List Item) → HaveBytes items → items_size items < 2 ^ 64 → length (lines_after outset kept [] items) ≤ 61 * items_size items
  items_short items h l =
      let s = after_sized items h in
      let few = s.1 in
      let notes = (notes_sized items h).1 in
      omega (arith, bounded [] items h l, all_left [] items refl s.0 (omega arith), notes)
