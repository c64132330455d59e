-- A segment has one list of glyphs.
use Rattle.std.proofs.Common.{◌≡◌, ℕ, List, [], ◌∷◌, refl, sym, ap, ◌∙◌, subst, length, get_or, drop, take, map, slice_range, ◌≤◌, ◌+◌, ◌-◌, arith, length-take, length-drop, length-append, ◌++◌, take_at, drop_at, drop-drop}
use Rattle.gabc_notes.specs.declared.note.Note.{Note}
use Rattle.gabc_patterns.specs.Items.{FollowOn}
use Rattle.gabc_patterns.specs.LongestItems.{IsReadingBy}
use Rattle.gabc_patterns.proofs.OneReading.{one_reading}
use Rattle.gabc_neumes.specs.Glyphs.{HasKind, AreGlyphsOf, piece_of, read_as}
use Rattle.gabc_neumes.specs.Letters.{letters}
use Rattle.gabc_neumes.specs.declared.glyph.Glyph.{Glyph}
use Rattle.gabc_neumes.specs.declared.glyph.GlyphKind.{GlyphKind}
use Rattle.gabc_neumes.proofs.glyphs_of_notes.GlyphsOneByOne.{none_empty}
use Rattle.gabc_neumes.proofs.glyphs_of_notes.MachineReadsNeumes.{kinds_are_one}

follow_le : (gs : List Glyph) (from to : ℕ) → FollowOn from (map piece_of gs) to → from ≤ to
follow_le [] from to h = omega arith
follow_le (g ∷ gs) from to h = let l = follow_le gs (g.first + g.count) to h.1 in let e = h.0 in omega arith

size : (ns : List Note) (from count : ℕ) → from + count ≤ length ns → length (slice_range ns from (from + count)) ≡ count
size ns from count l = omega (arith, length-take (from + count - from) (drop from ns), length-drop from ns)

-- glyphs of one kind, with the same first note and as many notes
same_glyph : (g h : Glyph) → g.kind ≡ h.kind → g.first ≡ h.first → g.count ≡ h.count → g ≡ h
same_glyph g h k f c = grind arith

same_glyphs : (ns : List Note) (gs hs : List Glyph) (from : ℕ) → map (read_as ns) gs ≡ map (read_as ns) hs
    → FollowOn from (map piece_of gs) (length ns) → FollowOn from (map piece_of hs) (length ns) → gs ≡ hs
same_glyphs ns [] [] from e a b = refl
same_glyphs ns [] (h ∷ hs) from e a b = absurd (cc)
same_glyphs ns (g ∷ gs) [] from e a b = absurd (cc)
same_glyphs ns (g ∷ gs) (h ∷ hs) from e a b =
    let head : read_as ns g ≡ read_as ns h = ap (λ (u : List (GlyphKind × List Note)). get_or u 0 (read_as ns g)) e in
    let tail : map (read_as ns) gs ≡ map (read_as ns) hs = ap (λ (u : List (GlyphKind × List Note)). drop 1 u) e in
    let first : g.first ≡ h.first = a.0 ∙ sym b.0 in
    let many : length (slice_range ns g.first (g.first + g.count)) ≡ length (slice_range ns h.first (h.first + h.count)) = ap (λ (x : GlyphKind × List Note). length x.1) head in
    let count : g.count ≡ h.count = sym (size ns g.first g.count (follow_le gs (g.first + g.count) (length ns) a.1)) ∙ (many ∙ size ns h.first h.count (follow_le hs (h.first + h.count) (length ns) b.1)) in
    let last : g.first + g.count ≡ h.first + h.count = omega arith in
    let glyph : g ≡ h = same_glyph g h (ap (λ (x : GlyphKind × List Note). x.0) head) first count in
    ap (λ (x : Glyph). x ∷ gs) glyph ∙ ap (λ (x : List Glyph). h ∷ x) (same_glyphs ns gs hs (h.first + h.count) tail (subst (λ n. FollowOn n (map piece_of gs) (length ns)) last a.1) b.1)

pub glyphs_are_one : (ns : List Note) (gs hs : List Glyph) → AreGlyphsOf ns gs → AreGlyphsOf ns hs → gs ≡ hs
glyphs_are_one ns gs hs a b =
    same_glyphs ns gs hs 0 (one_reading HasKind none_empty (λ t k j h i. kinds_are_one (letters t) k j h i) (map (read_as ns) gs) (map (read_as ns) hs) ns a.reads b.reads) a.joined b.joined

-- the glyphs that these readings are, from a place on
abbrev pub placed : ℕ → List (GlyphKind × List Note) → List Glyph
placed from [] = []
placed from (i ∷ is) = record { kind = i.0; first = from; count = length i.1 } ∷ placed (from + length i.1) is

pub placed_reads : (ns : List Note) (from : ℕ) (is : List (GlyphKind × List Note)) (t : List Note) → from ≤ length ns → drop from ns ≡ t → IsReadingBy HasKind is t
    → (map (read_as ns) (placed from is) ≡ is) × FollowOn from (map piece_of (placed from is)) (length ns)
placed_reads ns from [] t l e r = (refl, (let n : length (drop from ns) ≡ 0 = ap length (e ∙ r) in omega (arith, length-drop from ns)))
placed_reads ns from ((k, u) ∷ is) t l e (rest, f, has, long, reads) =
    let here : drop from ns ≡ u ++ rest = e ∙ f in
    let many : length (drop from ns) ≡ length (u ++ rest) = ap length here in
    let n : from + length u - from ≡ length u = omega arith in
    let word : slice_range ns from (from + length u) ≡ u = ap (λ (m : ℕ). take m (drop from ns)) n ∙ (ap (λ (w : List Note). take (length u) w) here ∙ take_at u rest (length u) refl) in
    let next : drop (from + length u) ns ≡ rest = sym (drop-drop (length u) from ns) ∙ (ap (λ (w : List Note). drop (length u) w) here ∙ drop_at u rest (length u) refl) in
    let later = placed_reads ns (from + length u) is rest (omega (arith, many, length-append u rest, length-drop from ns)) next reads in
    (ap (λ (w : List Note). (k, w) ∷ map (read_as ns) (placed (from + length u) is)) word ∙ ap (λ (w : List (GlyphKind × List Note)). (k, u) ∷ w) later.0, (refl, later.1))
