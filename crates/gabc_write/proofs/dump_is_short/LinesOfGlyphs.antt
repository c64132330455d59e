-- The lines of the glyphs of a segment are short: of notes with b bytes in all, at most 20 * b; and each is written once.
use Rattle.std.proofs.Common.{◌≡◌, ℕ, zero, suc, ◌+◌, ◌*◌, ◌≤◌, ◌<◌, ◌^◌, ◌==◌, List, [], ◌∷◌, Option, Some, None, length, length-append, length-take, take, drop, arith, refl, subst, if◌then◌else◌}
use Rattle.std.proofs.lemmas.Bool.{eqb-true}
use Rattle.gabc_notes.specs.declared.note.Note.{Note}
use Rattle.gabc_neumes.specs.Cut.{kind_by, longest_glyph, glyphs_within, glyphs_of}
use Rattle.gabc_neumes.specs.declared.glyph.Glyph.{Glyph}
use Rattle.gabc_neumes.specs.declared.glyph.GlyphKind.{GlyphKind}
use Rattle.gabc_write.specs.DumpOfNotes.{line_of_glyph, line_of_glyph_at}
use Rattle.gabc_write.proofs.dump_is_short.LineOfGlyph.{sizes_of, AreSized, taken, left, split, few, line_short, lines_in, found}

-- ---- the lines of all glyphs

first_short : (ns : List Note) (k : GlyphKind) (m first : ℕ) → 1 ≤ m → m ≤ length ns → kind_by (take m ns) ≡ Some k → AreSized ns → sizes_of ns < 2 ^ 64
    → length (line_of_glyph (record { kind = k; first = first; count = m })) ≤ 20 * sizes_of (take m ns)
first_short (n ∷ ns) k (suc m) first some within e h l =
    let count : length (take m ns) + 1 ≡ suc m = omega (arith, length-take m ns) in
    let sized : AreSized (n ∷ take m ns) = taken (suc m) (n ∷ ns) h in
    let small : length (take m ns) + 1 < 2 ^ 64 = omega (arith, few (n ∷ ns) h, length-take m ns) in
    subst (λ (x : ℕ). length (line_of_glyph (record { kind = k; first = first; count = x })) ≤ 20 * sizes_of (n ∷ take m ns)) count (line_short n (take m ns) k first e sized small)
first_short _ k _ first some within e h l = absurd (omega arith)

cut_short : (n from : ℕ) (ns : List Note) → AreSized ns → sizes_of ns < 2 ^ 64 → lines_in (glyphs_within n from ns) ≤ 20 * sizes_of ns
cut_short zero from ns h l = omega arith
cut_short (suc n) from ns h l = go (longest_glyph (length ns) ns) refl (λ a u. cut_short n a u)
  where
    go : (o : Option (GlyphKind × ℕ)) → longest_glyph (length ns) ns ≡ o
        → ((a : ℕ) (u : List Note) → AreSized u → sizes_of u < 2 ^ 64 → lines_in (glyphs_within n a u) ≤ 20 * sizes_of u)
        → lines_in (elim o as (λ _. List Glyph) [ None ↦ [] | Some g ↦ record { kind = g.0; first = from; count = g.1 } ∷ glyphs_within n (from + g.1) (drop g.1 ns) ]) ≤ 20 * sizes_of ns
    go None e later = omega arith
    go (Some (k, m)) e later =
        let f = found (length ns) ns k m e in
        let first = first_short ns k m from f.some f.within f.is_kind h l in
        let rest = later (from + m) (drop m ns) (left m ns h) (omega (arith, split m ns)) in
        omega (arith, first, rest, split m ns)

pub glyphs_short : (ns : List Note) → AreSized ns → sizes_of ns < 2 ^ 64 → lines_in (glyphs_of ns) ≤ 20 * sizes_of ns
glyphs_short ns h l = cut_short (length ns) 0 ns h l

-- ---- the line at each note

-- the bytes of the lines of the glyphs that begin with the notes from e on, of n notes
abbrev pub lines_at : List Glyph → ℕ → ℕ → ℕ
lines_at gs e zero = 0
lines_at gs e (suc n) = length (line_of_glyph_at gs e) + lines_at gs (e + 1) n

-- so for one glyph
abbrev one_at : Glyph → ℕ → ℕ
one_at g e = length (if g.first == e then line_of_glyph g else [])

abbrev ones_at : Glyph → ℕ → ℕ → ℕ
ones_at g e zero = 0
ones_at g e (suc n) = one_at g e + ones_at g (e + 1) n

none_after : (g : Glyph) (e n : ℕ) → g.first < e → ones_at g e n ≡ 0
none_after g e zero l = refl
none_after g e (suc n) l = grind (arith, none_after g (e + 1) n (omega arith), eqb-true)

once : (g : Glyph) (e n : ℕ) → ones_at g e n ≤ length (line_of_glyph g)
once g e zero = omega arith
once g e (suc n) = grind (arith, once g (e + 1) n, none_after, eqb-true)

one_more : (g : Glyph) (gs : List Glyph) (e n : ℕ) → lines_at (g ∷ gs) e n ≡ ones_at g e n + lines_at gs e n
one_more g gs e zero = refl
one_more g gs e (suc n) = omega (arith, length-append (if g.first == e then line_of_glyph g else []) (line_of_glyph_at gs e), one_more g gs (e + 1) n)

none_at : (e n : ℕ) → lines_at [] e n ≡ 0
none_at e zero = refl
none_at e (suc n) = omega (arith, none_at (e + 1) n)

pub at_most_once : (gs : List Glyph) (e n : ℕ) → lines_at gs e n ≤ lines_in gs
at_most_once [] e n = omega (arith, none_at e n)
at_most_once (g ∷ gs) e n = omega (arith, one_more g gs e n, once g e n, at_most_once gs e n)
