-- The function gives the glyphs of a segment.
use Rattle.std.proofs.Common.{◌≡◌, ℕ, zero, suc, List, [], ◌∷◌, ◌++◌, refl, sym, ap, ◌∙◌, subst, Option, Some, None, length, take, drop, ◌≤◌, ◌<◌, ◌+◌, ◌-◌, arith, length-append, length-take, take-append-drop, take_at, drop_at}
use Rattle.std.proofs.Math.Seq.{take-append-add}
use native.Mathlib.Decide.{dec_lt}
use Rattle.gabc_notes.specs.declared.note.Note.{Note}
use Rattle.gabc_patterns.specs.LongestItems.{IsReadingBy, HasSome, Longest}
use Rattle.gabc_patterns.proofs.ReadingExists.{reading_exists}
use Rattle.gabc_patterns.proofs.Spelled.{kind_is as kind_of_is, none_is}
use Rattle.gabc_neumes.specs.Cut.{kind_by, longest_glyph, glyphs_within, glyphs_of}
use Rattle.gabc_neumes.specs.Glyphs.{HasKind, AreGlyphsOf}
use Rattle.gabc_neumes.specs.Letters.{letters}
use Rattle.gabc_neumes.specs.Table.{neumes}
use Rattle.gabc_neumes.specs.declared.glyph.Glyph.{Glyph}
use Rattle.gabc_neumes.specs.declared.glyph.GlyphKind.{GlyphKind}
use Rattle.gabc_neumes.proofs.glyphs_of_notes.GlyphsAreOne.{placed, placed_reads}
use Rattle.gabc_neumes.proofs.glyphs_of_notes.GlyphsOneByOne.{none_empty, begins}
use Rattle.gabc_neumes.proofs.glyphs_of_notes.MachineReadsNeumes.{kinds_are_one}

-- the kind of notes that are a glyph
pub kind_is : (k : GlyphKind) (ns : List Note) → HasKind k ns → kind_by ns ≡ Some k
kind_is k ns h = go (kind_by ns) refl
  where
    go : (o : Option GlyphKind) → kind_by ns ≡ o → o ≡ Some k
    go None e = absurd (none_is neumes (letters ns) k e h)
    go (Some j) e = ap (λ (x : GlyphKind). Some x) (kinds_are_one (letters ns) j k (kind_of_is neumes (letters ns) j e) h)

-- and of notes that are none
pub kind_none : (ns : List Note) → ¬ HasSome HasKind ns → kind_by ns ≡ None
kind_none ns h = go (kind_by ns) refl
  where
    go : (o : Option GlyphKind) → kind_by ns ≡ o → o ≡ None
    go None e = refl
    go (Some j) e = absurd (h (j, kind_of_is neumes (letters ns) j e))

some_notes : (k : GlyphKind) (ns : List Note) → HasKind k ns → 0 < length ns
some_notes k [] h = absurd (none_empty k h)
some_notes k (n ∷ ns) h = omega arith

-- the longest glyph is found
longest_is : (n : ℕ) (k : GlyphKind) (u rest : List Note) → HasKind k u → Longest (HasSome HasKind) u rest → length u ≤ n → n ≤ length (u ++ rest)
    → longest_glyph n (u ++ rest) ≡ Some (k, length u)
longest_is zero k u rest h l a b = absurd (let s = some_notes k u h in omega arith)
longest_is (suc n) k u rest h l a b = elim (dec_lt (length u) (suc n)) [
  | no x ↦ (let same : length u ≡ suc n = omega arith in
      let cut : take (suc n) (u ++ rest) ≡ u = take_at u rest (suc n) same in
      ap (found n) (ap kind_by cut ∙ kind_is k u h) ∙ ap (λ (m : ℕ). Some (k, m)) (sym same))
  | yes x ↦ (let more : length u + (suc n - length u) ≡ suc n = omega arith in
      let cut : take (suc n) (u ++ rest) ≡ u ++ take (suc n - length u) rest = ap (λ (m : ℕ). take m (u ++ rest)) (sym more) ∙ take-append-add u rest (suc n - length u) in
      let none : ¬ HasSome HasKind (u ++ take (suc n - length u) rest) = longer x in
      ap (found n) (ap kind_by cut ∙ kind_none (u ++ take (suc n - length u) rest) none) ∙ longest_is n k u rest h l (omega arith) (omega arith))
]
  where
    found : ℕ → Option GlyphKind → Option (GlyphKind × ℕ)
    found m o = elim o as (λ _. Option (GlyphKind × ℕ)) [ None ↦ longest_glyph m (u ++ rest) | Some kind ↦ Some (kind, suc m) ]

    longer : length u < suc n → ¬ HasSome HasKind (u ++ take (suc n - length u) rest)
    longer x j =
        let none_more = l.longest (take (suc n - length u) rest) (drop (suc n - length u) rest) (sym (take-append-drop (suc n - length u) rest)) j in
        let size : length (take (suc n - length u) rest) ≡ 0 = ap length none_more in
        omega (arith, length-take (suc n - length u) rest, length-append u rest)

-- the glyphs of notes that have a reading
computed : (n from : ℕ) (is : List (GlyphKind × List Note)) (t : List Note) → length t ≤ n → IsReadingBy HasKind is t → glyphs_within n from t ≡ placed from is
computed zero from [] t l r = refl
computed (suc n) from [] t l r = ap (λ (u : List Note). glyphs_within (suc n) from u) r
computed zero from ((k, u) ∷ is) t l (rest, e, h, long, r) = absurd (let s = some_notes k u h in let m : length t ≡ length (u ++ rest) = ap length e in omega (arith, length-append u rest))
computed (suc n) from ((k, u) ∷ is) t l (rest, e, h, long, r) =
    let s = some_notes k u h in
    let m : length t ≡ length (u ++ rest) = ap length e in
    let first : longest_glyph (length (u ++ rest)) (u ++ rest) ≡ Some (k, length u) = longest_is (length (u ++ rest)) k u rest h long (omega (arith, length-append u rest)) (omega arith) in
    ap (λ (v : List Note). glyphs_within (suc n) from v) e
    ∙ (ap (later (u ++ rest)) first
    ∙ (ap (λ (v : List Note). record { kind = k; first = from; count = length u } ∷ glyphs_within n (from + length u) v) (drop_at u rest (length u) refl)
    ∙ ap (λ (v : List Glyph). record { kind = k; first = from; count = length u } ∷ v) (computed n (from + length u) is rest (omega (arith, length-append u rest)) r)))
  where
    later : List Note → Option (GlyphKind × ℕ) → List Glyph
    later v o = elim o as (λ _. List Glyph) [ None ↦ [] | Some g ↦ record { kind = g.0; first = from; count = g.1 } ∷ glyphs_within n (from + g.1) (drop g.1 v) ]

-- the function gives the glyphs
pub glyphs_are : (ns : List Note) → AreGlyphsOf ns (glyphs_of ns)
glyphs_are ns =
    let r = reading_exists HasKind begins ns in
    let p = placed_reads ns 0 r.0 ns (omega arith) refl r.1 in
    subst (AreGlyphsOf ns) (sym (computed (length ns) 0 r.0 ns (omega arith) r.1))
    (record { reads = subst (λ (w : List (GlyphKind × List Note)). IsReadingBy HasKind w ns) (sym p.0) r.1; joined = p.1 })
