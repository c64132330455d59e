-- The lines of the glyphs of a segment are short: of notes with b bytes in all, at most 19 * b.
use Rattle.std.proofs.Common.{◌≡◌, ℕ, zero, suc, ◌+◌, ◌*◌, ◌≤◌, ◌<◌, ◌^◌, ◌-◌, ◌&&◌, inl, inr, nat_le, min, List, [], ◌∷◌, Bool, true, Option, Some, None, length, length-append, take, drop, arith, refl, sym, ap, ◌∙◌, subst}
use Rattle.std.proofs.lemmas.Fmt.{length-decimal-le_succ}
use Rattle.gabc_notes.specs.declared.note.Note.{Note}
use Rattle.gabc_notes.specs.declared.note.Shape.{Shape}
use Rattle.gabc_neumes.specs.Cut.{kind_by, longest_glyph}
use Rattle.gabc_neumes.specs.Letters.{letters, shape_letter}
use Rattle.gabc_neumes.specs.Table.{neumes}
use Rattle.gabc_neumes.specs.Words.{shape_word, kind_word}
use Rattle.gabc_neumes.specs.declared.glyph.Glyph.{Glyph}
use Rattle.gabc_neumes.specs.declared.glyph.GlyphKind.{GlyphKind}
use Rattle.gabc_patterns.specs.Derivative.{rows_run, end_kind}
use Rattle.gabc_patterns.specs.Pattern.{Pattern, Spells, never, nothing, one_of, any_but, ◌·◌, ◌or◌, many}
use Rattle.gabc_patterns.specs.LongestItems.{Table, IsItemOf}
use Rattle.gabc_patterns.proofs.KindsByDerivatives.{kind_is_end_kind}
use Rattle.gabc_patterns.proofs.Spelled.{kind_is}
use Rattle.std.proofs.lemmas.Bool.{leb-true, and_parts}
use Rattle.std.proofs.Math.Nat.{min-le_left, min-le_right}
use Rattle.gabc_neumes.proofs.glyphs_of_notes.LettersOfNotes.{many as letters_count}
use Rattle.gabc_write.specs.DumpOfNotes.{line_of_glyph}

-- ---- the word of a kind, by the number of notes

-- how many characters a text that the pattern spells has at least
least : Pattern → ℕ
least never = 0
least nothing = 0
least (one_of cs) = 1
least (any_but x) = 1
least (p · q) = least p + least q
least (p or q) = min (least p) (least q)
least (many p) = 0

least_of : (p : Pattern) (t : List ℕ) → Spells p t → least p ≤ length t
unfolding least
least_of never t s = omega arith
least_of nothing t s = omega arith
least_of (one_of cs) t (c, i, e) = omega (arith, ap (length {A = ℕ}) e)
least_of (any_but x) t (c, i, e) = omega (arith, ap (length {A = ℕ}) e)
least_of (p · q) t (a, b, s, r, e) = omega (arith, ap (length {A = ℕ}) e, length-append a b, least_of p a s, least_of q b r)
least_of (p or q) t (inl x) = omega (arith, least_of p t x, min-le_left (least p) (least q))
least_of (p or q) t (inr x) = omega (arith, least_of q t x, min-le_right (least p) (least q))
least_of (many p) t s = omega arith

-- the word of each row's kind has at most 9 letters for each note that the row has at least, and 9
are_short : Table GlyphKind → Bool
are_short [] = true
are_short (row ∷ rows) = nat_le (length (kind_word row.0)) (9 * least row.1 + 9) && are_short rows

word_by_rows : (rows : Table GlyphKind) (k : GlyphKind) (t : List ℕ) → are_short rows ≡ true → IsItemOf rows k t → length (kind_word k) ≤ 9 * length t + 9
unfolding are_short
word_by_rows [] k t e i = absurd i
word_by_rows (row ∷ rows) k t e (inl (same, s)) = grind (arith, leb-true, and_parts, least_of)
word_by_rows (row ∷ rows) k t e (inr i) = word_by_rows rows k t (and_parts _ _ e).1 i

all_short : are_short neumes ≡ true
unfolding are_short least
all_short = refl

-- ---- the word of the kind of one note

fits : Option GlyphKind → ℕ → Bool
fits None n = true
fits (Some k) n = nat_le (length (kind_word k)) n

one_fits : (s : Shape) → fits (end_kind (rows_run neumes (shape_letter s ∷ []))) (length (shape_word s)) ≡ true
unfolding fits
one_fits s = grind arith

one_short : (s : Shape) (k : GlyphKind) → end_kind (rows_run neumes (shape_letter s ∷ [])) ≡ Some k → length (kind_word k) ≤ length (shape_word s)
unfolding fits
one_short s k e = leb-true (length (kind_word k)) (length (shape_word s)) (subst (λ (o : Option GlyphKind). fits o (length (shape_word s)) ≡ true) e (one_fits s))

-- ---- the line of a glyph, by the bytes of its notes

-- how many bytes the notes have
abbrev pub size_of : Note → ℕ
size_of n = n.span.to - n.span.from

abbrev pub sizes_of : List Note → ℕ
sizes_of [] = 0
sizes_of (n ∷ ns) = size_of n + sizes_of ns

-- each note has a byte, and as many for its shape as its word wants
abbrev pub AreSized : List Note → Type 0
AreSized [] = Unit {0}
AreSized (n ∷ ns) = ((1 ≤ size_of n) × (length (shape_word n.shape) ≤ 10 * size_of n)) × AreSized ns

pub few : (ns : List Note) → AreSized ns → length ns ≤ sizes_of ns
few [] h = omega arith
few (n ∷ ns) ((a, b), h) = omega (arith, few ns h)

pub taken : (m : ℕ) (ns : List Note) → AreSized ns → AreSized (take m ns)
taken zero ns h = tt
taken (suc m) [] h = tt
taken (suc m) (n ∷ ns) (a, h) = (a, taken m ns h)

pub left : (m : ℕ) (ns : List Note) → AreSized ns → AreSized (drop m ns)
left zero ns h = h
left (suc m) [] h = tt
left (suc m) (n ∷ ns) (a, h) = left m ns h

pub split : (m : ℕ) (ns : List Note) → sizes_of (take m ns) + sizes_of (drop m ns) ≡ sizes_of ns
split zero ns = omega arith
split (suc m) [] = omega arith
split (suc m) (n ∷ ns) = omega (arith, split m ns)

-- the word of the kind of these notes
word_short : (n : Note) (ns : List Note) (k : GlyphKind) → kind_by (n ∷ ns) ≡ Some k → AreSized (n ∷ ns)
    → length (kind_word k) + (length ns + 10) ≤ 20 * sizes_of (n ∷ ns)
word_short n [] k e ((a, b), h) = omega (arith, one_short n.shape k (sym (kind_is_end_kind neumes (shape_letter n.shape ∷ [])) ∙ e), a, b)
word_short n (m ∷ ns) k e h =
    let t = letters (n ∷ m ∷ ns) in
    let word = word_by_rows neumes k t all_short (kind_is neumes t k e) in
    omega (arith, word, letters_count None (n ∷ m ∷ ns), few (n ∷ m ∷ ns) h)

pub line_short : (n : Note) (ns : List Note) (k : GlyphKind) (first : ℕ) → kind_by (n ∷ ns) ≡ Some k → AreSized (n ∷ ns) → length ns + 1 < 2 ^ 64
    → length (line_of_glyph (record { kind = k; first = first; count = length ns + 1 })) ≤ 20 * sizes_of (n ∷ ns)
line_short n ns k first e h l = grind (arith, length-append, length-decimal-le_succ, word_short)

-- ---- the lines of the glyphs of a segment

-- how many bytes the lines of glyphs have
abbrev pub lines_in : List Glyph → ℕ
lines_in [] = 0
lines_in (g ∷ gs) = length (line_of_glyph g) + lines_in gs

-- What the longest glyph among the prefixes of at most n notes is.
pub record IsFound (n : ℕ) (ns : List Note) (k : GlyphKind) (m : ℕ) : Type 0 where
  pub some : 1 ≤ m
  pub within : m ≤ n
  pub is_kind : kind_by (take m ns) ≡ Some k

pub found : (n : ℕ) (ns : List Note) (k : GlyphKind) (m : ℕ) → longest_glyph n ns ≡ Some (k, m) → IsFound n ns k m
found zero ns k m e = cc
found (suc n) ns k m e = go (kind_by (take (suc n) ns)) refl e (found n ns k m)
  where
    go : (o : Option GlyphKind) → kind_by (take (suc n) ns) ≡ o
        → elim o as (λ _. Option (GlyphKind × ℕ)) [ None ↦ longest_glyph n ns | Some kind ↦ Some (kind, suc n) ] ≡ Some (k, m)
        → (longest_glyph n ns ≡ Some (k, m) → IsFound n ns k m) → IsFound (suc n) ns k m
    go None e f later = let x = later f in let a = x.some in let b = x.within in record { some = a; within = omega arith; is_kind = x.is_kind }
    go (Some kind) e f later =
        let both : (kind, suc n) ≡ (k, m) = cc in
        let size : suc n ≡ m = ap (λ (x : GlyphKind × ℕ). x.1) both in
        record { some = omega arith; within = omega arith; is_kind = subst (λ (x : ℕ). kind_by (take x ns) ≡ Some k) size (e ∙ ap (λ (x : GlyphKind × ℕ). Some x.0) both) }
