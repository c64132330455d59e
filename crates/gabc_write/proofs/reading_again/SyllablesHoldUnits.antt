-- Each syllable of a score that has notes holds a unit.
use Rattle.std.proofs.Common.{◌≡◌, ℕ, zero, suc, ◌+◌, ◌<◌, ◌^◌, ◌≤◌, ◌⊎◌, inl, inr, List, [], ◌∷◌, ◌++◌, length, length-append, Some, refl, sym, ap, subst, ◌∙◌, arith}
use Rattle.std.specs.List.{All}
use Rattle.std.proofs.lemmas.List.{length-map}
use Rattle.std.proofs.lemmas.List.Elements.{All-head, All-tail}
use lib.Utf8.{encodes}
use Rattle.gabc_body.proofs.units.UnitsEndAtMarks.{IsSingle}
use Rattle.gabc_places.specs.declared.limits.Limits.{Limits}
use Rattle.gabc_places.specs.declared.place.Char.{Char}
use Rattle.gabc_headers.specs.Book.{nabc_lines_of}
use Rattle.gabc_body.specs.declared.ending.InputEnding.{InputEnding}
use Rattle.gabc_body.specs.declared.snippets.Snippet.{Snippet}
use Rattle.gabc_body.specs.Holding.{HoldsNoNotes, Holds, HoldsWithNotes, HoldsParts, lines_by, lines_of}
use Rattle.gabc_body.specs.witness.EmittedScore.{emitted_score}
use Rattle.gabc_body.specs.Syllable.{UnplacedSyllable, PlacedSyllable}
use Rattle.gabc_body.specs.SyllablesOfUnits.{ScoreUnit, NotesAre}
use Rattle.gabc_body.specs.UnitRead.{HoldsSomeUnit}
use Rattle.gabc_write.proofs.reading_again.ScoreIsPrinted.{UnitsAre}

-- after n others stands this one
record Split {A : Type 0} (n : ℕ) (all : List A) : Type 0 where
  before : List A
  one : A
  after : List A
  parts : all ≡ before ++ one ∷ after
  count : length before ≡ n

split : {A : Type 0} (n : ℕ) (all : List A) → n < length all → Split n all
split n [] h = absurd (omega (arith, h))
split zero (x ∷ xs) h = record { before = []; one = x; after = xs; parts = refl; count = refl }
split (suc n) (x ∷ xs) h =
    let r = split n xs (omega (arith, h)) in
    record { before = x ∷ r.before; one = r.one; after = r.after; parts = ap (λ ys. x ∷ ys) r.parts; count = ap suc r.count }

there : {A : Type 0} (P : A → Type 0) (xs ys : List A) (x : A) → All P (xs ++ x ∷ ys) → P x
there P [] ys x h = All-head P x ys h
there P (z ∷ xs) ys x h = there P xs ys x (All-tail P z (xs ++ x ∷ ys) h)

-- a syllable has as many snippets as its unit, or one without notes
few : (lines : ℕ) (u : ScoreUnit) (xss : List (List Char)) (whole : List ℕ) (snippets : List Snippet) → u.snippets ≡ xss → NotesAre lines u xss whole snippets → IsSingle u → length snippets ≤ 1
few lines u xss whole snippets e n single = grind (arith, length-map)

module _ (units_are : (limits : Limits) (ending : InputEnding) (t : List ℕ) (book : List (List ℕ × List ℕ)) → length (encodes t) < 2 ^ 63
    → (emitted_score limits ending t).book ≡ Some book → UnitsAre t book (emitted_score limits ending t).syllables)
    (held : (limits : Limits) (ending : InputEnding) (t : List ℕ) → length (encodes t) < 2 ^ 63
    → All (λ (s : PlacedSyllable). HoldsParts t (lines_of (emitted_score limits ending t)) s.made) (emitted_score limits ending t).syllables)
    (noted : (limits : Limits) (ending : InputEnding) (t : List ℕ) → length (encodes t) < 2 ^ 63 → (before after : List PlacedSyllable) (s next : PlacedSyllable)
    → (emitted_score limits ending t).syllables ≡ before ++ s ∷ next ∷ after → HoldsWithNotes t (lines_of (emitted_score limits ending t)) s.made)
    (parts : (input : List ℕ) (lines : ℕ) (m : UnplacedSyllable) → HoldsWithNotes input lines m → (lines ≡ 0 → length m.snippets ≤ 1) → HoldsSomeUnit lines m)
    (limits : Limits) (ending : InputEnding) (t : List ℕ) (book : List (List ℕ × List ℕ)) (short : length (encodes t) < 2 ^ 63) (book_is : (emitted_score limits ending t).book ≡ Some book) where
  abbrev lines : ℕ
  lines = nabc_lines_of book

  lines_are : lines_of (emitted_score limits ending t) ≡ lines
  lines_are = ap lines_by book_is

  single_of : (before after : List PlacedSyllable) (s : PlacedSyllable) → (emitted_score limits ending t).syllables ≡ before ++ s ∷ after → lines ≡ 0 → length s.made.snippets ≤ 1
  single_of before after s e none =
      let u = units_are limits ending t book short book_is in
      let count : length (emitted_score limits ending t).syllables ≡ length u.units = u.syllables_are.count in
      let size : length (emitted_score limits ending t).syllables ≡ length before + suc (length after) = ap (length {A = PlacedSyllable}) e ∙ length-append before (s ∷ after) in
      let p = split (length before) u.units (omega (arith, count, size)) in
      let k = u.syllables_are.each p.before p.after p.one before after s p.parts e (sym p.count) in
      few lines p.one p.one.snippets k.holds.whole s.made.snippets refl k.holds.notes (there IsSingle p.before p.after p.one (subst (All IsSingle) p.parts (u.single none)))

  with_notes : (before after : List PlacedSyllable) (s : PlacedSyllable) → (emitted_score limits ending t).syllables ≡ before ++ s ∷ after → HoldsWithNotes t (lines_of (emitted_score limits ending t)) s.made → HoldsSomeUnit lines s.made
  with_notes before after s e h = parts t lines s.made (subst (λ (n : ℕ). HoldsWithNotes t n s.made) lines_are h) (single_of before after s e)

  pub earlier_hold : (before after : List PlacedSyllable) (s next : PlacedSyllable) → (emitted_score limits ending t).syllables ≡ before ++ s ∷ next ∷ after → HoldsSomeUnit lines s.made
  earlier_hold before after s next e = with_notes before (next ∷ after) s e (noted limits ending t short before after s next e)

  pub each_holds : (before after : List PlacedSyllable) (s : PlacedSyllable) → (emitted_score limits ending t).syllables ≡ before ++ s ∷ after → HoldsSomeUnit lines s.made ⊎ Holds HoldsNoNotes t s.made
  each_holds before after s e = by (there Parts before after s (subst (All Parts) e (held limits ending t short)))
    where
      Parts : PlacedSyllable → Type 0
      Parts r = HoldsParts t (lines_of (emitted_score limits ending t)) r.made

      by : HoldsWithNotes t (lines_of (emitted_score limits ending t)) s.made ⊎ Holds HoldsNoNotes t s.made → HoldsSomeUnit lines s.made ⊎ Holds HoldsNoNotes t s.made
      by (inl h) = inl (with_notes before after s e h)
      by (inr h) = inr h
