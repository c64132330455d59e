-- The places of a text: those of its characters, and its end.
use Rattle.std.proofs.Common.{◌≡◌, ℕ, zero, suc, ◌+◌, ◌≤◌, Bool, true, false, cond, ◌==◌, List, [], ◌∷◌, ◌++◌, length, take, drop, take-append-drop, append-nil, refl, sym, ap, ◌∙◌, arith}
use Rattle.gabc_places.specs.Place.{next_place, place_after, place_past}
use Rattle.gabc_places.specs.declared.code.Finding.{Finding}
use Rattle.gabc_places.specs.declared.place.Place.{Place}
use Rattle.gabc_places.proofs.PlacesOfAText.{after_joined}
use Rattle.gabc_headers.specs.Heads.{line_place}
use Rattle.gabc_headers.specs.Lines.{lines, on_first}
use Rattle.gabc_tree.specs.NotKept.{start}

-- p is the place of a character of the text, or its end
pub record IsPlaceOf (t : List ℕ) (p : Place) : Type 0 where
  pub front : List ℕ
  pub back : List ℕ
  pub parts : t ≡ front ++ back
  pub place_is : p ≡ place_past start front

-- the place after its first n characters
pub place_within : (t : List ℕ) (n : ℕ) → IsPlaceOf t (place_after (take n t))
place_within t n = record { front = take n t; back = drop n t; parts = sym (take-append-drop n t); place_is = sym (after_joined [] (take n t)) }

pub place_at_end : (t : List ℕ) → IsPlaceOf t (place_after t)
place_at_end t = record { front = t; back = []; parts = sym (append-nil t); place_is = sym (after_joined [] t) }

-- ---- lines

-- the place k lines further down
record IsBelow (t : List ℕ) (p : Place) (k : ℕ) : Type 0 where
  front : List ℕ
  back : List ℕ
  parts : t ≡ front ++ back
  place_is : record { line = p.line + k; column = 1 } ≡ place_past p front

more_below : (c : ℕ) (t : List ℕ) (p q : Place) (k m : ℕ) → next_place p c ≡ q → p.line + k ≡ q.line + m → IsBelow t q m → IsBelow (c ∷ t) p k
more_below c t p q k m e l b = record {
  front = c ∷ b.front;
  back = b.back;
  parts = ap (λ (u : List ℕ). c ∷ u) b.parts;
  place_is = ap (λ (n : ℕ). record { line = n; column = 1 }) l ∙ (b.place_is ∙ ap (λ (r : Place). place_past r b.front) (sym e));
}

first_longer : (c : ℕ) (ls : List (List ℕ)) (n : ℕ) → suc (suc n) ≤ length (on_first c ls) → suc (suc n) ≤ length ls
first_longer c [] n h = absurd (omega (arith, h))
first_longer c (l ∷ ls) n h = h

-- so it is in the rest of the text
abbrev AllBelow : List ℕ → Type 0
AllBelow t = (q : Place) (n : ℕ) → suc (suc n) ≤ length (lines t) → IsBelow t q (suc n)

below : (t : List ℕ) (p : Place) (k : ℕ) → suc (suc k) ≤ length (lines t) → IsBelow t p (suc k)
below [] p k h = absurd (omega (arith, h))
below (c ∷ t) p k h = by (c == 10) refl h (λ q n i. below t q n i)
  where
    lower : (n : ℕ) → n ≡ k → next_place p c ≡ record { line = p.line + 1; column = 1 } → suc k ≤ length (lines t) → AllBelow t → IsBelow (c ∷ t) p (suc k)
    lower zero e q i later = record { front = c ∷ []; back = t; parts = refl; place_is = ap (λ (m : ℕ). record { line = p.line + suc m; column = 1 }) (sym e) ∙ sym q }
    lower (suc n) e q i later = more_below c t p (record { line = p.line + 1; column = 1 }) (suc k) (suc n) q (omega (arith, e)) (later (record { line = p.line + 1; column = 1 }) n (omega (arith, e, i)))

    by : (o : Bool) → (c == 10) ≡ o → suc (suc k) ≤ length (cond o ([] ∷ lines t) (on_first c (lines t))) → AllBelow t → IsBelow (c ∷ t) p (suc k)
    by true e i later = lower k refl (rw e refl) (omega (arith, i)) later
    by false e i later = more_below c t p (record { line = p.line; column = p.column + 1 }) (suc k) (suc k) (rw e refl) refl (later (record { line = p.line; column = p.column + 1 }) k (first_longer c (lines t) k i))

-- each line begins at a place of the text
pub line_within : (t : List ℕ) (k : ℕ) → 1 ≤ k → k ≤ length (lines t) → IsPlaceOf t (line_place k)
line_within t zero h i = absurd (omega (arith, h))
line_within t (suc zero) h i = record { front = []; back = t; parts = refl; place_is = refl }
line_within t (suc (suc k)) h i = let b = below t start k i in record { front = b.front; back = b.back; parts = b.parts; place_is = ap (λ (n : ℕ). line_place n) (omega arith) ∙ b.place_is }

-- ---- findings

-- each of these findings stands at such a place
abbrev pub AllIn : (Place → Type 0) → List Finding → Type 0
AllIn In [] = Unit {0}
AllIn In (f ∷ fs) = In f.place × AllIn In fs

pub both_in : (In : Place → Type 0) (fs gs : List Finding) → AllIn In fs → AllIn In gs → AllIn In (fs ++ gs)
both_in In [] gs h i = i
both_in In (f ∷ fs) gs h i = (h.0, both_in In fs gs h.1 i)
