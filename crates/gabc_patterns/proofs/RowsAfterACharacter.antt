-- The rows of a table after a character.
use Rattle.std.proofs.Common.{◌≡◌, ℕ, ◌⊎◌, inl, inr, List, [], ◌∷◌, ◌++◌, Bool, true, false, not, cond, refl, eq-eqb, suc, arith}
use Rattle.std.proofs.lemmas.Bool.{and_parts, or_cases, or_left, or_right}
use Rattle.gabc_patterns.specs.Pattern.{Pattern, never, nothing, one_of, any_but, ◌·◌, ◌or◌, many, is_in, Spells}
use Rattle.gabc_patterns.specs.LongestItems.{Table, IsItemOf, IsItem}
use Rattle.gabc_patterns.specs.Derivative.{derivative, may_end, is_empty, possible, rows_after, rows_end}
use Rattle.gabc_patterns.proofs.DerivativesSpellWhatFollows.{end_from, end_to, after_to, after_from}

-- ---- patterns with a text

-- the first of some is one of them
pub is_in_first : (c : ℕ) (cs : List ℕ) → is_in c (c ∷ cs) ≡ true
is_in_first c cs = rw (eq-eqb c c refl) refl

-- a pattern that tests as possible spells some text
pub possible_from : (p : Pattern) → possible p ≡ true → (t : List ℕ) × Spells p t
possible_from never e = absurd (cc)
possible_from nothing e = ([], refl)
possible_from (one_of []) e = absurd (cc)
possible_from (one_of (c ∷ cs)) e = (c ∷ [], (c, is_in_first c cs, refl))
possible_from (any_but x) e = (suc x ∷ [], (suc x, (λ f. omega arith), refl))
possible_from (p · q) e =
    let h = and_parts (possible p) (possible q) e in
    let a = possible_from p h.0 in
    let b = possible_from q h.1 in
    (a.0 ++ b.0, (a.0, b.0, a.1, b.1, refl))
possible_from (p or q) e =
    elim (or_cases (possible p) (possible q) e) [
      | inl h ↦ (let a = possible_from p h in (a.0, inl a.1))
      | inr h ↦ (let a = possible_from q h in (a.0, inr a.1))
    ]
possible_from (many p) e = ([], ([], tt, refl))

-- where one is, there are some
pub possible_in : (c : ℕ) (cs : List ℕ) → is_in c cs ≡ true → not (is_empty cs) ≡ true
possible_in c cs e = grind arith

-- a pattern that spells some text tests as possible
pub possible_to : (p : Pattern) (t : List ℕ) → Spells p t → possible p ≡ true
possible_to never t h = absurd h
possible_to nothing t h = refl
possible_to (one_of cs) t h = possible_in h.0 cs h.1
possible_to (any_but x) t h = refl
possible_to (p · q) t h = let hp = possible_to p h.0 h.2 in let hq = possible_to q h.1 h.3 in rw (hp, hq) refl
possible_to (p or q) t (inl h) = or_left (possible p) (possible q) (possible_to p t h)
possible_to (p or q) t (inr h) = or_right (possible p) (possible q) (possible_to q t h)
possible_to (many p) t h = refl

-- ---- the rows

-- a row that is possible stays
pub row_to : {K : Type 0} (b : Bool) (k j : K) (p : Pattern) (rows : Table K) (t : List ℕ) → b ≡ possible p
    → ((j ≡ k) × Spells p t) ⊎ IsItemOf rows k t → IsItemOf (cond b ((j, p) ∷ rows) rows) k t
row_to b k j p rows t e h = grind (arith, possible_to)

-- a row that stays was there
pub row_from : {K : Type 0} (b : Bool) (k j : K) (p : Pattern) (rows : Table K) (t : List ℕ)
    → IsItemOf (cond b ((j, p) ∷ rows) rows) k t → ((j ≡ k) × Spells p t) ⊎ IsItemOf rows k t
row_from b k j p rows t h = grind arith

-- what follows the character in the rows
pub rows_to : {K : Type 0} (rows : Table K) (k : K) (c : ℕ) (t : List ℕ) → IsItemOf rows k (c ∷ t) → IsItemOf (rows_after c rows) k t
rows_to [] k c t h = h
rows_to (row ∷ rows) k c t (inl h) = row_to (possible (derivative c row.1)) k row.0 (derivative c row.1) (rows_after c rows) t refl (inl (h.0, after_to row.1 c t h.1))
rows_to (row ∷ rows) k c t (inr h) = row_to (possible (derivative c row.1)) k row.0 (derivative c row.1) (rows_after c rows) t refl (inr (rows_to rows k c t h))

-- what may follow the character in the rows does
pub rows_from : {K : Type 0} (rows : Table K) (k : K) (c : ℕ) (t : List ℕ) → IsItemOf (rows_after c rows) k t → IsItemOf rows k (c ∷ t)
rows_from [] k c t h = h
rows_from (row ∷ rows) k c t h =
    elim (row_from (possible (derivative c row.1)) k row.0 (derivative c row.1) (rows_after c rows) t h) [
      | inl x ↦ inl (x.0, after_from row.1 c t x.1)
      | inr x ↦ inr (rows_from rows k c t x)
    ]

-- rows one of which spells the empty text test so
pub rows_end_to : {K : Type 0} (rows : Table K) (k : K) → IsItemOf rows k [] → rows_end rows ≡ true
rows_end_to [] k h = absurd h
rows_end_to (row ∷ rows) k (inl h) = or_left (may_end row.1) (rows_end rows) (end_to row.1 h.1)
rows_end_to (row ∷ rows) k (inr h) = or_right (may_end row.1) (rows_end rows) (rows_end_to rows k h)

-- rows that test so have one that spells the empty text
pub rows_end_from : {K : Type 0} (rows : Table K) → rows_end rows ≡ true → IsItem rows []
rows_end_from [] e = absurd (cc)
rows_end_from (row ∷ rows) e =
    elim (or_cases (may_end row.1) (rows_end rows) e) [
      | inl h ↦ (row.0, inl (refl, end_from row.1 h))
      | inr h ↦ (let x = rows_end_from rows h in (x.0, inr x.1))
    ]

-- a table no row of which spells the empty text tests so
pub none_ends : {K : Type 0} (rows : Table K) → ¬ IsItem rows [] → rows_end rows ≡ false
none_ends rows h = grind (arith, rows_end_from)
