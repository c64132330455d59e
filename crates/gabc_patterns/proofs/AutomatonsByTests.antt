-- An automaton of a table, and the tests by which it is one.
use Rattle.std.proofs.Common.{◌≡◌, ℕ, suc, zero, ◌<◌, List, [], ◌∷◌, Bool, true, false, ◌&&◌, refl, Option, Some, None, arith, eq-or-lt_of_le, le_of_suc-le-suc, inl, inr}
use Rattle.std.proofs.lemmas.Bool.{and_parts}
use Rattle.gabc_patterns.specs.LongestItems.{Table}
use Rattle.gabc_patterns.specs.Derivative.{same_pattern, rows_after, rows_run, rows_end, Munch, start, nowhere, within, step, run, is_whole, is_alive, end_kind}
use Rattle.gabc_patterns.proofs.EqualPatterns.{same_equal}
use Rattle.gabc_patterns.proofs.CharactersBeyondTheTable.{are_plain, stands_plain}

-- states S that read characters by their classes C, for items of the kinds K
pub record Automaton (K S C : Type 0) : Type 0 where
  pub class_of : ℕ → C
  -- the state at the start
  pub first : S
  -- a text that ends in that state
  pub example : S → List ℕ
  -- the item goes on
  pub goes_on : S → C → Option S
  -- the item goes on, or it ended at its longest and the reading goes on from there
  pub next : S → C → Option S
  -- the kind of the item, if it may end here
  pub ends : S → Option K
  -- what was read is a snippet
  pub whole : S → Bool

module _ {K S C : Type 0} (table : Table K) (a : Automaton K S C) where
  -- where the reading stands at a state
  abbrev pub reading : S → Munch K
  reading s = run table start (a.example s)

  -- where it stands at no state
  abbrev pub reading_of : Option S → Munch K
  reading_of None = nowhere
  reading_of (Some s) = reading s

  -- the rows of the item at a state
  abbrev pub rows_of : S → Table K
  rows_of s = rows_run table (a.example s)

  -- no rows are left at no state
  abbrev pub rows_at : Option S → Table K
  rows_at None = []
  rows_at (Some s) = rows_of s

  -- The automaton reads snippets of the table: at each state and character its next state is where the reading stands.
  pub record ReadsSnippets : Type 0 where
    pub none_empty : rows_end table ≡ false
    pub begins : a.example a.first ≡ []
    pub alive : (s : S) → is_alive (reading s) ≡ true
    pub whole : (s : S) → is_whole (reading s) ≡ a.whole s
    pub steps : (s : S) (c : ℕ) → step table (reading s) c ≡ reading_of (a.next s (a.class_of c))

  -- The automaton reads items of the table: where the item goes on, and where it may end, are as the rows say.
  pub record ReadsItems : Type 0 where
    pub begins : a.example a.first ≡ []
    pub goes_on : (s : S) (c : ℕ) → rows_after c (rows_of s) ≡ rows_at (a.goes_on s (a.class_of c))
    pub ends : (s : S) → end_kind (rows_of s) ≡ a.ends s

-- ---- the tests

-- a test of each number below n
abbrev pub below : ℕ → (ℕ → Bool) → Bool
below zero f = true
below (suc n) f = f n && below n f

-- a test of all, at one
pub below_at : (n : ℕ) (f : ℕ → Bool) (c : ℕ) → below n f ≡ true → c < n → f c ≡ true
below_at zero f c e h = absurd (omega arith)
below_at (suc n) f c e h =
    let g = and_parts (f n) (below n f) e in
    elim (eq-or-lt_of_le (le_of_suc-le-suc h)) [ inl x ↦ rw x g.0 | inr x ↦ below_at n f c g.1 x ]

-- two tests that come out alike
abbrev pub alike : Bool → Bool → Bool
alike true b = b
alike false true = false
alike false false = true

-- tests that come out alike are equal
pub alike_equal : (a b : Bool) → alike a b ≡ true → a ≡ b
alike_equal a b e = grind arith

module _ {K : Type 0} (same_kind : K → K → Bool) where
  -- rows that are written alike
  abbrev pub same_rows : Table K → Table K → Bool
  same_rows [] [] = true
  same_rows (r ∷ rs) (s ∷ ss) = same_kind r.0 s.0 && (same_pattern r.1 s.1 && same_rows rs ss)
  same_rows _ _ = false

  -- readings that stand alike
  abbrev pub same_reading : Munch K → Munch K → Bool
  same_reading start start = true
  same_reading nowhere nowhere = true
  same_reading (within rs m) (within ss n) = same_rows rs ss && same_reading m n
  same_reading _ _ = false

  -- ends that are alike
  abbrev pub same_end : Option K → Option K → Bool
  same_end None None = true
  same_end (Some k) (Some j) = same_kind k j
  same_end _ _ = false

  module _ (same_kind_equal : (k j : K) → same_kind k j ≡ true → k ≡ j) where
    -- rows that test alike are equal
    pub same_rows_equal : (rs ss : Table K) → same_rows rs ss ≡ true → rs ≡ ss
    same_rows_equal [] [] e = refl
    same_rows_equal ((k, p) ∷ rs) ((j, q) ∷ ss) e =
        let h = and_parts (same_kind k j) (same_pattern p q && same_rows rs ss) e in
        let i = and_parts (same_pattern p q) (same_rows rs ss) h.1 in
        let f = same_kind_equal k j h.0 in
        let g = same_equal p q i.0 in
        let r = same_rows_equal rs ss i.1 in
        cc
    same_rows_equal _ _ e = absurd (cc)

    -- readings that test alike are equal
    pub same_reading_equal : (m n : Munch K) → same_reading m n ≡ true → m ≡ n
    same_reading_equal start start e = refl
    same_reading_equal nowhere nowhere e = refl
    same_reading_equal (within rs m) (within ss n) e =
        let h = and_parts (same_rows rs ss) (same_reading m n) e in
        let f = same_rows_equal rs ss h.0 in
        let g = same_reading_equal m n h.1 in
        cc
    same_reading_equal _ _ e = absurd (cc)

    -- ends that test alike are equal
    pub same_end_equal : (o p : Option K) → same_end o p ≡ true → o ≡ p
    same_end_equal o p e = grind arith

module _ {K S C : Type 0} (same_kind : K → K → Bool) (table : Table K) (a : Automaton K S C) where
  -- the next state after a character is where the reading stands
  abbrev pub agrees : S → ℕ → Bool
  agrees s c = same_reading same_kind (step table (reading table a s) c) (reading_of table a (a.next s (a.class_of c)))

  -- the item goes on at a character as the rows say
  abbrev pub agrees_on : S → ℕ → Bool
  agrees_on s c = same_rows same_kind (rows_after c (rows_of table a s)) (rows_at table a (a.goes_on s (a.class_of c)))

  -- All tests of a state, for the reading of snippets; each character from 128 on is as 128.
  abbrev pub test_snippets : S → Bool
  test_snippets s =
      is_alive (reading table a s) && (alike (is_whole (reading table a s)) (a.whole s)
      && (stands_plain (reading table a s) && below 129 (agrees s)))

  -- all tests of a state, for the reading of items
  abbrev pub test_items : S → Bool
  test_items s =
      same_end same_kind (end_kind (rows_of table a s)) (a.ends s) && (are_plain (rows_of table a s) && below 129 (agrees_on s))
