-- The lines of the headers, cut into groups: a relation between the lines and the groups.
use Rattle.std.specs.Prelude.{◌≡◌, ℕ, ◌+◌, List, [], ◌∷◌, ◌++◌, true, false, length}
use Rattle.gabc_headers.specs.Lines.{is_bare, has_mark, before_mark, mark_end, has_colon, before_colon, after_colon, lines_len}
use Rattle.gabc_headers.specs.Parts.{HeaderPart, left_out, unended, name_of, bad_name_parts, ended_parts}

pub data Group : Type 0 where
  -- a line of blanks, or a comment
  skipped : List ℕ → Group
  -- a line without `:`
  colonless : List ℕ → Group
  -- a header: its first line, and the lines below that belong to its value
  valued : List ℕ → List (List ℕ) → Group
  -- a header whose value is not ended
  unfinished : List ℕ → List (List ℕ) → Group

abbrev pub lines_in : Group → List (List ℕ)
lines_in (skipped l) = l ∷ []
lines_in (colonless l) = l ∷ []
lines_in (valued l below) = l ∷ below
lines_in (unfinished l below) = l ∷ below

-- the first of these lines with a mark of two or more `;` is the last of them
abbrev pub EndAtMark : List (List ℕ) → Type 0
EndAtMark [] = ⊥
EndAtMark (l ∷ []) = has_mark 2 l ≡ true
EndAtMark (l ∷ m ∷ ls) = (has_mark 2 l ≡ false) × EndAtMark (m ∷ ls)

-- none of these lines has such a mark
abbrev pub HaveNoMark : List (List ℕ) → Type 0
HaveNoMark [] = Unit {0}
HaveNoMark (l ∷ ls) = (has_mark 2 l ≡ false) × HaveNoMark ls

-- a header's first line: it is not skipped, and has a `:`
pub record BeginsHeader (l : List ℕ) : Type 0 where
  pub seen : is_bare l ≡ false
  pub colon : has_colon l ≡ true

-- A value ends at the first mark on its header's line, or, if that line has none, with the first
-- line below that has a mark of two or more `;`.
abbrev pub EndsValue : List ℕ → List (List ℕ) → Type 0
EndsValue l [] = has_mark 1 (after_colon l) ≡ true
EndsValue l (m ∷ ms) = (has_mark 1 (after_colon l) ≡ false) × EndAtMark (m ∷ ms)

abbrev pub IsGroup : Group → Type 0
IsGroup (skipped l) = is_bare l ≡ true
IsGroup (colonless l) = (is_bare l ≡ false) × (has_colon l ≡ false)
IsGroup (valued l below) = BeginsHeader l × EndsValue l below
IsGroup (unfinished l below) = BeginsHeader l × (has_mark 1 (after_colon l) ≡ false) × HaveNoMark below

-- The lines are those of the groups, in order; a value that is not ended takes all that is left.
abbrev pub AreGroups : List (List ℕ) → List Group → Type 0
AreGroups ls [] = ls ≡ []
AreGroups ls (unfinished l below ∷ gs) = IsGroup (unfinished l below) × (ls ≡ l ∷ below) × (gs ≡ [])
AreGroups ls (g ∷ gs) = IsGroup g × ((rest : List (List ℕ)) × (ls ≡ lines_in g ++ rest) × AreGroups rest gs)

-- the value of lines that end at the mark of their last one
abbrev pub value_below : List (List ℕ) → List ℕ
value_below [] = []
value_below (l ∷ []) = 10 ∷ before_mark 2 l
value_below (l ∷ m ∷ ls) = 10 ∷ l ++ value_below (m ∷ ls)

abbrev pub value_text : List ℕ → List (List ℕ) → List ℕ
value_text l [] = before_mark 1 (after_colon l)
value_text l (m ∷ ms) = after_colon l ++ value_below (m ∷ ms)

-- the point at which the mark of the last of these lines, which begin at point n, becomes known
abbrev pub mark_below : ℕ → List (List ℕ) → ℕ
mark_below n [] = n
mark_below n (l ∷ []) = n + mark_end 2 l
mark_below n (l ∷ m ∷ ls) = mark_below (n + (length l + 1)) (m ∷ ls)

abbrev pub mark_point : ℕ → List ℕ → List (List ℕ) → ℕ
mark_point n l [] = n + (length (before_colon l) + (1 + mark_end 1 (after_colon l)))
mark_point n l (m ∷ ms) = mark_below (n + (length l + 1)) (m ∷ ms)

-- the parts of a group whose first line has the number k and begins at point n
abbrev pub parts_of_group : ℕ → ℕ → Group → List HeaderPart
parts_of_group k n (skipped l) = []
parts_of_group k n (colonless l) = left_out k (n + length l) ∷ []
parts_of_group k n (valued l below) = bad_name_parts k (name_of l) (n + length (before_colon l)) ++ ended_parts k (name_of l) (value_text l below) (mark_point n l below)
parts_of_group k n (unfinished l below) = bad_name_parts k (name_of l) (n + length (before_colon l)) ++ unended k ∷ []

abbrev pub parts_of_groups : ℕ → ℕ → List Group → List HeaderPart
parts_of_groups k n [] = []
parts_of_groups k n (g ∷ gs) = parts_of_group k n g ++ parts_of_groups (k + length (lines_in g)) (n + lines_len (lines_in g)) gs
