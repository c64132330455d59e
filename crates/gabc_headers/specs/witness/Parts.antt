-- The parts of lines, read line by line. Nobody has to believe it: by a law they are the parts of
-- the one cutting of the lines into groups.
use Rattle.std.specs.Prelude.{ℕ, ◌+◌, List, [], ◌∷◌, ◌++◌, ◌||◌, not, cond, length, Option}
use Rattle.gabc_headers.specs.Lines.{is_bare, has_mark, before_mark, mark_end, has_colon, before_colon, after_colon, lines, head_of}
use Rattle.gabc_headers.specs.Parts.{HeaderPart, left_out, unended, name_of, bad_name_parts, ended_parts}

-- a line is outside of the headers' values, or within the value of a header: the header's line, its
-- name (unless the header is left out), and the value so far
pub data LineContext : Type 0 where
  outside : LineContext
  within : ℕ → Option (List ℕ) → List ℕ → LineContext

-- the parts that line k, which begins at point n, makes known
abbrev pub parts_of_line : LineContext → ℕ → ℕ → List ℕ → List HeaderPart
parts_of_line outside k n l =
    cond (is_bare l) []
    (cond (has_colon l)
    (bad_name_parts k (name_of l) (n + length (before_colon l))
    ++ cond (has_mark 1 (after_colon l)) (ended_parts k (name_of l) (before_mark 1 (after_colon l)) (n + (length (before_colon l) + (1 + mark_end 1 (after_colon l))))) [])
    (left_out k (n + length l) ∷ []))
parts_of_line (within j name v) k n l =
    cond (has_mark 2 l) (ended_parts j name (v ++ 10 ∷ before_mark 2 l) (n + mark_end 2 l)) []

-- the context of the line below line k
abbrev pub context_below : LineContext → ℕ → List ℕ → LineContext
context_below outside k l = cond (is_bare l || (not (has_colon l) || has_mark 1 (after_colon l))) outside (within k (name_of l) (after_colon l))
context_below (within j name v) k l = cond (has_mark 2 l) outside (within j name (v ++ 10 ∷ l))

abbrev pub parts_left_open : LineContext → List HeaderPart
parts_left_open outside = []
parts_left_open (within j name v) = unended j ∷ []

-- the parts of these lines, the first of which is in this context, has the number k and begins at
-- point n
abbrev pub parts : LineContext → ℕ → ℕ → List (List ℕ) → List HeaderPart
parts w k n [] = parts_left_open w
parts w k n (l ∷ ls) = parts_of_line w k n l ++ parts (context_below w k l) (k + 1) (n + (length l + 1)) ls

-- the parts of the lines before the line `%%`, or of all lines
abbrev pub head_parts : List ℕ → List HeaderPart
head_parts t = parts outside 1 0 (head_of (lines t))
