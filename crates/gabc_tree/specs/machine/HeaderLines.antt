-- The places of marks in a line of the headers.
use Rattle.std.specs.Prelude.{if◌then◌else◌, ℕ, ◌+◌, ◌-◌, ◌==◌, ◌<◌, ◌≤◌, ◌^◌, ◌&&◌, ◌||◌, nat_lt, List, [], ◌∷◌, Bool, true, false, length, Option, Some, None}
use Rattle.gabc_headers.specs.Lines.{is_blank, is_blank_or_lf, ends_no_value, has_mark, before_mark, has_colon, before_colon, trim_start}
use Rattle.gabc_tree.specs.declared.header_lines.Header.{Header}

-- whether a byte is left out at the end of a value, or of a name
abbrev pub is_last : Bool → ℕ → Bool
is_last true c = ends_no_value c
is_last false c = is_blank c

abbrev pub lead_of : List ℕ → ℕ
lead_of s = length s - length (trim_start is_blank_or_lf s)

-- the length of the mark of `;` that begins at a byte, or 0, and whether the rest of the line from
-- there on is bare, by the same of what follows
abbrev pub run_with : ℕ → Bool → ℕ → ℕ
run_with c bare run = if (c == 59) && (bare || nat_lt 0 run) then run + 1 else 0

abbrev pub bare_with : ℕ → Bool → Bool
bare_with c bare = (c == 37) || (is_blank c && bare)

abbrev pub first_mark : ℕ → List ℕ → Option ℕ
first_mark n l = if has_mark n l then Some (length (before_mark n l)) else None

abbrev pub first_colon : List ℕ → Option ℕ
first_colon l = if has_colon l then Some (length (before_colon l)) else None

-- the value of the header may end at byte `mark` of the text
pub record IsHeaderWithin (text : List ℕ) (header : Header) (mark : ℕ) : Type 0 where
  pub value : header.value ≤ mark
  pub marked : mark ≤ length text
  pub short : length text < 2 ^ 63

-- the first line of a text
abbrev pub row_of : List ℕ → List ℕ
row_of [] = []
row_of (c ∷ t) = if c == 10 then [] else c ∷ row_of t

-- the name of the header, and the beginning of its value, are not after byte `n`
abbrev pub IsOpen : ℕ → Option Header → Type 0
IsOpen n None = Unit {0}
IsOpen n (Some h) = (h.name.from ≤ n) × (h.name.to ≤ n) × (h.value ≤ n)
