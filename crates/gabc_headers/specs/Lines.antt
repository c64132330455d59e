-- Lines, marks and trims of header text. A text, and a line of one, is the list of its characters.
use Rattle.std.specs.Prelude.{ℕ, ◌+◌, ◌-◌, length, ◌==◌, List, [], ◌∷◌, Bool, true, false, ◌||◌, ◌&&◌, cond, nat_le, sum_by}
use Rattle.std.specs.Char.{len_utf8}

-- the bytes of a text
abbrev pub bytes_len : List ℕ → ℕ
bytes_len text = sum_by len_utf8 text

-- c goes in front of the first line
abbrev pub on_first : ℕ → List (List ℕ) → List (List ℕ)
on_first c [] = (c ∷ []) ∷ []
on_first c (l ∷ ls) = (c ∷ l) ∷ ls

-- the lines of a text, without their LF; what follows the last LF is a line
abbrev pub lines : List ℕ → List (List ℕ)
lines [] = [] ∷ []
lines (c ∷ t) = cond (c == 10) ([] ∷ lines t) (on_first c (lines t))

-- a blank of a line
abbrev pub is_blank : ℕ → Bool
is_blank c = (c == 32) || (c == 9)

-- blanks, and then the line's end or `%`: a line that is skipped, and what follows a mark
abbrev pub is_bare : List ℕ → Bool
is_bare [] = true
is_bare (c ∷ l) = (c == 37) || (is_blank c && is_bare l)

-- a run of at least n `;` (n at least 1), followed by what is bare
abbrev pub is_mark : ℕ → List ℕ → Bool
is_mark n [] = false
is_mark n (c ∷ l) = (c == 59) && ((nat_le n 1 && is_bare l) || is_mark (n - 1) l)

-- whether the line has a mark of n or more `;`
abbrev pub has_mark : ℕ → List ℕ → Bool
has_mark n [] = false
has_mark n (c ∷ l) = is_mark n (c ∷ l) || has_mark n l

-- what stands before the first such mark
abbrev pub before_mark : ℕ → List ℕ → List ℕ
before_mark n [] = []
before_mark n (c ∷ l) = cond (is_mark n (c ∷ l)) [] (c ∷ before_mark n l)

-- the number of `;` and blanks that a line begins with
abbrev pub run_len : List ℕ → ℕ
run_len [] = 0
run_len (c ∷ l) = cond ((c == 59) || is_blank c) (1 + run_len l) 0

-- the place after the first mark and the blanks after it, where the mark becomes known
abbrev pub mark_end : ℕ → List ℕ → ℕ
mark_end n [] = 0
mark_end n (c ∷ l) = cond (is_mark n (c ∷ l)) (run_len (c ∷ l)) (1 + mark_end n l)

-- what stands before the first `:`, and after it
abbrev pub has_colon : List ℕ → Bool
has_colon [] = false
has_colon (c ∷ l) = (c == 58) || has_colon l

abbrev pub before_colon : List ℕ → List ℕ
before_colon [] = []
before_colon (c ∷ l) = cond (c == 58) [] (c ∷ before_colon l)

abbrev pub after_colon : List ℕ → List ℕ
after_colon [] = []
after_colon (c ∷ l) = cond (c == 58) l (after_colon l)

-- the list without the elements at its start that pass
abbrev pub trim_start : (ℕ → Bool) → List ℕ → List ℕ
trim_start out [] = []
trim_start out (c ∷ l) = cond (out c) (trim_start out l) (c ∷ l)

-- c and then l, or nothing if that is c alone and c is left out
abbrev pub unless_last : Bool → ℕ → List ℕ → List ℕ
unless_last out c [] = cond out [] (c ∷ [])
unless_last out c (d ∷ l) = c ∷ d ∷ l

-- the list without the elements at its end that pass
abbrev pub trim_end : (ℕ → Bool) → List ℕ → List ℕ
trim_end out [] = []
trim_end out (c ∷ l) = unless_last (out c) c (trim_end out l)

-- a name without the blanks round it
abbrev pub trim_name : List ℕ → List ℕ
trim_name l = trim_start is_blank (trim_end is_blank l)

abbrev pub is_blank_or_lf : ℕ → Bool
is_blank_or_lf c = is_blank c || (c == 10)

abbrev pub ends_no_value : ℕ → Bool
ends_no_value c = is_blank_or_lf c || (c == 59)

-- a value without the blanks and LFs round it, and without `;` at its end
abbrev pub trim_value : List ℕ → List ℕ
trim_value v = trim_start is_blank_or_lf (trim_end ends_no_value v)

-- a line that ends the headers begins with `%%`
abbrev pub is_percent : List ℕ → Bool
is_percent [] = false
is_percent (d ∷ l) = d == 37

abbrev pub is_score_line : List ℕ → Bool
is_score_line [] = false
is_score_line (c ∷ l) = (c == 37) && is_percent l

-- the lines before the first line that begins with `%%`, or all
abbrev pub head_of : List (List ℕ) → List (List ℕ)
head_of [] = []
head_of (l ∷ ls) = cond (is_score_line l) [] (l ∷ head_of ls)

-- whether there is such a line
abbrev pub has_score : List (List ℕ) → Bool
has_score [] = false
has_score (l ∷ ls) = is_score_line l || has_score ls

-- the characters of these lines, each with its LF
abbrev pub lines_len : List (List ℕ) → ℕ
lines_len [] = 0
lines_len (l ∷ ls) = length l + (1 + lines_len ls)
