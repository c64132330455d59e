-- The canonical header lines.
use Rattle.std.specs.Prelude.{ℕ, List, [], ◌∷◌, ◌++◌, Bool, true, false, cond, codes}
use Rattle.gabc_headers.specs.Lines.{lines, has_mark}

-- whether the value of these lines is written on lines of its own: it has an LF, or its line has a
-- mark
abbrev pub wants_lines : List (List ℕ) → Bool
wants_lines [] = false
wants_lines (l ∷ []) = has_mark 1 l
wants_lines (l ∷ m ∷ ls) = true

-- `:;` for the empty value; else `: VALUE;`, or on its own lines `:`, LF, one blank, the value,
-- `;;`. Each ends with LF.
abbrev pub printed_value : Bool → List ℕ → List ℕ
printed_value lined [] = codes ";\n"
printed_value lined (c ∷ v) = cond lined (codes "\n " ++ (c ∷ v) ++ codes ";;\n") (codes " " ++ (c ∷ v) ++ codes ";\n")

abbrev pub header_line : List ℕ × List ℕ → List ℕ
header_line e = e.0 ++ codes ":" ++ printed_value (wants_lines (lines e.1)) e.1

abbrev pub header_lines : List (List ℕ × List ℕ) → List ℕ
header_lines [] = []
header_lines (e ∷ es) = header_line e ++ header_lines es

-- the header lines and `%%`
abbrev pub canonical_heads : List (List ℕ × List ℕ) → List ℕ
canonical_heads book = header_lines book ++ codes "%%"
