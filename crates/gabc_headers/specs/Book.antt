-- The book of header parts.
use Rattle.std.specs.Prelude.{ℕ, zero, suc, ◌+◌, ◌^◌, if◌then◌else◌, List, [], ◌∷◌, ◌++◌, Bool, true, false, ◌||◌, ◌&&◌, not, cond, bytes_eq, codes, map, Option, Some, None, is_some}
use Rattle.std.specs.List.{position}
use Rattle.std.specs.Option.{unwrap_or}
use Rattle.gabc_headers.specs.declared.nabc_lines.TheConstants.{NABC_LINES}
use Rattle.gabc_headers.specs.Parts.{HeaderPart, left_out, header, unended}

abbrev pub is_one_of : List ℕ → List (List ℕ) → Bool
is_one_of name [] = false
is_one_of name (n ∷ ns) = bytes_eq name n || is_one_of name ns

-- the values of `nabc-lines` that are in range, each at the index that is its number of lines:
-- those of the table
abbrev pub nabc_values : List (List ℕ)
nabc_values = map (λ value. value.now) NABC_LINES

-- a header counts: of `nabc-lines`, one whose value is in range
abbrev pub is_kept : List ℕ → List ℕ → Bool
is_kept name value = not (bytes_eq name (codes "nabc-lines")) || is_one_of value nabc_values

-- whether the name comes again, after these; an annotation never does
abbrev pub repeats : List (List ℕ) → List ℕ → Bool
repeats seen name = not (bytes_eq name (codes "annotation")) && is_one_of name seen

abbrev pub unless : {X : Type 0} → Bool → X → List X → List X
unless true x xs = xs
unless false x xs = x ∷ xs

-- the names and values of the headers that count
abbrev pub entries : List HeaderPart → List (List ℕ × List ℕ)
entries [] = []
entries (left_out k p ∷ ps) = entries ps
entries (unended k ∷ ps) = entries ps
entries (header k name value p ∷ ps) = unless (not (is_kept name value)) (name, value) (entries ps)

-- the value of the last of that name, if v is that of the first
abbrev pub last_value : {X : Type 0} → List ℕ → X → List (List ℕ × X) → X
last_value name v [] = v
last_value name v (e ∷ es) = last_value name (cond (bytes_eq name e.0) e.1 v) es

abbrev pub value_of : {X : Type 0} → List ℕ → X → List (List ℕ × X) → X
value_of name v es = cond (bytes_eq name (codes "annotation")) v (last_value name v es)

-- Of each name one entry is left, at the place of its first and with the value of its last; of
-- `annotation` all are left.
abbrev pub standing_entries : {X : Type 0} → List (List ℕ) → List (List ℕ × X) → List (List ℕ × X)
standing_entries seen [] = []
standing_entries seen (e ∷ es) = unless (repeats seen e.0) (e.0, value_of e.0 e.1 es) (standing_entries (e.0 ∷ seen) es)

abbrev pub book_of : List HeaderPart → List (List ℕ × List ℕ)
book_of ps = standing_entries [] (entries ps)

-- the value of the first entry of that name
abbrev pub value_named : List ℕ → List (List ℕ × List ℕ) → Option (List ℕ)
value_named name [] = None
value_named name (e ∷ es) = cond (bytes_eq name e.0) (Some e.1) (value_named name es)

abbrev pub has_header : List ℕ → List (List ℕ × List ℕ) → Bool
has_header name book = is_some (value_named name book)

-- the number of lines of NABC; 0 without the header
abbrev pub lines_by : Option (List ℕ) → ℕ
lines_by None = 0
lines_by (Some value) = unwrap_or (position (λ known. bytes_eq known value) nabc_values) 0

abbrev pub nabc_lines_of : List (List ℕ × List ℕ) → ℕ
nabc_lines_of book = lines_by (value_named (codes "nabc-lines") book)

-- the name of a macro's header: `def-m` and the digit
abbrev pub macro_name : ℕ → List ℕ
macro_name digit = codes "def-m" ++ (48 + digit) ∷ []

-- the bit of the macro of a digit, if it has a header
abbrev pub macro_bit : List (List ℕ × List ℕ) → ℕ → ℕ
macro_bit book digit = if has_header (macro_name digit) book then 2 ^ digit else 0

abbrev pub macros_below : List (List ℕ × List ℕ) → ℕ → ℕ
macros_below book zero = 0
macros_below book (suc digit) = macros_below book digit + macro_bit book digit

-- the macros that have a header: the sum of their bits
abbrev pub macros_of : List (List ℕ × List ℕ) → ℕ
macros_of book = macros_below book 10
