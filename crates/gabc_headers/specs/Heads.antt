-- The headers of a whole text: its book, its findings, and its fault. A point is an index into the
-- text; its length is the end.
use Rattle.std.specs.Prelude.{ℕ, ◌+◌, ◌-◌, ◌==◌, List, [], ◌∷◌, ◌++◌, Bool, ◌||◌, ◌&&◌, not, cond, codes, length, take, get_or, nat_lt, Option, Some, None, Result, Ok, Err}
use Rattle.std.specs.Option.{option_map}
use Rattle.std.specs.Char.{len_utf8}
use Rattle.gabc_places.specs.declared.place.Place.{Place}
use Rattle.gabc_places.specs.declared.limits.Limits.{Limits}
use Rattle.gabc_places.specs.declared.code.Code.{Code}
use Rattle.gabc_places.specs.declared.code.Code.TheVariants.{E4, E5, W1, W2, F2, F3, F4, F7}
use Rattle.gabc_places.specs.declared.code.Finding.{Finding}
use Rattle.gabc_places.specs.Place.{place_after}
use Rattle.gabc_places.specs.Findings.{Known, findings_before, Stop, earliest}
use Rattle.gabc_headers.specs.declared.heads.Heads.{Heads}
use Rattle.gabc_headers.specs.declared.heads.HeadFault.{HeadFault}
use Rattle.gabc_headers.specs.Lines.{bytes_len, lines, head_of, has_score, lines_len}
use Rattle.gabc_headers.specs.Parts.{HeaderPart, left_out, header, unended}
use Rattle.gabc_headers.specs.witness.Parts.{head_parts}
use Rattle.gabc_headers.specs.Book.{book_of, is_kept, repeats, has_header}
use Rattle.gabc_headers.specs.Canonical.{header_lines}

-- the length of the text before the line `%%`, or of all
abbrev pub head_len : List ℕ → ℕ
head_len t = cond (has_score (lines t)) (lines_len (head_of (lines t))) (length t)

-- the first place of a line
abbrev pub line_place : ℕ → Place
line_place k = record { line = k; column = 1 }

abbrev pub known_at : ℕ → Place → Code → Known
known_at p place code = record { point = p; finding = record { place = place; code = code } }

abbrev pub stop_at : ℕ → Place → Code → Stop
stop_at p place code = record { point = p; fault = record { place = place; code = code } }

-- ---- findings

-- the findings at a part, after headers with these names that count
abbrev pub findings_at : List (List ℕ) → HeaderPart → List Known
findings_at seen (left_out k p) = known_at p (line_place k) E4 ∷ []
findings_at seen (unended k) = []
findings_at seen (header k name value p) =
    cond (is_kept name value)
    (cond (repeats seen name) (known_at p (line_place k) W2 ∷ []) [])
    (known_at p (line_place k) E5 ∷ [])

abbrev pub names_after : List (List ℕ) → HeaderPart → List (List ℕ)
names_after seen (left_out k p) = seen
names_after seen (unended k) = seen
names_after seen (header k name value p) = cond (is_kept name value) (name ∷ seen) seen

abbrev pub findings_after : List (List ℕ) → List HeaderPart → List Known
findings_after seen [] = []
findings_after seen (p ∷ ps) = findings_at seen p ++ findings_after (names_after seen p) ps

-- no header `name`, known at the second `%` of the line `%%`
abbrev pub findings_of_name : List ℕ → List HeaderPart → List Known
findings_of_name t ps = cond (has_score (lines t) && not (has_header (codes "name") (book_of ps)))
    (known_at (head_len t + 1) (place_after (take (head_len t) t)) W1 ∷ []) []

-- all findings in the headers of a text, whose lines make these parts
abbrev pub findings_of_parts : List ℕ → List HeaderPart → List Known
findings_of_parts t ps = findings_after [] ps ++ findings_of_name t ps

-- ---- their stops

-- the line of the header whose value is not ended
abbrev pub open_line : List HeaderPart → Option ℕ
open_line [] = None
open_line (unended k ∷ ps) = Some k
open_line (left_out k p ∷ ps) = open_line ps
open_line (header k name value p ∷ ps) = open_line ps

-- the first character with which a text has more than `limit` bytes
abbrev pub first_above : ℕ → List ℕ → Option ℕ
first_above limit [] = None
first_above limit (c ∷ t) = cond (nat_lt limit (len_utf8 c)) (Some 0) (option_map (λ n. n + 1) (first_above (limit - len_utf8 c) t))

-- whether the character at i is a `%` that begins a line
abbrev pub is_line_percent : List ℕ → ℕ → Bool
is_line_percent t i = (get_or t i 0 == 37) && ((i == 0) || (get_or t (i - 1) 0 == 10))

-- The text is too long at i. A `%` that begins a line counts once the next character is there,
-- which is then the point.
abbrev pub too_long : List ℕ → Option ℕ → List Stop
too_long t None = []
too_long t (Some i) =
    cond (is_line_percent t i)
    (cond (nat_lt (i + 1) (length t)) (stop_at (i + 1) (place_after (take i t)) F4 ∷ []) [])
    (stop_at i (place_after (take i t)) F4 ∷ [])

-- the text before the line `%%` has too many bytes
abbrev pub text_stops : ℕ → List ℕ → List Stop
text_stops limit t = too_long t (first_above limit (take (head_len t) t))

-- a value is not ended at this point
abbrev pub open_stops : ℕ → Option ℕ → List Stop
open_stops p None = []
open_stops p (Some k) = stop_at p (line_place k) F3 ∷ []

-- at the second `%` of the line `%%`: the canonical lines, or with `%%` and LF the canonical file,
-- have too many bytes
abbrev pub stops_of_score : Limits → List ℕ → List HeaderPart → List Stop
stops_of_score limits t ps =
    let place = place_after (take (head_len t) t) in
    let size = bytes_len (header_lines (book_of ps)) in
    cond (nat_lt limits.header size) (stop_at (head_len t + 1) place F4 ∷ []) []
    ++ cond (nat_lt limits.input (size + 3)) (stop_at (head_len t + 1) place F7 ∷ []) []

-- at the end: there is no line `%%`, outside a value
abbrev pub missing_score : Option ℕ → List ℕ → List Stop
missing_score None t = stop_at (length t) (place_after t) F2 ∷ []
missing_score (Some k) t = []

-- all stops of the headers of a text, whose lines make these parts
abbrev pub stops_of_parts : Limits → List ℕ → List HeaderPart → List Stop
stops_of_parts limits t ps =
    text_stops limits.header t
    ++ cond (has_score (lines t))
    (open_stops (head_len t + 1) (open_line ps) ++ stops_of_score limits t ps)
    (open_stops (length t) (open_line ps) ++ missing_score (open_line ps) t)

-- ---- the headers

-- the byte after `%%`
abbrev pub body_byte : List ℕ → ℕ
body_byte t = bytes_len (take (head_len t + 2) t)

abbrev pub heads_of_parts_by : List ℕ → List HeaderPart → Option Stop → Result Heads HeadFault
heads_of_parts_by t ps None = Ok (record { book = book_of ps; body = body_byte t; findings = findings_before (length t + 1) (findings_of_parts t ps) })
heads_of_parts_by t ps (Some s) = Err (record { fault = s.fault; findings = findings_before s.point (findings_of_parts t ps); at_end = s.point == length t })

-- The book with all that is found, or the earliest stop with what is found before it.
abbrev pub heads_of_parts : Limits → List ℕ → List HeaderPart → Result Heads HeadFault
heads_of_parts limits t ps = heads_of_parts_by t ps (earliest (stops_of_parts limits t ps))

-- the headers of a text, of which a law says that they are those of its groups
abbrev pub heads_of : Limits → List ℕ → Result Heads HeadFault
heads_of limits t = heads_of_parts limits t (head_parts t)

-- what is found, in either case
abbrev pub findings_of : Result Heads HeadFault → List Finding
findings_of (Ok heads) = heads.findings
findings_of (Err fault) = fault.findings
