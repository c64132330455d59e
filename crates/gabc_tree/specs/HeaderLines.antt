-- The nodes of the lines of the headers: of a text that comes before the line `%%`. A line is the
-- list of its bytes, and `at` the byte of the text with which it begins.
use Rattle.std.specs.Prelude.{if◌then◌else◌, ℕ, ◌+◌, ◌-◌, ◌==◌, List, [], ◌∷◌, ◌++◌, length, drop, slice_range, position, Option, Some, None}
use Rattle.std.specs.List.{prefix_len}
use Rattle.gabc_places.specs.declared.code.Code.{Code}
use Rattle.gabc_places.specs.declared.code.Code.TheVariants.{E4, E5}
use Rattle.gabc_places.specs.declared.code.Finding.{Finding}
use Rattle.gabc_places.specs.declared.place.Span.{Span}
use Rattle.gabc_headers.specs.Lines.{lines, is_blank, is_blank_or_lf, ends_no_value, is_bare, has_mark, before_mark, has_colon, before_colon, after_colon, trim_start, trim_end}
use Rattle.gabc_nodes.specs.Node.{leaf}
use Rattle.gabc_nodes.specs.declared.kind.Kind.{Kind}
use Rattle.gabc_nodes.specs.declared.kind.Kind.TheVariants as kind
use Rattle.gabc_nodes.specs.declared.node.Node.{Node}
use Rattle.gabc_tree.specs.declared.header_lines.Header.{Header}
use Rattle.gabc_tree.specs.Placed.{offset}

abbrev pub span : ℕ → ℕ → Span
span from to = record { from = from; to = to }

-- a node of that kind and number, with these bytes
abbrev pub part : Kind → ℕ → Span → Node
part k number s = leaf k number (offset s.from) (offset s.to)

-- the span of a part of the text from that byte on, if this is left of it once its end is trimmed:
-- without the blanks and LFs at its start
abbrev pub span_of : ℕ → List ℕ → Span
span_of from kept = span (from + (length kept - length (trim_start is_blank_or_lf kept))) (from + length kept)

-- the bytes of a name or of a line that begins there, without the blanks round it
abbrev pub name_span : ℕ → List ℕ → Span
name_span at name = span_of at (trim_end is_blank name)

-- the bytes of a value without the blanks and LFs round it, and without `;` at its end
abbrev pub value_span : List ℕ → ℕ → ℕ → Span
value_span text from to = span_of from (trim_end ends_no_value (slice_range text from to))

-- the number of `;` with which the line begins
abbrev pub semicolons : List ℕ → ℕ
semicolons l = prefix_len (λ c. c == 59) l

-- ---- a line

-- the comment of a line that is bare from a byte on: from its `%` to its end
abbrev pub comment_by : ℕ → ℕ → List ℕ → Option ℕ → List Node
comment_by at from l None = []
comment_by at from l (Some n) = part kind.HeaderComment 0 (span (at + from + n) (at + length l)) ∷ []

abbrev pub comment_of : ℕ → ℕ → List ℕ → List Node
comment_of at from l = comment_by at from l (position (λ c. c == 37) (drop from l))

-- a header with the code that is found at it, whose value ends before the byte `mark` and its mark
-- before the byte `to`
abbrev pub header_with : List ℕ → Header → ℕ → ℕ → ℕ → List Node
header_with text h mark to a =
    record (part kind.Header a (span h.name.from to)) { inner = 2 }
    ∷ part kind.HeaderName 0 h.name
    ∷ part kind.HeaderValue 0 (value_span text h.value mark) ∷ []

abbrev pub header_by : List ℕ → Header → ℕ → ℕ → Option Code → List Node
header_by text h mark to None = header_with text h mark to 0
header_by text h mark to (Some E4) = part kind.HeaderLeftOut 104 (span h.name.from to) ∷ []
header_by text h mark to (Some E5) = part kind.HeaderLeftOut 105 (span h.name.from to) ∷ []
header_by text h mark to (Some _) = header_with text h mark to 202

-- a header whose mark begins at that byte of the line, and what follows the mark
abbrev pub ended_at : List ℕ → Header → ℕ → List ℕ → ℕ → List Node
ended_at text h at l mark =
    let to = mark + semicolons (drop mark l) in
    header_by text h (at + mark) (at + to) h.found ++ comment_of at to l

-- the header that begins with this line
abbrev pub header_at : Option Code → ℕ → List ℕ → Header
header_at found at l = record { found = found; name = name_span at (before_colon l); value = at + length (before_colon l) + 1 }

-- the nodes of a line that is in no value
abbrev pub line_nodes : List ℕ → Option Code → ℕ → List ℕ → List Node
line_nodes text found at l =
    if is_bare l then comment_of at 0 l
    else (if has_colon l
    then (if has_mark 1 (after_colon l) then ended_at text (header_at found at l) at l (length (before_colon l) + 1 + length (before_mark 1 (after_colon l))) else [])
    else part kind.HeaderLeftOut 104 (name_span at l) ∷ [])

-- the header that it leaves open
abbrev pub left_open : Option Code → ℕ → List ℕ → Option Header
left_open found at l = if is_bare l then None else (if has_colon l then (if has_mark 1 (after_colon l) then None else Some (header_at found at l)) else None)

-- and those of a line in the value of this header
abbrev pub nodes_below : List ℕ → Header → ℕ → List ℕ → List Node
nodes_below text h at l = if has_mark 2 l then ended_at text h at l (length (before_mark 2 l)) else []

abbrev pub open_below : Header → List ℕ → Option Header
open_below h l = if has_mark 2 l then None else Some h

-- ---- findings

-- the code that is found at line k, if the first of these findings is there, and those after it
abbrev pub found_at : ℕ → List Finding → Option Code
found_at k [] = None
found_at k (f ∷ fs) = if f.place.line == k then Some f.code else None

abbrev pub found_after : ℕ → List Finding → List Finding
found_after k [] = []
found_after k (f ∷ fs) = if f.place.line == k then fs else f ∷ fs

-- ---- the lines

-- the nodes of a line in the value of this header, or in none, and the header that it leaves open
abbrev pub nodes_of : List ℕ → Option Header → Option Code → ℕ → List ℕ → List Node
nodes_of text None found at l = line_nodes text found at l
nodes_of text (Some h) found at l = nodes_below text h at l

abbrev pub open_after : Option Header → Option Code → ℕ → List ℕ → Option Header
open_after None found at l = left_open found at l
open_after (Some h) found at l = open_below h l

-- of these lines, the first of which is the line k
abbrev pub nodes_from : List ℕ → Option Header → List Finding → ℕ → ℕ → List (List ℕ) → List Node
nodes_from text header findings k at [] = []
nodes_from text header findings k at (l ∷ ls) =
    nodes_of text header (found_at k findings) at l
    ++ nodes_from text (open_after header (found_at k findings) at l) (found_after k findings) (k + 1) (at + length l + 1) ls

-- the nodes of the lines of a text, in which these are found
abbrev pub header_line_nodes : List ℕ → List Finding → List Node
header_line_nodes text findings = nodes_from text None findings 1 0 (lines text)
