-- What of an input is not kept. The characters of the input are gone over beside those that are
-- kept of them: those of the headers, and then those of the syllables' kept texts, one after the
-- other.
use Rattle.std.specs.Prelude.{ℕ, ◌+◌, ◌-◌, List, [], ◌∷◌, ◌++◌, Bool, true, false, cond, not, ◌||◌, ◌&&◌, ◌==◌, nat_lt, Option, Some, None, is_some}
use Rattle.std.specs.Char.{len_utf8}
use Rattle.gabc_places.specs.declared.code.Code.{Code}
use Rattle.gabc_places.specs.declared.code.Code.TheVariants.{E1, E2, E3, W4}
use Rattle.gabc_places.specs.declared.code.Finding.{Finding}
use Rattle.gabc_places.specs.declared.place.Place.{Place}
use Rattle.gabc_places.specs.Place.{saturating_next_place}
use Rattle.gabc_places.specs.Text.{is_left_out, read_as}
use Rattle.gabc_text.specs.Token.{is_blank}
use Rattle.gabc_nodes.specs.Kind.{number_of}
use Rattle.gabc_nodes.specs.declared.kind.Kind.{Kind}
use Rattle.gabc_nodes.specs.declared.kind.Kind.TheVariants.{Comment, LeftOut, FurtherBlank, Silent}
use Rattle.gabc_nodes.specs.declared.node.Node.{Node}
use Rattle.gabc_nodes.specs.Node.{leaf}
use Rattle.gabc_tree.specs.CodeNumber.{number_of_code}

-- The state of the reading: the character before, the byte and the place of the next one, the
-- number of characters of the headers to come, whether a comment is open, and of the body the
-- characters that are to be kept and the findings to come.
pub record Reached : Type 0 where
  pub previous : ℕ
  pub byte : ℕ
  pub place : Place
  pub heads : ℕ
  pub comment : Bool
  pub kept : List ℕ
  pub findings : List Finding

-- ---- the findings

-- a finding of that code is about a character that is left out
abbrev pub leaves_out : Code → Bool
leaves_out E1 = true
leaves_out E2 = true
leaves_out E3 = true
leaves_out W4 = true
leaves_out _ = false

abbrev pub start : Place
start = record { line = 1; column = 1 }

abbrev pub is_before : Place → Place → Bool
is_before p q = nat_lt p.line q.line || ((p.line == q.line) && nat_lt p.column q.column)

abbrev pub is_at : Place → Place → Bool
is_at p q = (p.line == q.line) && (p.column == q.column)

-- those from the first on that leaves out a character here or later
abbrev pub from_here : Place → List Finding → List Finding
from_here here [] = []
from_here here (f ∷ fs) = cond (not (leaves_out f.code) || is_before f.place here) (from_here here fs) (f ∷ fs)

-- the code of the first of them, if it is here
abbrev pub code_at : Place → List Finding → Option Code
code_at here [] = None
code_at here (f ∷ fs) = cond (is_at f.place here) (Some f.code) None

-- ---- a character

-- the character is the next of those that are kept: a blank may be kept as U+0020
abbrev pub comes_next : List ℕ → ℕ → Bool
comes_next [] c = false
comes_next (d ∷ ds) c = (c == d) || ((d == 32) && is_blank c)

-- its kind and its number, if it is not kept
abbrev pub out_by_code : List ℕ → ℕ → Option Code → Option (Kind × ℕ)
out_by_code kept c (Some code) = Some (LeftOut, number_of_code code)
out_by_code [] c None = None
out_by_code (d ∷ ds) c None = cond (is_blank c) (Some (FurtherBlank, 0)) (Some (LeftOut, 106))

-- A comment goes on up to an LF. What does not come next is left out, with the code that is found
-- there or, at the end of a snippet, with E6; blanks are so in silence. After the last syllable the
-- rest belongs to the file.
abbrev pub out_in_body : Reached → ℕ → Option (Kind × ℕ)
out_in_body s c =
    cond (s.comment && not (c == 10)) (Some (Comment, 0))
    (cond (comes_next s.kept c) None
    (cond (c == 37) (Some (Comment, 0))
    (out_by_code s.kept c (code_at s.place s.findings))))

-- all of the headers is kept
abbrev pub out_by : Reached → ℕ → Option (Kind × ℕ)
out_by s c = cond (nat_lt 0 s.heads) None (out_in_body s c)

abbrev pub is_silent : Reached → ℕ → Bool
is_silent s c = is_left_out (s.previous, c)

abbrev pub out_of : Reached → ℕ → Option (Kind × ℕ)
out_of s c = cond (is_silent s c) (Some (Silent, 0)) (out_by s (read_as c))

-- ---- the reading

abbrev pub is_comment : Option (Kind × ℕ) → Bool
is_comment None = false
is_comment (Some (Comment, a)) = true
is_comment (Some (kind, a)) = false

abbrev pub but_first : List ℕ → List ℕ
but_first [] = []
but_first (d ∷ ds) = ds

-- past a character of the headers; a body begins in a comment
abbrev pub past_head : Reached → Reached
past_head s = record s { heads = s.heads - 1; comment = s.heads == 1 }

-- past a character of the body that is not kept as the next one, or is
abbrev pub past_body : Reached → ℕ → Reached
past_body s c = record s {
  comment = is_comment (out_in_body s c);
  kept = cond (is_some (out_in_body s c)) s.kept (but_first s.kept);
}

abbrev pub past_shown : Reached → ℕ → Reached
past_shown s c =
    let place = saturating_next_place s.place c in
    record (cond (nat_lt 0 s.heads) (past_head s) (past_body s c)) { place = place; findings = from_here place s.findings }

abbrev pub past : Reached → ℕ → Reached
past s c = record (cond (is_silent s c) s (past_shown s (read_as c))) { previous = c; byte = s.byte + len_utf8 c }

-- before an input: its headers have `heads` characters, the kept text of its body is `kept`, and
-- `findings` are its findings
abbrev pub begun : ℕ → List ℕ → List Finding → Reached
begun heads kept findings = record { previous = 0; byte = 0; place = start; heads = heads; comment = heads == 0; kept = kept; findings = from_here start findings }

-- ---- the nodes

abbrev pub nodes_by : Option (Kind × ℕ) → ℕ → ℕ → List Node
nodes_by None from to = []
nodes_by (Some out) from to = leaf out.0 out.1 from to ∷ []

abbrev pub nodes_of : Reached → ℕ → List Node
nodes_of s c = nodes_by (out_of s c) s.byte (s.byte + len_utf8 c)

-- of the characters from here on, each that is not kept
abbrev pub nodes_from : Reached → List ℕ → List Node
nodes_from s [] = []
nodes_from s (c ∷ cs) = nodes_of s c ++ nodes_from (past s c) cs

-- comments, and further blanks, that follow one another are one
abbrev pub is_run : Kind → Bool
is_run k = (number_of k == number_of Comment) || (number_of k == number_of FurtherBlank)

abbrev pub joins : Kind → Kind → Bool
joins kind next = is_run kind && (number_of kind == number_of next)

abbrev pub joined_to : Node → List Node → List Node
joined_to n [] = n ∷ []
joined_to n (m ∷ ms) = cond (joins n.kind m.kind && (n.end == m.begin)) (record n { end = m.end } ∷ ms) (n ∷ m ∷ ms)

abbrev pub joined : List Node → List Node
joined [] = []
joined (n ∷ ns) = joined_to n (joined ns)

-- what is not kept of these characters of an input
abbrev pub not_kept : ℕ → List ℕ → List Finding → List ℕ → List Node
not_kept heads kept findings cs = joined (nodes_from (begun heads kept findings) cs)
