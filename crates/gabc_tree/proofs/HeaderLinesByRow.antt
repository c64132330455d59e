-- The nodes of the lines of the headers are made a line at a time.
use Rattle.std.proofs.Common.{if◌then◌else◌, ◌≡◌, ℕ, ◌+◌, ◌-◌, ◌<◌, ◌≤◌, nat_lt, List, [], ◌∷◌, ◌++◌, Bool, true, false, Option, Some, None, refl, sym, ap, ◌∙◌, subst, length, length-drop, take, drop, append-nil, append_assoc, arith}
use Rattle.std.proofs.lemmas.Bool.{ltb-true, ltb-false}
use Rattle.std.proofs.Math.ListN.{drop_of_length-le}
use Rattle.std.proofs.lemmas.List.{drop-drop}
use Rattle.gabc_places.specs.declared.code.Code.{Code}
use Rattle.gabc_places.specs.declared.code.Finding.{Finding}
use Rattle.gabc_places.specs.declared.place.Span.{Span}
use Rattle.gabc_headers.specs.Lines.{lines, is_blank, is_bare, has_mark, before_mark, has_colon, before_colon, after_colon, trim_end}
use Rattle.gabc_nodes.specs.declared.node.Node.{Node}
use Rattle.gabc_tree.specs.declared.header_lines.Header.{Header}
use Rattle.gabc_tree.specs.HeaderLines.{span_of, name_span, ended_at, header_at, line_nodes, left_open, found_at, found_after, nodes_of, open_after, nodes_from}
use Rattle.gabc_tree.specs.machine.HeaderLines.{is_last, first_mark, first_colon, row_of, IsOpen}
use Rattle.gabc_tree.proofs.LinesByBytes.{kept_within, row_within, before_is, after_is, colon_at, mark_at, mark_none, colon_within}

-- ---- a line with a `:`

pub header_is : (found : Option Code) (at : ℕ) (row : List ℕ) (colon : ℕ) (name : Span) → first_colon row ≡ Some colon → name ≡ span_of at (trim_end (is_last false) (take colon row))
    → record { found = found; name = name; value = at + colon + 1 } ≡ header_at found at row
header_is found at row colon name e f =
    let p = colon_at row colon e in
    let front : take colon row ≡ before_colon row = ap (λ (n : ℕ). take n row) (sym p.1) ∙ before_is row p.0 in
    let same : name ≡ name_span at (before_colon row) = f ∙ ap (λ (s : List ℕ). span_of at (trim_end is_blank s)) front in
    header_of same (ap (λ (n : ℕ). at + n + 1) (sym p.1))
  where
    header_of : name ≡ name_span at (before_colon row) → at + colon + 1 ≡ at + length (before_colon row) + 1 → record { found = found; name = name; value = at + colon + 1 } ≡ header_at found at row
    header_of a b = cc

rest_is : (row : List ℕ) (colon : ℕ) → first_colon row ≡ Some colon → drop (colon + 1) row ≡ after_colon row
rest_is row colon e = let p = colon_at row colon e in ap (λ (n : ℕ). drop (n + 1) row) (sym p.1) ∙ after_is row p.0

module _ (text : List ℕ) (found : Option Code) (at : ℕ) (row : List ℕ) (colon : ℕ) (seen : is_bare row ≡ false) (e : first_colon row ≡ Some colon) where
  pub line_ends : (mark : ℕ) → first_mark 1 (drop (colon + 1) row) ≡ Some mark
      → (line_nodes text found at row ≡ ended_at text (header_at found at row) at row (colon + 1 + mark)) × (left_open found at row ≡ None)
  line_ends mark f =
      let p = colon_at row colon e in
      let q = mark_at 1 (after_colon row) mark (ap (first_mark 1) (sym (rest_is row colon e)) ∙ f) in
      let place : length (before_colon row) + 1 + length (before_mark 1 (after_colon row)) ≡ colon + 1 + mark = omega (arith, p.1, q.1) in
      let nodes : line_nodes text found at row ≡ ended_at text (header_at found at row) at row (length (before_colon row) + 1 + length (before_mark 1 (after_colon row))) = rw (seen, p.0, q.0) refl in
      (nodes ∙ ap (ended_at text (header_at found at row) at row) place, rw (seen, p.0, q.0) refl)

  pub line_opens : first_mark 1 (drop (colon + 1) row) ≡ None → (line_nodes text found at row ≡ []) × (left_open found at row ≡ Some (header_at found at row))
  line_opens f =
      let p = colon_at row colon e in
      let q = mark_none 1 (after_colon row) (ap (first_mark 1) (sym (rest_is row colon e)) ∙ f) in
      (rw (seen, p.0, q) refl, rw (seen, p.0, q) refl)

-- ---- the lines of a text

lines_more : (t : List ℕ) → length (row_of t) < length t → lines t ≡ row_of t ∷ lines (drop (length (row_of t) + 1) t)
lines_more [] h = absurd (omega arith)
lines_more (c ∷ t) h = grind (arith, lines_more t)

lines_one : (t : List ℕ) → length t ≤ length (row_of t) → lines t ≡ row_of t ∷ []
lines_one [] h = refl
lines_one (c ∷ t) h = grind (arith, lines_one t)

-- nothing is made of the line after the last LF
nodes_end : (text : List ℕ) (header : Option Header) (findings : List Finding) (k at : ℕ) → nodes_from text header findings k at ([] ∷ []) ≡ []
nodes_end text None findings k at = refl
nodes_end text (Some h) findings k at = refl

-- ---- where an open header begins

span_small : (at : ℕ) (out : ℕ → Bool) (s : List ℕ) → ((span_of at (trim_end out s)).from ≤ at + length s) × ((span_of at (trim_end out s)).to ≤ at + length s)
span_small at out s = let w = kept_within out s in (omega (arith, w), omega (arith, w))

later : (n m : ℕ) (h : Header) → n ≤ m → IsOpen n (Some h) → IsOpen m (Some h)
later n m h l o = (omega (arith, o.0), omega (arith, o.1), omega (arith, o.2))

header_open : (found : Option Code) (at : ℕ) (l : List ℕ) → has_colon l ≡ true → IsOpen (at + length l + 1) (Some (header_at found at l))
header_open found at l e =
    let w = colon_within l e in
    let s = span_small at is_blank (before_colon l) in
    (omega (arith, s.0, w), omega (arith, s.1, w), omega (arith, w))

open_on : (header : Option Header) (found : Option Code) (at : ℕ) (l : List ℕ) → IsOpen at header → IsOpen (at + length l + 1) (open_after header found at l)
open_on None found at l o = by (is_bare l) (has_colon l) (has_mark 1 (after_colon l)) refl
  where
    by : (a b c : Bool) → has_colon l ≡ b → IsOpen (at + length l + 1) (if a then None else (if b then (if c then None else Some (header_at found at l)) else None))
    by true b c e = tt
    by false false c e = tt
    by false true true e = tt
    by false true false e = header_open found at l e
open_on (Some h) found at l o = by (has_mark 2 l)
  where
    by : (b : Bool) → IsOpen (at + length l + 1) (if b then None else Some h)
    by true = tt
    by false = later at (at + length l + 1) h (omega arith) o

-- ---- the walk over the lines

-- the nodes `out` and those of the lines from the byte `at` on are all
pub record Lined (text : List ℕ) (all out : List Node) (header : Option Header) (findings : List Finding) (k at : ℕ) : Type 0 where
  pub reach : at ≤ length text + 1
  pub count : k ≤ at + 1
  pub begins : IsOpen at header
  pub nodes : out ++ nodes_from text header findings k at (lines (drop at text)) ≡ all

module _ (text : List ℕ) (all out more : List Node) (header next : Option Header) (findings : List Finding) (k at : ℕ) (row : List ℕ) where
  abbrev found : Option Code
  found = found_at k findings

  pub lined_on : at < length text → Lined text all out header findings k at → row ≡ row_of (drop at text)
      → next ≡ open_after header found at row → more ≡ out ++ nodes_of text header found at row
      → Lined text all more next (found_after k findings) (k + 1) (at + length row + 1)
  lined_on h w r o m =
      let small : length row ≤ length text - at = omega (arith, ap (length {A = ℕ}) r, row_within (drop at text), length-drop at text) in
      let count = w.count in
      record {
        reach = omega (arith, small);
        count = omega (arith, count);
        begins = subst (IsOpen (at + length row + 1)) (sym o) (open_on header found at row w.begins);
        nodes = by (nat_lt (length row) (length text - at)) refl;
      }
    where
      t : List ℕ
      t = drop at text

      made : List Node
      made = nodes_of text header found at row

      back : List ℕ
      back = drop (at + length row + 1) text

      now : List (List ℕ) → List Node
      now ls = nodes_from text (open_after header found at row) (found_after k findings) (k + 1) (at + length row + 1) ls

      from_here : (ls : List (List ℕ)) → lines t ≡ ls → out ++ nodes_from text header findings k at ls ≡ all
      from_here ls e = ap (λ (x : List (List ℕ)). out ++ nodes_from text header findings k at x) (sym e) ∙ w.nodes

      by : (b : Bool) → nat_lt (length row) (length text - at) ≡ b → more ++ nodes_from text next (found_after k findings) (k + 1) (at + length row + 1) (lines back) ≡ all
      by true e =
          let short : length row < length text - at = ltb-true _ _ e in
          let rows : length row ≡ length (row_of t) = ap (length {A = ℕ}) r in
          let count : at + (length row + 1) ≡ at + length row + 1 = omega arith in
          let rest : drop (length row + 1) t ≡ back = drop-drop (length row + 1) at text ∙ ap (λ (n : ℕ). drop n text) count in
          let cut : lines t ≡ row ∷ lines back =
          lines_more t (omega (arith, rows, short, length-drop at text))
          ∙ ap (λ (x : List ℕ). x ∷ lines (drop (length x + 1) t)) (sym r) ∙ ap (λ (x : List ℕ). row ∷ lines x) rest in
          ap (λ (x : Option Header). more ++ nodes_from text x (found_after k findings) (k + 1) (at + length row + 1) (lines back)) o
          ∙ ap (λ (ns : List Node). ns ++ now (lines back)) m ∙ append_assoc out made (now (lines back)) ∙ from_here (row ∷ lines back) cut
      by false e =
          let long : length text - at ≤ length row = ltb-false _ _ e in
          let rows : length row ≡ length (row_of t) = ap (length {A = ℕ}) r in
          let one : lines t ≡ row ∷ [] = lines_one t (omega (arith, rows, long, length-drop at text)) ∙ ap (λ (x : List ℕ). x ∷ []) (sym r) in
          let none : back ≡ [] = drop_of_length-le text (omega arith) in
          ap (λ (x : List ℕ). more ++ nodes_from text next (found_after k findings) (k + 1) (at + length row + 1) (lines x)) none
          ∙ ap (λ (ns : List Node). more ++ ns) (nodes_end text next (found_after k findings) (k + 1) (at + length row + 1))
          ∙ append-nil more ∙ m ∙ ap (λ (ns : List Node). out ++ ns) (sym (append-nil made)) ∙ from_here (row ∷ []) one
