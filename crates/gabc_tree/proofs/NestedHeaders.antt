-- The nodes of the lines of the headers lie in one another.
use Rattle.std.proofs.Common.{◌≡◌, ◌≤◌, ℕ, suc, ◌+◌, ◌-◌, ◌++◌, ◌==◌, Bool, true, false, cond, if◌then◌else◌, List, [], ◌∷◌, length, length-take, length-drop, drop, slice_range, position, Option, Some, None, refl, sym, ap, subst, append_assoc, ◌∙◌, ◌&&◌, ◌||◌, nat_le, arith}
use Rattle.std.proofs.lemmas.Bool.{and_parts, eqb-true}
use Rattle.std.proofs.lemmas.List.{drop-drop}
use Rattle.gabc_places.specs.declared.code.Code.{Code}
use Rattle.gabc_places.specs.declared.code.Code.TheVariants.{E4, E5}
use Rattle.gabc_places.specs.declared.code.Finding.{Finding}
use Rattle.gabc_places.specs.declared.place.Span.{Span}
use Rattle.gabc_headers.specs.Lines.{is_mark, lines, on_first, lines_len, is_blank, ends_no_value, is_bare, has_mark, before_mark, has_colon, before_colon, after_colon, trim_end}
use Rattle.gabc_nodes.specs.declared.kind.Kind.{Kind}
use Rattle.gabc_nodes.specs.declared.kind.Kind.TheVariants as kind
use Rattle.gabc_nodes.specs.declared.node.Node.{Node}
use Rattle.gabc_tree.specs.declared.header_lines.Header.{Header}
use Rattle.gabc_tree.specs.Nested.{AreNested, over, node}
use Rattle.gabc_tree.specs.Placed.{offset, is_snippet}
use Rattle.gabc_tree.specs.HeaderLines.{part, span, span_of, name_span, value_span, semicolons, comment_by, comment_of, header_with, header_by, ended_at, header_at, line_nodes, left_open, nodes_below, open_below, found_at, found_after, nodes_of, open_after, nodes_from, header_line_nodes}
use Rattle.gabc_tree.proofs.LinesByBytes.{kept_within, colon_within, after_is, mark_within, semicolons_within}

-- ---- nodes one after the other

pub sooner : (from at to : ℕ) (ns : List Node) → from ≤ at → AreNested at to ns → AreNested from to ns
sooner from at to ns h (over g) = over (omega arith)
sooner from at to ns h (node {n} {inside} {after} b s i a) = node {n = n} {inside = inside} {after = after} (omega (arith, b)) s i a

pub both : (from mid to : ℕ) (ms ns : List Node) → AreNested from mid ms → AreNested mid to ns → AreNested from to (ms ++ ns)
both from mid to ms ns (over g) b = sooner from mid to ns g b
both from mid to ms ns (node {n} {inside} {after} f s i a) b =
    subst (AreNested from to) (ap (λ (x : List Node). n ∷ x) (sym (append_assoc inside after ns)))
    (node {n = n} {inside = inside} {after = after ++ ns} f s i (both n.end mid to after ns a b))

up : (n m : ℕ) → n ≤ m → offset n ≤ offset m
up n m h = omega arith

-- ---- spans

pub span_order : (at : ℕ) (kept : List ℕ) → ((span_of at kept).from ≤ (span_of at kept).to) × (at ≤ (span_of at kept).from)
span_order at kept = (omega arith, omega arith)

name_in : (at : ℕ) (s : List ℕ) → (name_span at s).to ≤ at + length s
name_in at s = omega (arith, kept_within is_blank s)

pub value_in : (text : List ℕ) (from mark : ℕ) → from ≤ mark → (value_span text from mark).to ≤ mark
value_in text from mark h =
    omega (arith, kept_within ends_no_value (slice_range text from mark), length-take (mark - from) (drop from text))

place_in : (p : ℕ → Bool) (l : List ℕ) (n : ℕ) → position p l ≡ Some n → n ≤ length l
place_in p l n e = grind arith

-- where a header stands: its name before its value
abbrev pub IsPlaced : Header → Type 0
IsPlaced h = (h.name.from ≤ h.name.to) × (h.name.to ≤ h.value)

-- ---- forms of nodes

-- What nodes of headers may be said to be, between two bytes: no nodes, one that holds none, a
-- header with its name and its value, and nodes one after the other.
pub record IsForm (R : ℕ → ℕ → List Node → Type 0) : Type 0 where
  pub none : (from to : ℕ) → from ≤ to → R (offset from) (offset to) []
  pub sooner : (from at to : ℕ) (ns : List Node) → from ≤ at → R at to ns → R from to ns
  pub both : (from mid to : ℕ) (ms ns : List Node) → R from mid ms → R mid to ns → R from to (ms ++ ns)
  pub one : (from to : ℕ) (k : Kind) (a : ℕ) (s : Span) → is_snippet k ≡ false → from ≤ s.from → s.from ≤ s.to → s.to ≤ to → R (offset from) (offset to) (part k a s ∷ [])
  pub whole : (text : List ℕ) (h : Header) (mark to a : ℕ) → IsPlaced h → h.value ≤ mark → mark + 1 ≤ to → R (offset h.name.from) (offset to) (header_with text h mark to a)

-- a mark begins with a `;`
semicolon_at : (n : ℕ) (l : List ℕ) → has_mark n l ≡ true → 1 ≤ semicolons (drop (length (before_mark n l)) l)
semicolon_at n [] h = absurd (cc)
semicolon_at n (c ∷ l) h = by (is_mark n (c ∷ l)) refl (semicolon_at n l)
  where
    by : (o : Bool) → is_mark n (c ∷ l) ≡ o → (has_mark n l ≡ true → 1 ≤ semicolons (drop (length (before_mark n l)) l)) → 1 ≤ semicolons (drop (length (cond o [] (c ∷ before_mark n l))) (c ∷ l))
    by true e later = let f = eqb-true c 59 (and_parts (c == 59) ((nat_le n 1 && is_bare l) || is_mark (n - 1) l) e).0 in subst (λ (d : ℕ). 1 ≤ semicolons (d ∷ l)) (sym f) (omega arith)
    by false e later = later (ap (λ (o : Bool). o || has_mark n l) (sym e) ∙ h)

marks : (n : ℕ) (rest l : List ℕ) (k : ℕ) → rest ≡ drop k l → has_mark n rest ≡ true → 1 ≤ semicolons (drop (k + length (before_mark n rest)) l)
marks n rest l k e h =
    subst (λ (u : List ℕ). 1 ≤ semicolons u) (ap (λ (v : List ℕ). drop (length (before_mark n rest)) v) e ∙ drop-drop (length (before_mark n rest)) k l) (semicolon_at n rest h)

module _ (R : ℕ → ℕ → List Node → Type 0) (form : IsForm R) where
  -- ---- a line

  comment_in : (at from : ℕ) (l : List ℕ) → from ≤ length l → R (offset (at + from)) (offset (at + length l)) (comment_of at from l)
  comment_in at from l h = by (position (λ c. c == 37) (drop from l)) refl
    where
      by : (o : Option ℕ) → position (λ c. c == 37) (drop from l) ≡ o → R (offset (at + from)) (offset (at + length l)) (comment_by at from l o)
      by None e = form.none (at + from) (at + length l) (omega arith)
      by (Some n) e =
          let w = place_in (λ c. c == 37) (drop from l) n e in
          let d = length-drop from l in
          form.one (at + from) (at + length l) kind.HeaderComment 0 (span (at + from + n) (at + length l)) refl (omega arith) (omega (arith, w, d)) (omega arith)

  header_in : (text : List ℕ) (h : Header) (mark to : ℕ) (o : Option Code) → IsPlaced h → h.value ≤ mark → mark + 1 ≤ to → R (offset h.name.from) (offset to) (header_by text h mark to o)
  header_in text h mark to None p v m = form.whole text h mark to 0 p v m
  header_in text h mark to (Some E4) p v m = form.one h.name.from to kind.HeaderLeftOut 104 (span h.name.from to) refl (omega arith) (omega (arith, p.0, p.1)) (omega arith)
  header_in text h mark to (Some E5) p v m = form.one h.name.from to kind.HeaderLeftOut 105 (span h.name.from to) refl (omega arith) (omega (arith, p.0, p.1)) (omega arith)
  header_in text h mark to (Some _) p v m = form.whole text h mark to 202 p v m

  ended_in : (text : List ℕ) (h : Header) (at : ℕ) (l : List ℕ) (mark : ℕ) → IsPlaced h → h.value ≤ at + mark → mark ≤ length l → 1 ≤ semicolons (drop mark l)
      → R (offset h.name.from) (offset (at + length l)) (ended_at text h at l mark)
  ended_in text h at l mark p v m least =
      let n : ℕ = mark + semicolons (drop mark l) in
      let w : n ≤ length l = omega (arith, semicolons_within (drop mark l), length-drop mark l) in
      form.both (offset h.name.from) (offset (at + n)) (offset (at + length l)) (header_by text h (at + mark) (at + n) h.found) (comment_of at n l)
      (header_in text h (at + mark) (at + n) h.found p v (omega (arith, least))) (comment_in at n l w)

  header_placed : (found : Option Code) (at : ℕ) (l : List ℕ) → IsPlaced (header_at found at l)
  header_placed found at l =
      let s = span_order at (trim_end is_blank (before_colon l)) in
      (s.0, omega (arith, name_in at (before_colon l)))

  -- ---- the lines

  -- what was made ends before the header that is open, or before the line
  abbrev pub IsAhead : ℕ → ℕ → Option Header → Type 0
  IsAhead from at None = from ≤ at
  IsAhead from at (Some h) = IsPlaced h × (h.value ≤ at) × (from ≤ h.name.from)

  -- after the line
  record Past (from at : ℕ) (l : List ℕ) (nodes : List Node) (next : Option Header) : Type 0 where
    mid : ℕ
    nested : R (offset from) (offset mid) nodes
    ahead : IsAhead mid (at + length l + 1) next
    within : mid ≤ at + length l

  first_past : (text : List ℕ) (found : Option Code) (at : ℕ) (l : List ℕ) (from : ℕ) → from ≤ at → Past from at l (line_nodes text found at l) (left_open found at l)
  first_past text found at l from f = by (is_bare l) (has_colon l) (has_mark 1 (after_colon l)) refl refl
    where
      h : Header
      h = header_at found at l

      m : ℕ
      m = length (before_colon l) + 1 + length (before_mark 1 (after_colon l))

      begins : from ≤ h.name.from
      begins = omega (arith, (span_order at (trim_end is_blank (before_colon l))).1)

      marked : has_colon l ≡ true → has_mark 1 (after_colon l) ≡ true → m ≤ length l
      marked b c = omega (arith, mark_within 1 (after_colon l) c, ap (length {A = ℕ}) (after_is l b), length-drop (length (before_colon l) + 1) l, colon_within l b)

      by : (a b c : Bool) → has_colon l ≡ b → has_mark 1 (after_colon l) ≡ c
          → Past from at l (if a then comment_of at 0 l else (if b then (if c then ended_at text h at l m else []) else part kind.HeaderLeftOut 104 (name_span at l) ∷ []))
          (if a then None else (if b then (if c then None else Some h) else None))
      by true b c e g = record {
        mid = at + length l;
        nested = form.sooner (offset from) (offset (at + 0)) (offset (at + length l)) (comment_of at 0 l) (up from (at + 0) (omega arith)) (comment_in at 0 l (omega arith));
        ahead = omega arith;
        within = omega arith;
      }
      by false true true e g = record {
        mid = at + length l;
        nested = form.sooner (offset from) (offset h.name.from) (offset (at + length l)) (ended_at text h at l m) (up from h.name.from begins)
            (ended_in text h at l m (header_placed found at l) (omega arith) (marked e g) (marks 1 (after_colon l) l (length (before_colon l) + 1) (sym (after_is l e)) g));
        ahead = omega arith;
        within = omega arith;
      }
      by false true false e g = record {
        mid = from;
        nested = form.none from from (omega arith);
        ahead = (header_placed found at l, omega (arith, colon_within l e), begins);
        within = omega arith;
      }
      by false false c e g =
          let s = span_order at (trim_end is_blank l) in
          record {
            mid = at + length l;
            nested = form.one from (at + length l) kind.HeaderLeftOut 104 (name_span at l) refl (omega (arith, s.1)) s.0 (name_in at l);
            ahead = omega arith;
            within = omega arith;
          }

  below_past : (text : List ℕ) (h : Header) (at : ℕ) (l : List ℕ) (from : ℕ) → IsAhead from at (Some h) → Past from at l (nodes_below text h at l) (open_below h l)
  below_past text h at l from f = by (has_mark 2 l) refl
    where
      by : (b : Bool) → has_mark 2 l ≡ b → Past from at l (if b then ended_at text h at l (length (before_mark 2 l)) else []) (if b then None else Some h)
      by true e = record {
        mid = at + length l;
        nested = form.sooner (offset from) (offset h.name.from) (offset (at + length l)) (ended_at text h at l (length (before_mark 2 l))) (up from h.name.from f.2)
            (ended_in text h at l (length (before_mark 2 l)) f.0 (omega (arith, f.1)) (omega (arith, mark_within 2 l e)) (semicolon_at 2 l e));
        ahead = omega arith;
        within = omega arith;
      }
      by false e = record {
        mid = from;
        nested = form.none from from (omega arith);
        ahead = (f.0, omega (arith, f.1), f.2);
        within = omega (arith, f.0.0, f.0.1, f.1, f.2);
      }

  line_past : (text : List ℕ) (header : Option Header) (found : Option Code) (at : ℕ) (l : List ℕ) (from : ℕ) → IsAhead from at header
      → Past from at l (nodes_of text header found at l) (open_after header found at l)
  line_past text None found at l from f = first_past text found at l from f
  line_past text (Some h) found at l from f = below_past text h at l from f

  pub lines_in : (text : List ℕ) (header : Option Header) (findings : List Finding) (k at from to : ℕ) (ls : List (List ℕ)) → IsAhead from at header → at + lines_len ls ≤ to + 1 → from ≤ to
      → R (offset from) (offset to) (nodes_from text header findings k at ls)
  lines_in text header findings k at from to [] f h g = form.none from to g
  lines_in text header findings k at from to (l ∷ ls) f h g =
      let found : Option Code = found_at k findings in
      let p = line_past text header found at l from f in
      let w = p.within in
      form.both (offset from) (offset p.mid) (offset to) (nodes_of text header found at l) (nodes_from text (open_after header found at l) (found_after k findings) (k + 1) (at + length l + 1) ls) p.nested
      (lines_in text (open_after header found at l) (found_after k findings) (k + 1) (at + length l + 1) p.mid to ls p.ahead (omega arith) (omega (arith, w)))

total_on : (c n : ℕ) (ls : List (List ℕ)) → lines_len ls ≡ n + 1 → lines_len (on_first c ls) ≡ suc n + 1
total_on c n [] e = absurd (omega (arith, e))
total_on c n (l ∷ ls) e = omega (arith, e)

pub lines_total : (t : List ℕ) → lines_len (lines t) ≡ length t + 1
lines_total [] = omega arith
lines_total (c ∷ t) = by (c == 10) (lines_total t)
  where
    by : (b : Bool) → lines_len (lines t) ≡ length t + 1 → lines_len (cond b ([] ∷ lines t) (on_first c (lines t))) ≡ suc (length t) + 1
    by true e = omega (arith, e)
    by false e = total_on c (length t) (lines t) e

-- ---- they lie in one another

one : (from to : ℕ) (k : Kind) (a : ℕ) (s : Span) → from ≤ s.from → s.from ≤ s.to → s.to ≤ to → AreNested (offset from) (offset to) (part k a s ∷ [])
one from to k a s b o e = node {n = part k a s} {inside = []} {after = []} (up from s.from b) refl (over (up s.from s.to o)) (over (up s.to to e))

with_nested : (text : List ℕ) (h : Header) (mark to a : ℕ) → IsPlaced h → h.value ≤ mark → mark ≤ to → AreNested (offset h.name.from) (offset to) (header_with text h mark to a)
with_nested text h mark to a p v m =
    let s = span_order h.value (trim_end ends_no_value (slice_range text h.value mark)) in
    let w = value_in text h.value mark v in
    let name : AreNested (offset h.name.from) (offset h.value) (part kind.HeaderName 0 h.name ∷ []) = one h.name.from h.value kind.HeaderName 0 h.name (omega arith) p.0 p.1 in
    let value : AreNested (offset h.value) (offset to) (part kind.HeaderValue 0 (value_span text h.value mark) ∷ []) =
    one h.value to kind.HeaderValue 0 (value_span text h.value mark) s.1 s.0 (omega (arith, w)) in
    node {n = record (part kind.Header a (span h.name.from to)) { inner = 2 }} {inside = part kind.HeaderName 0 h.name ∷ part kind.HeaderValue 0 (value_span text h.value mark) ∷ []} {after = []}
    (omega arith) refl (both (offset h.name.from) (offset h.value) (offset to) _ _ name value) (over (omega arith))

nested_form : IsForm AreNested
nested_form = record {
  none = λ from to h. over (up from to h);
  sooner = sooner;
  both = both;
  one = λ from to k a s is b o e. one from to k a s b o e;
  whole = λ text h mark to a p v m. with_nested text h mark to a p v (omega (arith, m));
}

pub headers_nested : (text : List ℕ) (findings : List Finding) → AreNested 0 (offset (length text)) (header_line_nodes text findings)
headers_nested text findings = lines_in AreNested nested_form text None findings 1 0 0 (length text) (lines text) (omega arith) (omega (arith, lines_total text)) (omega arith)
