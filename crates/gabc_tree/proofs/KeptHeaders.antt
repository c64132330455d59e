-- The nodes of the headers are nodes of kept bytes.
use Rattle.std.proofs.Common.{◌≡◌, ◌≤◌, ◌<◌, ℕ, ◌+◌, Bool, true, false, nat_lt, List, [], ◌∷◌, length, None, refl, arith}
use Rattle.std.proofs.lemmas.Bool.{ltb-true, ltb-false}
use Rattle.gabc_places.specs.declared.code.Finding.{Finding}
use Rattle.gabc_places.specs.declared.place.Span.{Span}
use Rattle.gabc_headers.specs.Lines.{lines, trim_end, ends_no_value}
use Rattle.std.specs.Prelude.{slice_range}
use Rattle.gabc_nodes.specs.declared.kind.Kind.{Kind}
use Rattle.gabc_nodes.specs.declared.kind.Kind.TheVariants as kind
use Rattle.gabc_nodes.specs.declared.node.Node.{Node}
use Rattle.gabc_tree.specs.HeaderLines.{part, span, value_span, header_with, header_line_nodes}
use Rattle.gabc_tree.specs.Placed.{offset, is_snippet}
use Rattle.gabc_tree.specs.declared.header_lines.Header.{Header}
use Rattle.gabc_tree.proofs.KeptNodes as kept
use Rattle.gabc_tree.proofs.KeptNodes.{AreKept, none, empty, kept_order, kept_sooner, kept_both}
use Rattle.gabc_tree.proofs.NestedHeaders.{IsForm, IsPlaced, lines_in, lines_total, span_order, value_in}

-- one node that holds none, whether it has bytes or not
one_kept : (last from to : ℕ) (k : Kind) (a : ℕ) (s : Span) → is_snippet k ≡ false → from ≤ s.from → s.from ≤ s.to → s.to ≤ to → s.to < 4294967295 → s.from + 1 ≤ last
    → AreKept last from to (part k a s ∷ [])
one_kept last from to k a s is b o e small w = by (nat_lt s.from s.to) refl
  where
    by : (c : Bool) → nat_lt s.from s.to ≡ c → AreKept last from to (part k a s ∷ [])
    by true f = let l = ltb-true s.from s.to f in kept.part {n = part k a s} {inside = []} {after = []} (omega (arith, b, small, l)) (omega (arith, l, small)) is refl (none (omega (arith, o, small))) (none (omega (arith, e, small)))
    by false f = let l = ltb-false s.from s.to f in empty {n = part k a s} {after = []} (omega (arith, b, o, small)) (omega (arith, o, l, small)) (omega (arith, w, o, small)) is refl (none (omega (arith, e, small)))

module _ (last top : ℕ) (room : top + 1 ≤ last) (small : top < 4294967295) where
  abbrev AreThere : ℕ → ℕ → List Node → Type 0
  AreThere from to ns = to ≤ top → AreKept last from to ns

  -- an offset that is small is the number
  same : (n : ℕ) → offset n ≤ top → offset n ≡ n
  same n h = omega (arith, h, small)

  one_there : (from to : ℕ) (k : Kind) (a : ℕ) (s : Span) → is_snippet k ≡ false → from ≤ s.from → s.from ≤ s.to → s.to ≤ to → AreThere (offset from) (offset to) (part k a s ∷ [])
  one_there from to k a s is b o e h =
      let n = same to h in
      one_kept last (offset from) (offset to) k a s is (omega (arith, b)) o (omega (arith, e, n)) (omega (arith, e, n, h, small)) (omega (arith, o, e, n, h, room))

  whole_there : (text : List ℕ) (h : Header) (mark to a : ℕ) → IsPlaced h → h.value ≤ mark → mark + 1 ≤ to → AreThere (offset h.name.from) (offset to) (header_with text h mark to a)
  whole_there text h mark to a p v m w =
      let n = same to w in
      let s = span_order h.value (trim_end ends_no_value (slice_range text h.value mark)) in
      let e = value_in text h.value mark v in
      let name : AreKept (offset to) (offset h.name.from) (offset h.value) (part kind.HeaderName 0 h.name ∷ []) =
      one_kept (offset to) (offset h.name.from) (offset h.value) kind.HeaderName 0 h.name refl (omega arith) p.0 (omega (arith, p.1, v, m, n, w, small)) (omega (arith, p.1, v, m, n, w, small)) (omega (arith, p.0, p.1, v, m, n)) in
      let value : AreKept (offset to) (offset h.value) (offset to) (part kind.HeaderValue 0 (value_span text h.value mark) ∷ []) =
      one_kept (offset to) (offset h.value) (offset to) kind.HeaderValue 0 (value_span text h.value mark) refl (omega (arith, s.1)) s.0 (omega (arith, e, m, n)) (omega (arith, e, m, n, w, small)) (omega (arith, s.0, e, m, n)) in
      kept.part {n = record (part kind.Header a (span h.name.from to)) { inner = 2 }} {inside = part kind.HeaderName 0 h.name ∷ part kind.HeaderValue 0 (value_span text h.value mark) ∷ []} {after = []}
      (omega arith) (omega (arith, p.0, p.1, v, m, n, w, small)) refl refl (kept_both (offset to) (offset h.name.from) (offset h.value) (offset to) (part kind.HeaderName 0 h.name ∷ []) (part kind.HeaderValue 0 (value_span text h.value mark) ∷ []) name value) (none (omega arith))

  kept_form : IsForm AreThere
  kept_form = record {
    none = λ from to h w. none (omega (arith, h));
    sooner = λ from at to ns h x w. kept_sooner last from at to ns h (x w);
    both = λ from mid to ms ns x y w. let later = y w in let order = kept_order last mid to ns later in kept_both last from mid to ms ns (x (omega (arith, order, w))) later;
    one = one_there;
    whole = whole_there;
  }

  pub headers_kept : (text : List ℕ) (findings : List Finding) → length text ≤ top → AreKept last 0 (offset (length text)) (header_line_nodes text findings)
  headers_kept text findings h = lines_in AreThere kept_form text None findings 1 0 0 (length text) (lines text) (omega arith) (omega (arith, lines_total text)) (omega arith) (omega (arith, h))
