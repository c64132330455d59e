-- The nodes of syllables are nodes of kept bytes.
use Rattle.std.proofs.Common.{◌≡◌, ◌≤◌, ℕ, suc, ◌+◌, ◌-◌, Bool, true, false, cond, nat_lt, ◌&&◌, ◌==◌, List, [], ◌∷◌, ◌++◌, map, length, length-append, refl, sym, ap, subst, ◌∙◌, append-nil, arith, IsUtf8}
use Rattle.std.proofs.lemmas.Bool.{ltb-true, and_parts}
use Rattle.gabc_places.specs.declared.place.Span.{Span}
use Rattle.gabc_neumes.specs.InForce.{InForce}
use Rattle.gabc_body.specs.Syllable.{PlacedSyllable, text_at}
use Rattle.gabc_body.specs.declared.snippets.Snippet.{Snippet}
use Rattle.gabc_nodes.specs.declared.node.Node.{Node}
use Rattle.gabc_tree.specs.NabcNodes.{nabc_nodes}
use Rattle.gabc_tree.specs.NoteNodes.{gabc_nodes}
use Rattle.gabc_tree.specs.Placed.{offset, moved}
use Rattle.gabc_tree.specs.SyllableNodes.{snippet_node, items_nodes, snippet_nodes, force_past, notes_nodes, text_len, has_notes, force_at, force_past_syllable, syllable_node, inside_nodes, syllable_nodes}
use Rattle.gabc_tree.specs.TextNodes.{text_nodes}
use Rattle.gabc_tree.specs.Tree.{body_nodes, body_end}
use Rattle.gabc_tree.proofs.KeptNodes.{AreKept, none, part, empty, notes, kept_order, kept_both}
use Rattle.gabc_tree.proofs.NestedNabc.{nabc_is_kept}
use Rattle.gabc_tree.proofs.NestedNotes.{notes_are_kept}
use Rattle.gabc_tree.proofs.NestedTexts.{text_kept}
use Rattle.gabc_tree.proofs.syllables.TextsOfSpans.{text_utf8}

-- ---- wider, and moved

kept_wider : (last from to more : ℕ) (nodes : List Node) → to ≤ more → AreKept last from to nodes → AreKept last from more nodes
kept_wider last from to more nodes h k = subst (AreKept last from more) (append-nil nodes) (kept_both last from to more nodes [] k (none h))

map_both : (base : ℕ) (ms ns : List Node) → map (moved base) (ms ++ ns) ≡ map (moved base) ms ++ map (moved base) ns
map_both base [] ns = refl
map_both base (m ∷ ms) ns = ap (λ (u : List Node). moved base m ∷ u) (map_both base ms ns)

map_length : (base : ℕ) (ns : List Node) → length (map (moved base) ns) ≡ length ns
map_length base [] = refl
map_length base (n ∷ ns) = ap suc (map_length base ns)

-- an offset that is none's last is the number
small : (n : ℕ) → n ≤ 4294967295 → n ≡ offset n
small n h = omega arith

-- where a node of a text stands in what is kept
record Stands (base : ℕ) (n : Node) : Type 0 where
  begin_is : (moved base n).begin ≡ base + n.begin
  end_is : (moved base n).end ≡ base + n.end

node_stands : (base : ℕ) (n : Node) → base + n.begin ≤ 4294967295 → base + n.end ≤ 4294967295 → Stands base n
node_stands base n h i = record { begin_is = sym (small (base + n.begin) h); end_is = sym (small (base + n.end) i) }

pub moved_kept : (base last from to : ℕ) (nodes : List Node) → base + to ≤ 4294967295 → AreKept last from to nodes → AreKept (base + last) (base + from) (base + to) (map (moved base) nodes)
moved_kept base last from to nodes h (none g) = none (omega (arith, g))
moved_kept base last from to nodes h (part {n} {inside} {after} b w s c i a) =
    let e = kept_order last n.end to after a in
    let p = node_stands base n (omega (arith, w, e, h)) (omega (arith, e, h)) in
    let begin_is = p.begin_is in
    let end_is = p.end_is in
    subst (λ (ns : List Node). AreKept (base + last) (base + from) (base + to) (moved base n ∷ ns)) (sym (map_both base inside after))
    (part {n = moved base n} {inside = map (moved base) inside} {after = map (moved base) after} (omega (arith, b, begin_is)) (omega (arith, w, begin_is, end_is)) s (map_length base inside ∙ c)
    (subst (λ (x : ℕ). AreKept x (moved base n).begin x (map (moved base) inside)) (sym end_is)
    (subst (λ (x : ℕ). AreKept (base + n.end) x (base + n.end) (map (moved base) inside)) (sym begin_is) (moved_kept base n.end n.begin n.end inside (omega (arith, e, h)) i)))
    (subst (λ (x : ℕ). AreKept (base + last) x (base + to) (map (moved base) after)) (sym end_is) (moved_kept base last n.end to after h a)))
moved_kept base last from to nodes h (empty {n} {after} b q w s c a) =
    let e = kept_order last n.end to after a in
    let p = node_stands base n (omega (arith, q, e, h)) (omega (arith, e, h)) in
    let begin_is = p.begin_is in
    let end_is = p.end_is in
    empty {n = moved base n} {after = map (moved base) after} (omega (arith, b, begin_is)) (omega (arith, q, begin_is, end_is)) (omega (arith, w, begin_is)) s c
    (subst (λ (x : ℕ). AreKept (base + last) x (base + to) (map (moved base) after)) (sym end_is) (moved_kept base last n.end to after h a))
moved_kept base last from to nodes h (notes {n} {inside} {after} b w s c i a) =
    let o = kept_order n.end n.begin n.end inside i in
    let p = node_stands base n (omega (arith, o, w, h)) (omega (arith, w, h)) in
    let begin_is = p.begin_is in
    let end_is = p.end_is in
    subst (λ (ns : List Node). AreKept (base + last) (base + from) (base + to) (moved base n ∷ ns)) (sym (map_both base inside after))
    (notes {n = moved base n} {inside = map (moved base) inside} {after = map (moved base) after} (omega (arith, b, begin_is)) (omega (arith, w, end_is)) s (map_length base inside ∙ c)
    (subst (λ (x : ℕ). AreKept x (moved base n).begin x (map (moved base) inside)) (sym end_is)
    (subst (λ (x : ℕ). AreKept (base + n.end) x (base + n.end) (map (moved base) inside)) (sym begin_is) (moved_kept base n.end n.begin n.end inside (omega (arith, w, h)) i)))
    (subst (λ (x : ℕ). AreKept (base + last) x (base + to) (map (moved base) after)) (sym end_is) (moved_kept base last n.end to after h a)))

-- ---- the snippets

-- snippets one after the other, with a mark before each, and after all
abbrev pub InOrder : ℕ → ℕ → List Snippet → Type 0
InOrder len from [] = from + 1 ≤ len
InOrder len from (s ∷ ss) = (from + 1 ≤ s.span.from) × (s.span.from ≤ s.span.to) × InOrder len s.span.to ss

order_ends : (len from : ℕ) (ss : List Snippet) → InOrder len from ss → from + 1 ≤ len
order_ends len from [] h = h
order_ends len from (s ∷ ss) h = let l = order_ends len s.span.to ss h.2 in omega (arith, h.0, h.1, l)

module _ (kept : List ℕ) (utf8 : IsUtf8 kept) (short : length kept ≤ 4294967295) where
  items_kept : (last : ℕ) (force : InForce) (s : Snippet) → s.span.from ≤ s.span.to → s.span.to ≤ length kept → AreKept last s.span.from s.span.to (items_nodes force kept s)
  items_kept last force s o h = by (s.line == 0)
    where
      wide : (nodes : List Node) → AreKept last (offset s.span.from) (offset s.span.from + length (text_at s.span kept)) nodes → AreKept last s.span.from s.span.to nodes
      wide nodes k =
          let is = small s.span.from (omega (arith, o, h, short)) in
          let few = (text_utf8 s.span kept utf8).1 in
          kept_wider last s.span.from (s.span.from + length (text_at s.span kept)) s.span.to nodes (omega (arith, few, o))
          (subst (λ (f : ℕ). AreKept last f (f + length (text_at s.span kept)) nodes) (sym is) k)

      by : (line : Bool) → AreKept last s.span.from s.span.to (cond line (gabc_nodes (offset s.span.from) force (text_at s.span kept)) (nabc_nodes (offset s.span.from) (text_at s.span kept)))
      by true = wide (gabc_nodes (offset s.span.from) force (text_at s.span kept)) (notes_are_kept last (offset s.span.from) force (text_at s.span kept) (text_utf8 s.span kept utf8).0)
      by false = wide (nabc_nodes (offset s.span.from) (text_at s.span kept)) (nabc_is_kept last (offset s.span.from) (text_at s.span kept) (text_utf8 s.span kept utf8).0)

  notes_kept : (last from : ℕ) (force : InForce) (ss : List Snippet) → InOrder (length kept) from ss → length (notes_nodes force kept ss) ≤ 4294967295 → AreKept last from (length kept) (notes_nodes force kept ss)
  notes_kept last from force [] h few = none (omega (arith, h))
  notes_kept last from force (s ∷ ss) h few =
      let items = items_nodes force kept s in
      let rest = notes_nodes (force_past force kept s) kept ss in
      let ends = order_ends (length kept) s.span.to ss h.2 in
      let count : length (snippet_nodes force kept s ++ rest) ≡ suc (length items + length rest) = ap suc (length-append items rest) in
      let n : Node = record (snippet_node s) { inner = offset (length items) } in
      let begin_is : n.begin ≡ s.span.from = sym (small s.span.from (omega (arith, h.1, ends, short))) in
      let end_is : n.end ≡ s.span.to = sym (small s.span.to (omega (arith, ends, short))) in
      notes {n = n} {inside = items} {after = rest} (omega (arith, h.0, begin_is)) (omega (arith, ends, end_is)) refl (small (length items) (omega (arith, count, few)))
      (subst (λ (x : ℕ). AreKept x n.begin x items) (sym end_is) (subst (λ (x : ℕ). AreKept s.span.to x s.span.to items) (sym begin_is) (items_kept s.span.to force s h.1 (omega (arith, ends)))))
      (subst (λ (x : ℕ). AreKept last x (length kept) rest) (sym end_is) (notes_kept last s.span.to (force_past force kept s) ss h.2 (omega (arith, count, few))))

-- ---- a syllable

-- Its kept text is UTF-8 and not empty, and its snippets stand one after the other in it, if it
-- has notes.
pub record IsSound (s : PlacedSyllable) : Type 0 where
  pub utf8 : IsUtf8 s.made.kept
  pub some : 1 ≤ length s.made.kept
  pub notes : has_notes s ≡ true → InOrder (length s.made.kept) (text_len s.made.kept s.made.snippets) s.made.snippets

text_within : (kept : List ℕ) (ss : List Snippet) → text_len kept ss ≤ length kept
text_within kept [] = omega arith
text_within kept (s ∷ ss) = by (nat_lt 0 s.span.from && nat_lt s.span.from (length kept)) refl
  where
    by : (o : Bool) → (nat_lt 0 s.span.from && nat_lt s.span.from (length kept)) ≡ o → cond o (s.span.from - 1) (length kept) ≤ length kept
    by true e = let l = ltb-true s.span.from (length kept) (and_parts (nat_lt 0 s.span.from) (nat_lt s.span.from (length kept)) e).1 in omega (arith, l)
    by false e = omega arith

inside_kept : (last : ℕ) (force : InForce) (s : PlacedSyllable) → IsSound s → length s.made.kept ≤ 4294967295 → length (inside_nodes force s) ≤ 4294967295
    → AreKept last 0 (length s.made.kept) (inside_nodes force s)
inside_kept last force s sound short few =
    let kept = s.made.kept in
    let to : ℕ = text_len kept s.made.snippets in
    let span : Span = record { from = 0; to = to } in
    let texts = text_nodes (text_at span kept) in
    let t = text_utf8 span kept sound.utf8 in
    let few_bytes = t.1 in
    let count = length-append texts (cond (has_notes s) (notes_nodes force kept s.made.snippets) []) in
    kept_both last 0 to (length kept) texts (cond (has_notes s) (notes_nodes force kept s.made.snippets) [])
    (kept_wider last 0 (length (text_at span kept)) to texts (omega (arith, few_bytes)) (text_kept last (text_at span kept) t.0))
    (by (has_notes s) refl (omega (arith, count, few)))
  where
    by : (o : Bool) → has_notes s ≡ o → length (cond o (notes_nodes force s.made.kept s.made.snippets) []) ≤ 4294967295
        → AreKept last (text_len s.made.kept s.made.snippets) (length s.made.kept) (cond o (notes_nodes force s.made.kept s.made.snippets) [])
    by true e f = notes_kept s.made.kept sound.utf8 short last (text_len s.made.kept s.made.snippets) force s.made.snippets (sound.notes e) f
    by false e f = none (text_within s.made.kept s.made.snippets)

syllable_kept : (last : ℕ) (force : InForce) (s : PlacedSyllable) → IsSound s → length s.made.kept ≤ 4294967295 → length (syllable_nodes force s) ≤ 4294967295 → AreKept last 0 (length s.made.kept) (syllable_nodes force s)
syllable_kept last force s sound short few =
    let inside = inside_nodes (force_at force s) s in
    let n : Node = record (syllable_node s) { inner = offset (length inside) } in
    let end_is : n.end ≡ length s.made.kept = sym (small (length s.made.kept) short) in
    let some = sound.some in
    subst (λ (ns : List Node). AreKept last 0 (length s.made.kept) (n ∷ ns)) (append-nil inside)
    (part {n = n} {inside = inside} {after = []} (omega arith) (omega (arith, some, end_is)) refl (small (length inside) (omega (arith, few)))
    (subst (λ (x : ℕ). AreKept x 0 x inside) (sym end_is) (inside_kept (length s.made.kept) (force_at force s) s sound short (omega (arith, few))))
    (none (omega (arith, end_is))))

-- ---- all syllables

abbrev pub AreSound : List PlacedSyllable → Type 0
AreSound [] = Unit {0}
AreSound (s ∷ ss) = IsSound s × AreSound ss

-- how many bytes are kept of them
abbrev pub bytes_of : List PlacedSyllable → ℕ
bytes_of [] = 0
bytes_of (s ∷ ss) = length s.made.kept + bytes_of ss

pub body_end_is : (base : ℕ) (ss : List PlacedSyllable) → base + bytes_of ss ≤ 4294967295 → body_end base ss ≡ base + bytes_of ss
body_end_is base [] short = omega arith
body_end_is base (s ∷ ss) short =
    let size = length s.made.kept in
    let next_is : offset (base + size) ≡ base + size = sym (small (base + size) (omega (arith, short))) in
    let rest = body_end_is (base + size) ss (omega (arith, short)) in
    let all_is : base + size + bytes_of ss ≡ base + (size + bytes_of ss) = omega arith in
    ap (λ (n : ℕ). body_end n ss) next_is ∙ (rest ∙ all_is)

-- `last` is one of their bytes, or later
pub body_kept : (last base : ℕ) (force : InForce) (ss : List PlacedSyllable) → AreSound ss → base + bytes_of ss ≤ 4294967295 → base + bytes_of ss ≤ last → length (body_nodes base force ss) ≤ 4294967295
    → AreKept last base (base + bytes_of ss) (body_nodes base force ss)
body_kept last base force [] sound short room few = none (omega arith)
body_kept last base force (s ∷ ss) sound short room few =
    let size = length s.made.kept in
    let next_is : base + size ≡ offset (base + size) = small (base + size) (omega (arith, short)) in
    let nodes = map (moved base) (syllable_nodes force s) in
    let rest = body_nodes (offset (base + size)) (force_past_syllable force s) ss in
    let count : length (nodes ++ rest) ≡ length nodes + length rest = length-append nodes rest in
    let same = map_length base (syllable_nodes force s) in
    let all_is : base + size + bytes_of ss ≡ base + (size + bytes_of ss) = omega arith in
    let zero_is : base + 0 ≡ base = omega arith in
    let last_is : base + (last - base) ≡ last = omega (arith, room) in
    let first : AreKept last base (base + size) nodes =
    subst (λ (x : ℕ). AreKept last x (base + size) nodes) zero_is (subst (λ (x : ℕ). AreKept x (base + 0) (base + size) nodes) last_is
    (moved_kept base (last - base) 0 size (syllable_nodes force s) (omega (arith, short)) (syllable_kept (last - base) force s sound.0 (omega (arith, short)) (omega (arith, count, same, few))))) in
    kept_both last base (base + size) (base + (size + bytes_of ss)) nodes rest first
    (subst (λ (x : ℕ). AreKept last (base + size) x rest) all_is
    (subst (λ (x : ℕ). AreKept last (base + size) (base + size + bytes_of ss) (body_nodes x (force_past_syllable force s) ss)) next_is
    (body_kept last (base + size) (force_past_syllable force s) ss sound.1 (omega (arith, short)) (omega (arith, room))
    (subst (λ (x : ℕ). length (body_nodes x (force_past_syllable force s) ss) ≤ 4294967295) (sym next_is) (omega (arith, count, few))))))
