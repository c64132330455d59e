-- The nodes of a snippet of NABC lie in one another.
use Rattle.std.proofs.Common.{◌≡◌, ◌≤◌, ℕ, zero, suc, ◌+◌, ◌-◌, ◌++◌, ◌==◌, Bool, true, false, List, [], ◌∷◌, length, drop, length-drop, length-take, Some, None, refl, subst, arith, encode_utf8_all, cond, if◌then◌else◌}
use Rattle.std.specs.Str.{IsUtf8, chars}
use Rattle.std.specs.List.{flat_map, prefix_len}
use Rattle.std.proofs.lemmas.List.Elements.{All-head, All-tail}
use Rattle.gabc_patterns.specs.Reads.{items_by}
use Rattle.gabc_nabc.specs.Parts.{AreWithin, bytes_of, placed_parts, parts_of}
use Rattle.gabc_nabc.specs.Table.{nabc}
use Rattle.gabc_nabc.specs.declared.descriptor.Descriptor.{Descriptor}
use Rattle.gabc_nabc.proofs.parts_of_text.PartsAreTheReading.{parts_lie}
use Rattle.gabc_notes.specs.Notes.{height_of}
use Rattle.gabc_nodes.specs.declared.kind.Kind.TheVariants as kind
use Rattle.gabc_nodes.specs.declared.node.Node.{Node}
use Rattle.gabc_tree.specs.Nested.{AreNested}
use Rattle.gabc_tree.specs.Placed.{is_snippet}
use Rattle.gabc_tree.specs.NabcNodes.{kind_of_piece, is_digit, is_modifier, through_digit, glyph_before_pitch, before_pitch, piece_kind, pitch_at, piece_len, piece_node, pieces_from, pieces_of, descriptor_nodes, part_nodes, nabc_nodes}
use Rattle.gabc_tree.specs.NoteNodes.{node_at}
use Rattle.gabc_tree.specs.Numbers.{three}
use Rattle.gabc_tree.specs.declared.nabc_nodes.PieceKind.{PieceKind}
use Rattle.gabc_tree.specs.declared.nabc_nodes.PieceKind.TheVariants as piece
use Rattle.gabc_tree.proofs.KeptNodes as kept_nodes
use Rattle.gabc_tree.proofs.KeptNodes.{AreKept, none, kept_sooner, are_nested}
use Rattle.gabc_tree.proofs.LongItems.{AreLong, long_bytes, items_long}

-- ---- a piece has a byte, and lies in its text

digit_fits : (c : ℕ) (t : List ℕ) → (1 ≤ through_digit (c ∷ t)) × (through_digit (c ∷ t) ≤ suc (length t))
digit_fits c [] = go (is_digit c)
  where
    go : (b : Bool) → (1 ≤ (if b then 1 else suc 0)) × ((if b then 1 else suc 0) ≤ 1)
    go true = (omega arith, omega arith)
    go false = (omega arith, omega arith)
digit_fits c (d ∷ t) = go (is_digit c) (digit_fits d t)
  where
    go : (b : Bool) → (1 ≤ through_digit (d ∷ t)) × (through_digit (d ∷ t) ≤ suc (length t))
        → (1 ≤ (if b then 1 else suc (through_digit (d ∷ t)))) × ((if b then 1 else suc (through_digit (d ∷ t))) ≤ suc (suc (length t)))
    go true h = (omega arith, omega arith)
    go false h = (omega arith, omega (arith, h.1))

prefix_fits : (p : ℕ → Bool) (t : List ℕ) → prefix_len p t ≤ length t
prefix_fits p [] = omega arith
prefix_fits p (c ∷ t) = go (p c) (prefix_fits p t)
  where
    go : (b : Bool) → prefix_len p t ≤ length t → cond b (1 + prefix_len p t) 0 ≤ suc (length t)
    go true h = omega arith
    go false h = omega arith

glyph_fits : (c : ℕ) (t : List ℕ) → (1 ≤ glyph_before_pitch (c ∷ t)) × (glyph_before_pitch (c ∷ t) ≤ suc (length t))
glyph_fits c [] = (omega arith, omega arith)
glyph_fits c (d ∷ t) = (omega arith, omega (arith, prefix_fits is_modifier t))

before_fits : (k : PieceKind) (c : ℕ) (t : List ℕ) → (1 ≤ before_pitch k (c ∷ t)) × (before_pitch k (c ∷ t) ≤ suc (length t))
before_fits piece.Glyph c t = glyph_fits c t
before_fits piece.Points c t = digit_fits c t
before_fits piece.Letters c t = digit_fits c t

pitch_fits : (t : List ℕ) → (elim (pitch_at t) as (λ _. ℕ) [ None ↦ 0 | Some height ↦ 2 ]) ≤ length t
pitch_fits [] = omega arith
pitch_fits (c ∷ []) = omega arith
pitch_fits (h ∷ c ∷ t) = go (h == 104)
  where
    go : (b : Bool) → (elim (if b then Some (height_of c) else None) as (λ _. ℕ) [ None ↦ 0 | Some height ↦ 2 ]) ≤ suc (suc (length t))
    go true = omega arith
    go false = omega arith

piece_fits : (c : ℕ) (t : List ℕ) → (1 ≤ piece_len (c ∷ t)) × (piece_len (c ∷ t) ≤ suc (length t))
piece_fits c t =
    let k = piece_kind (c ∷ t) in
    let before = before_fits k c t in
    let n : ℕ = before_pitch k (c ∷ t) in
    let pitch = pitch_fits (drop n (c ∷ t)) in
    (omega (arith, before.0), omega (arith, before.1, pitch, length-drop n (c ∷ t)))

-- ---- the pieces of a descriptor

piece_kind_is : (k : PieceKind) → is_snippet (kind_of_piece k) ≡ false
piece_kind_is piece.Glyph = refl
piece_kind_is piece.Points = refl
piece_kind_is piece.Letters = refl

pieces_kept : (last base skip at : ℕ) (t : List ℕ) → skip ≤ length t
    → AreKept last (base + (at + skip)) (base + (at + length t)) (pieces_from base skip at t)
pieces_kept last base skip at [] h = none (omega arith)
pieces_kept last base (suc skip) at (c ∷ t) h =
    let from : base + (at + 1 + skip) ≡ base + (at + suc skip) = omega arith in
    let to : base + (at + 1 + length t) ≡ base + (at + suc (length t)) = omega arith in
    let nodes : List Node = pieces_from base skip (at + 1) t in
    subst (λ (f : ℕ). AreKept last f (base + (at + suc (length t))) nodes) from
    (subst (λ (e : ℕ). AreKept last (base + (at + 1 + skip)) e nodes) to (pieces_kept last base skip (at + 1) t (omega arith)))
pieces_kept last base zero at (c ∷ t) h = go (c == 33) (λ skip short. pieces_kept last base skip (at + 1) t short)
  where
    go : (b : Bool) → ((skip : ℕ) → skip ≤ length t → AreKept last (base + (at + 1 + skip)) (base + (at + 1 + length t)) (pieces_from base skip (at + 1) t))
        → AreKept last (base + (at + 0)) (base + (at + suc (length t)))
        (if b then pieces_from base 0 (at + 1) t else piece_node base at (c ∷ t) ∷ pieces_from base (piece_len (c ∷ t) - 1) (at + 1) t)
    go true later =
        let to : base + (at + 1 + length t) ≡ base + (at + suc (length t)) = omega arith in
        let nodes : List Node = pieces_from base 0 (at + 1) t in
        subst (λ (e : ℕ). AreKept last (base + (at + 0)) e nodes) to
        (kept_sooner last (base + (at + 0)) (base + (at + 1 + 0)) (base + (at + 1 + length t)) nodes (omega arith) (later 0 (omega arith)))
    go false later =
        let fits = piece_fits c t in
        let len : ℕ = piece_len (c ∷ t) in
        let rest : List Node = pieces_from base (len - 1) (at + 1) t in
        let from : base + (at + 1 + (len - 1)) ≡ base + (at + len) = omega (arith, fits.0) in
        let to : base + (at + 1 + length t) ≡ base + (at + suc (length t)) = omega arith in
        kept_nodes.part {n = piece_node base at (c ∷ t)} {inside = []} {after = rest} (omega arith) (omega (arith, fits.0)) (piece_kind_is (piece_kind (c ∷ t))) refl (none (omega arith))
        (subst (λ (f : ℕ). AreKept last f (base + (at + suc (length t))) rest) from
        (subst (λ (e : ℕ). AreKept last (base + (at + 1 + (len - 1))) e rest) to (later (len - 1) (omega (arith, fits.1)))))

-- ---- the parts of a snippet

-- parts that stand one after the other from that byte on
abbrev Follow : ℕ → List Descriptor → Type 0
Follow at [] = Unit {0}
Follow at (i ∷ parts) = (i.span.from ≡ at) × (at + 1 ≤ i.span.to) × Follow i.span.to parts

placed_follow : (at : ℕ) (texts : List (Bool × List ℕ)) → AreLong texts → Follow at (placed_parts at texts)
placed_follow at [] h = tt
placed_follow at (t ∷ texts) h = let n = long_bytes t.1 h.0 in (refl, omega (arith, n), placed_follow (at + length (encode_utf8_all t.1)) texts h.1)

-- the pieces of a descriptor lie in it
in_part : (last base : ℕ) (kept : List ℕ) (part : Descriptor) → part.span.from ≤ part.span.to → part.span.to ≤ length kept
    → AreKept last (base + part.span.from) (base + part.span.to) (pieces_of (base + part.span.from) (bytes_of kept part))
in_part last base kept part order fits =
    let from : ℕ = part.span.from in
    let text : List ℕ = bytes_of kept part in
    let size : length text ≡ part.span.to - from = omega (arith, length-take (part.span.to - from) (drop from kept), length-drop from kept) in
    let begin : base + from + (0 + 0) ≡ base + from = omega arith in
    let end : base + from + (0 + length text) ≡ base + part.span.to = omega (arith, size) in
    let nodes : List Node = pieces_of (base + from) text in
    subst (λ (b : ℕ). AreKept last b (base + part.span.to) nodes) begin
    (subst (λ (e : ℕ). AreKept last (base + from + (0 + 0)) e nodes) end (pieces_kept last (base + from) 0 0 text (omega arith)))

parts_kept : (last base : ℕ) (kept : List ℕ) (at : ℕ) (parts : List Descriptor) → at ≤ length kept → AreWithin kept parts → Follow at parts
    → AreKept last (base + at) (base + length kept) (flat_map (part_nodes base kept) parts)
parts_kept last base kept at [] h w f = none (omega arith)
parts_kept last base kept at (part ∷ parts) h w f =
    let P = λ (part : Descriptor). (part.span.from ≤ part.span.to) × (part.span.to ≤ length kept) in
    let lies = All-head P part parts w in
    go part.space (in_part (base + part.span.to) base kept part lies.0 lies.1) (parts_kept last base kept part.span.to parts lies.1 (All-tail P part parts w) f.2)
  where
    go : (b : Bool) → AreKept (base + part.span.to) (base + part.span.from) (base + part.span.to) (pieces_of (base + part.span.from) (bytes_of kept part))
        → AreKept last (base + part.span.to) (base + length kept) (flat_map (part_nodes base kept) parts)
        → AreKept last (base + at) (base + length kept)
        ((if b then node_at base part.span 0 kind.NabcSpace (three 0 0 0) ∷ []
        else descriptor_nodes base part.span (pieces_of (base + part.span.from) (bytes_of kept part))) ++ flat_map (part_nodes base kept) parts)
    go true inside later =
        kept_nodes.part {n = node_at base part.span 0 kind.NabcSpace (three 0 0 0)} {inside = []} {after = flat_map (part_nodes base kept) parts}
        (omega (arith, f.0)) (omega (arith, f.0, f.1)) refl refl (none (omega (arith, f.0, f.1))) later
    go false inside later =
        let pieces : List Node = pieces_of (base + part.span.from) (bytes_of kept part) in
        kept_nodes.part {n = node_at base part.span (length pieces) kind.Descriptor (three 0 0 0)} {inside = pieces} {after = flat_map (part_nodes base kept) parts}
        (omega (arith, f.0)) (omega (arith, f.0, f.1)) refl refl inside later

pub nabc_is_kept : (last base : ℕ) (kept : List ℕ) → IsUtf8 kept → AreKept last base (base + length kept) (nabc_nodes base kept)
nabc_is_kept last base kept u =
    let same : base + 0 ≡ base = omega arith in
    subst (λ (from : ℕ). AreKept last from (base + length kept) (nabc_nodes base kept)) same
    (parts_kept last base kept 0 (parts_of kept) (omega arith) (parts_lie kept u) (placed_follow 0 (items_by nabc (chars kept)) (items_long nabc (chars kept))))

pub nabc_is_nested : (base : ℕ) (kept : List ℕ) → IsUtf8 kept → AreNested base (base + length kept) (nabc_nodes base kept)
nabc_is_nested base kept u = are_nested 0 base (base + length kept) (nabc_nodes base kept) (nabc_is_kept 0 base kept u)
