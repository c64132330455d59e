-- The nodes of a text lie one after the other in it.
use Rattle.std.proofs.Common.{◌≡◌, ◌≤◌, ℕ, ◌+◌, ◌++◌, Bool, true, false, ◌&&◌, if◌then◌else◌, List, [], ◌∷◌, length, Option, Some, None, option_to_list, refl, sym, ap, subst, arith, IsUtf8}
use Rattle.std.specs.Str.{chars}
use Rattle.std.proofs.lemmas.Str.{len_utf8_bounds}
use Rattle.gabc_places.specs.declared.place.Span.{Span}
use Rattle.gabc_text.specs.declared.token.TagEffect.{TagEffect}
use Rattle.gabc_text.specs.declared.token.TagEffect.TheVariants as does
use Rattle.gabc_text.specs.declared.token.TokenKind.{TokenKind}
use Rattle.gabc_text.specs.declared.token.TokenKind.TheVariants as token
use Rattle.gabc_text.specs.Token.{Token, spelling, tokens}
use Rattle.gabc_text.specs.View.{bytes_of, effect}
use Rattle.gabc_text.specs.KeptText.{bytes_before}
use Rattle.gabc_text.specs.Printed.{text_of_tokens}
use Rattle.gabc_text.proofs.tokens.CountsOfTexts.{bytes_append}
use Rattle.gabc_text.proofs.tokens.TextIsTokensAndRest.{parted}
use Rattle.gabc_text.proofs.machine.LoopOverText.{bytes_chars}
use Rattle.gabc_nodes.specs.declared.kind.Kind.TheVariants as kind
use Rattle.gabc_nodes.specs.declared.node.Node.{Node}
use Rattle.gabc_tree.specs.Nested.{AreNested}
use Rattle.gabc_tree.specs.Placed.{is_snippet}
use Rattle.gabc_tree.specs.TextNodes.{is_characters, is_escape, tag_node, node_by, span_at, numbers_of, is_piece_at, node_at, nodes_along, joined_after, joined, text_nodes}
use Rattle.gabc_tree.proofs.KeptNodes.{AreKept, none, part, are_nested}
use Rattle.gabc_tree.proofs.TextNodesByTokens.{next_byte}

-- nodes one after the other, each with a byte, in which no other lies
abbrev InLine : ℕ → ℕ → List Node → Type 0
InLine from to [] = from ≤ to
InLine from to (n ∷ ns) = (from ≤ n.begin) × (n.begin + 1 ≤ n.end) × (n.inner ≡ 0) × (is_snippet n.kind ≡ false) × InLine n.end to ns

line_kept : (last from to : ℕ) (ns : List Node) → InLine from to ns → AreKept last from to ns
line_kept last from to [] r = none r
line_kept last from to (n ∷ ns) r = part {n = n} {inside = []} {after = ns} r.0 r.1 r.3 (sym r.2) (none (omega (arith, r.1))) (line_kept last n.end to ns r.4)

earlier : (from at to : ℕ) (ns : List Node) → from ≤ at → InLine at to ns → InLine from to ns
earlier from at to [] h r = omega (arith, h, r)
earlier from at to (n ∷ ns) h r = (omega (arith, h, r.0), r.1, r.2, r.3, r.4)

-- ---- characters are joined

joined_row : (from to : ℕ) (n : Node) (ns : List Node) → InLine from to (n ∷ ns) → InLine from to (joined_after n ns)
joined_row from to n [] r = r
joined_row from to n (m ∷ ns) r = by (is_characters n.kind && is_characters m.kind)
    (joined_row from to (record n { end = m.end }) ns (r.0, omega (arith, r.1, r.4.0, r.4.1), r.2, r.3, r.4.4))
    (joined_row n.end to m ns r.4)
  where
    by : (b : Bool) → InLine from to (joined_after (record n { end = m.end }) ns) → InLine n.end to (joined_after m ns)
        → InLine from to (if b then joined_after (record n { end = m.end }) ns else (n ∷ joined_after m ns))
    by true f g = f
    by false f g = (r.0, r.1, r.2, r.3, g)

all_joined : (from to : ℕ) (ns : List Node) → InLine from to ns → InLine from to (joined ns)
all_joined from to [] r = r
all_joined from to (n ∷ ns) r = joined_row from to n ns r

-- ---- each token has its bytes

abbrev HasBytes : Span → Option Node → Type 0
HasBytes span None = Unit {0}
HasBytes span (Some n) = (n.begin ≡ span.from) × (n.end ≡ span.to) × (n.inner ≡ 0) × (is_snippet n.kind ≡ false)

tag_bytes : (span : Span) (n : ℕ) (s : List ℕ) (e : TagEffect) → HasBytes span (Some (tag_node span n s e))
tag_bytes span n s (does.Opens r) = (refl, refl, refl, refl)
tag_bytes span n s (does.Closes r) = (refl, refl, refl, refl)
tag_bytes span n s does.Mark = (refl, refl, refl, refl)
tag_bytes span n s _ = (refl, refl, refl, refl)

letter_kind : (o : Bool) → is_snippet (if o then kind.Escape else kind.Characters) ≡ false
letter_kind true = refl
letter_kind false = refl

node_bytes : (span : Span) (n : ℕ) (piece first : Bool) (s : List ℕ) (k : TokenKind) (e : TagEffect) → HasBytes span (node_by span n piece first s k e)
node_bytes span n piece first s token.Letter e = (refl, refl, refl, letter_kind (is_escape s))
node_bytes span n piece first s token.Blank e = (refl, refl, refl, refl)
node_bytes span n piece first s token.Raw e = (refl, refl, refl, refl)
node_bytes span n piece first s token.Tag e = tag_bytes span n s e
node_bytes span n piece first s token.Begin e = (refl, refl, refl, refl)
node_bytes span n piece first s token.End e = (refl, refl, refl, refl)
node_bytes span n piece first s token.Translation e = (refl, refl, refl, refl)
node_bytes span n piece first s _ e = tt

one_row : (from at to : ℕ) (o : Option Node) (ns : List Node) → from + 1 ≤ at → HasBytes (record { from = from; to = at }) o → InLine at to ns → InLine from to (option_to_list o ++ ns)
one_row from at to None ns h b r = earlier from at to ns (omega (arith, h)) r
one_row from at to (Some n) ns h b r = (omega (arith, b.0), omega (arith, h, b.0, b.1), b.2, b.3, subst (λ (x : ℕ). InLine x to ns) (sym b.1) r)

along_row : (to : ℕ) (before ks : List Token) → bytes_before before + bytes_of (text_of_tokens ks) ≤ to → InLine (bytes_before before) to (nodes_along before ks)
along_row to before [] h = omega (arith, h)
along_row to before (k ∷ ks) h =
    let next = next_byte before k in
    let least = (len_utf8_bounds k.first).0 in
    let all = bytes_append (spelling k) (text_of_tokens ks) in
    one_row (bytes_before before) (bytes_before (k ∷ before)) to (node_at before k ks) (nodes_along (k ∷ before) ks) (omega (arith, next, least))
    (node_bytes (span_at before k) (numbers_of before) (is_piece_at before k ks) _ (spelling k) k.kind (effect k))
    (along_row to (k ∷ before) ks (omega (arith, h, next, all)))

pub text_kept : (last : ℕ) (text : List ℕ) → IsUtf8 text → AreKept last 0 (length text) (text_nodes text)
text_kept last text u =
    let p = parted (chars text) in
    let ks : List Token = tokens (chars text) in
    line_kept last 0 (length text) (text_nodes text)
    (all_joined 0 (length text) (nodes_along [] ks)
    (along_row (length text) [] ks (omega (arith, bytes_chars text u, ap bytes_of p.parts, bytes_append (text_of_tokens ks) p.rest))))

pub text_nested : (text : List ℕ) → IsUtf8 text → AreNested 0 (length text) (text_nodes text)
text_nested text u = are_nested 0 0 (length text) (text_nodes text) (text_kept 0 text u)
