-- The nodes of a tree are one tree.
use Rattle.std.proofs.Common.{◌≡◌, ◌≤◌, ℕ, suc, ◌+◌, ◌-◌, Bool, true, cond, nat_lt, List, [], ◌∷◌, ◌++◌, map, length, length-append, length-take, take, take-append-drop, encode_utf8_all, Option, Some, None, Result, Ok, Err, refl, sym, ap, subst, ◌∙◌, append_assoc, arith}
use Rattle.std.specs.Str.{chars}
use Rattle.std.specs.List.{All}
use Rattle.std.proofs.lemmas.Bool.{lt-ltb}
use Rattle.std.proofs.lemmas.List.{length-take-le}
use Rattle.std.proofs.lemmas.List.Elements.{All-head, All-tail}
use Rattle.std.proofs.lemmas.Str.{utf8_valid_len_le}
use Rattle.std.specs.Str.Lossy.{utf8_valid_len}
use Rattle.gabc_places.proofs.utf8.CharacterByCharacter.{valid_len-front}
use Rattle.gabc_places.specs.Text.{text_of_bytes, utf8_prefix_of, decoded_of}
use Rattle.gabc_places.specs.declared.code.Fault.{Fault}
use Rattle.gabc_places.specs.declared.limits.Limits.{Limits}
use Rattle.gabc_headers.proofs.entries.TextsAsBytes.{bytes_len-append, bytes_len-chars, length-encodes}
use Rattle.gabc_headers.proofs.groups.BookNeedsScoreLine.{score_after}
use Rattle.gabc_headers.specs.Heads.{heads_of, head_len}
use Rattle.gabc_headers.specs.Lines.{bytes_len}
use Rattle.gabc_headers.specs.declared.heads.Heads.{Heads}
use Rattle.gabc_headers.specs.declared.heads.HeadFault.{HeadFault}
use Rattle.gabc_neumes.specs.InForce.{nothing_in_force}
use Rattle.gabc_body.specs.Holding.{HoldsParts}
use Rattle.gabc_body.specs.Score.{heads_text, after_heads, score_by, score_of}
use Rattle.gabc_body.specs.Syllable.{PlacedSyllable}
use Rattle.gabc_body.specs.declared.score.Score.{Score}
use Rattle.gabc_nodes.specs.Node.{leaf}
use Rattle.gabc_nodes.specs.declared.kind.Kind.TheVariants.{File, ScoreLine, Unread}
use Rattle.gabc_nodes.specs.declared.node.Node.{Node}
use Rattle.gabc_tree.specs.CodeNumber.{number_of_code}
use Rattle.gabc_tree.specs.HeaderLines.{header_line_nodes}
use Rattle.gabc_tree.specs.HeaderNodes.{head_nodes_by, head_end_by}
use Rattle.gabc_tree.specs.Nested.{AreNested, over, node, AreOneTree}
use Rattle.gabc_tree.specs.NotKept.{Reached, begun, joined, nodes_from, not_kept}
use Rattle.gabc_tree.specs.Placed.{Reach, offset, bytes_in, up_to, reach_to, byte_at, moved, placed_from, reach_after}
use Rattle.gabc_tree.specs.SyllableNodes.{around}
use Rattle.gabc_tree.specs.Tree.{ending_by, body_nodes, body_end, kept_characters, characters_before, rest_of, before_all, file_nodes, tree_nodes}
use Rattle.gabc_tree.proofs.KeptHeaders.{headers_kept}
use Rattle.gabc_tree.proofs.KeptNodes as kept_nodes
use Rattle.gabc_tree.proofs.KeptNodes.{AreKept, none, kept_both}
use Rattle.gabc_tree.proofs.NestedHeaders.{both}
use Rattle.gabc_tree.proofs.fates.Left.{kept_fits}
use Rattle.gabc_tree.proofs.placed_nodes.Counted.{count_least}
use Rattle.gabc_tree.proofs.fates.OfHeaders.{heads_are}
use Rattle.gabc_tree.proofs.fates.OfScore.{few_characters, AreWellPlaced, syllables_well}
use Rattle.gabc_tree.proofs.not_kept_nodes.FewBytes.{joined_bytes}
use Rattle.gabc_tree.proofs.not_kept_nodes.InPlace.{InRow, row_nested, from_row, joined_row}
use Rattle.gabc_tree.proofs.placed_nodes.Fronts.{is_front}
use Rattle.gabc_tree.proofs.placed_nodes.PlacedNested.{closed, kept_closes, left_after}
use Rattle.gabc_tree.proofs.syllables.SnippetsAreInOrder.{in_order}
use Rattle.gabc_tree.proofs.syllables.KeptSyllables.{AreSound, bytes_of, body_end_is, body_kept, moved_kept}

-- ---- the file

one_tree : (len : ℕ) (inside : List Node) → len ≤ 4294967295 → length inside ≤ 4294967295 → AreNested 0 len inside → AreOneTree len (around (leaf File 0 0 (offset len)) inside)
one_tree len inside short few nested = record {
  file = record (leaf File 0 0 (offset len)) { inner = offset (length inside) };
  inside = inside;
  nodes_are = refl;
  kind_is = refl;
  begin_is = refl;
  end_is = omega (arith, short);
  inner_is = omega (arith, few);
  nested = nested;
}

-- one node that holds none
one_node : (from to : ℕ) (n : Node) → from ≤ n.begin → n.begin ≤ n.end → n.end ≤ to → n.inner ≡ 0 → AreNested from to (n ∷ [])
one_node from to n h i j e = node {n = n} {inside = []} {after = []} h (sym e) (over i) (over j)

-- what is not kept in two parts: up to a kept byte, and after it
out_parts : (r : Reach) (k : ℕ) → r.out ≡ up_to r k ++ (reach_to r k).out
out_parts r k = sym (ap (λ (u : List Node). u ++ (reach_to r k).out) (sym (is_front (k + r.passed) r.out)) ∙ take-append-drop (length (up_to r k)) r.out)

module _ (len : ℕ) (short : len ≤ 4294967295) (out nodes : List Node) (kept : ℕ) (row : InRow 0 len out) (are : AreKept kept 0 kept nodes) where
  abbrev r0 : Reach
  r0 = before_all out

  abbrev r : Reach
  r = reach_after r0 nodes

  -- all up to the last kept byte, and the rest
  all_nested : (k : ℕ) → kept ≡ k + 1 → byte_at r0 k + 1 ≤ len → length nodes + length (up_to r0 k) ≤ 4294967295 → (rest : List Node) → AreNested (byte_at r0 k + 1) len rest → AreNested 0 len (placed_from r0 nodes ++ (up_to r k ++ rest))
  all_nested k e room few rest h =
      let c = kept_closes len short kept 0 kept nodes are r0 k 1 0 (byte_at r0 k + 1) (omega (arith, e)) (omega (arith, e)) (omega arith) (omega arith) row room refl few in
      subst (AreNested 0 len) (append_assoc (placed_from r0 nodes) (up_to r k) rest) (both 0 (byte_at r0 k + 1) len (closed r0 nodes k) rest c.nested h)

  reach_same : (k : ℕ) → kept ≡ k + 1 → byte_at r0 k + 1 ≤ len → length nodes + length (up_to r0 k) ≤ 4294967295 → reach_to r k ≡ reach_to r0 k
  reach_same k e room few = (kept_closes len short kept 0 kept nodes are r0 k 1 0 (byte_at r0 k + 1) (omega (arith, e)) (omega (arith, e)) (omega arith) (omega arith) row room refl few).reach_is

  pub rest_nested : (k : ℕ) → kept ≡ k + 1 → byte_at r0 k + 1 ≤ len → length nodes + length (up_to r0 k) ≤ 4294967295 → (fault : Option Fault) → AreNested 0 len (placed_from r0 nodes ++ rest_of r kept len fault)
  rest_nested k e room few None =
      let same = reach_same k e room few in
      let left : InRow (byte_at r0 k + 1) len (reach_to r k).out = subst (λ (t : Reach). InRow (byte_at r0 k + 1) len t.out) (sym same) (left_after r0 0 len k row room) in
      subst (λ (u : List Node). AreNested 0 len (placed_from r0 nodes ++ u)) (sym (out_parts r k)) (all_nested k e room few (reach_to r k).out (row_nested (byte_at r0 k + 1) len (reach_to r k).out left))
  rest_nested k e room few (Some fault) =
      let same : byte_at r k ≡ byte_at r0 k = ap (λ (t : Reach). k + t.passed) (reach_same k e room few) in
      let unread : ℕ → Node = λ (n : ℕ). leaf Unread (number_of_code fault.code) (offset (n + 1)) (offset len) in
      let last : AreNested (byte_at r0 k + 1) len (unread (byte_at r0 k) ∷ []) =
      one_node (byte_at r0 k + 1) len (unread (byte_at r0 k)) (let s = small (byte_at r0 k + 1) room in omega (arith, s)) (omega (arith, room)) (omega (arith, short)) refl in
      let more : AreNested 0 len (placed_from r0 nodes ++ (up_to r k ++ unread (byte_at r k) ∷ [])) =
      all_nested k e room few (unread (byte_at r k) ∷ []) (subst (λ (n : ℕ). AreNested (byte_at r0 k + 1) len (unread n ∷ [])) (sym same) last) in
      let one : kept - 1 ≡ k = omega (arith, e) in
      let some : nat_lt 0 kept ≡ true = lt-ltb 0 kept (omega (arith, e)) in
      subst (λ (u : List Node). AreNested 0 len (placed_from r0 nodes ++ u))
      (ap (λ (m : ℕ). up_to r m ++ unread (byte_at r m) ∷ []) (sym one) ∙ sym (ap (λ (o : Bool). cond o (up_to r (kept - 1) ++ unread (byte_at r (kept - 1)) ∷ []) (leaf Unread (number_of_code fault.code) 0 (offset len) ∷ [])) some)) more
    where
      small : (n : ℕ) → n ≤ len → n ≡ offset n
      small n h = omega (arith, h, short)

-- what follows has all that is not kept up to the last kept byte
rest_least : (r : Reach) (kept len : ℕ) (fault : Option Fault) → 1 ≤ kept → length (up_to r (kept - 1)) ≤ length (rest_of r kept len fault)
rest_least r kept len None h = let a = ap length (out_parts r (kept - 1)) in let b = length-append (up_to r (kept - 1)) (reach_to r (kept - 1)).out in omega (arith, a, b)
rest_least r kept len (Some fault) h = rw (lt-ltb 0 kept h) (let b = length-append (up_to r (kept - 1)) (leaf Unread (number_of_code fault.code) (offset (byte_at r (kept - 1) + 1)) (offset len) ∷ []) in omega (arith, b))

-- ---- an input

-- the characters of an input have no more bytes than it has
prefix_short : (bs : List ℕ) → bytes_len (utf8_prefix_of bs) ≤ length bs
unfolding utf8_prefix_of
prefix_short bs =
    let n : ℕ = utf8_valid_len bs in
    let size = bytes_len-chars (take n bs) (valid_len-front bs) in
    let less = utf8_valid_len_le bs in
    let few = length-take n bs in
    omega (arith, size, less, few)

kept_bytes : (ss : List PlacedSyllable) → AreWellPlaced ss → bytes_len (kept_characters ss) ≡ bytes_of ss
kept_bytes [] h = refl
kept_bytes (s ∷ ss) h =
    let all = bytes_len-append (chars s.made.kept) (kept_characters ss) in
    let one = bytes_len-chars s.made.kept h.0.utf8 in
    let rest = kept_bytes ss h.1 in
    omega (arith, all, one, rest)

pub sound_of : (input : List ℕ) (lines : ℕ) (ss : List PlacedSyllable) → AreWellPlaced ss → All (λ (s : PlacedSyllable). HoldsParts input lines s.made) ss → AreSound ss
sound_of input lines [] h i = tt
sound_of input lines (s ∷ ss) h i =
    let P = λ (s : PlacedSyllable). HoldsParts input lines s.made in
    (record { utf8 = h.0.utf8; some = h.0.some; notes = in_order input lines s (All-head P s ss i) }, sound_of input lines ss h.1 (All-tail P s ss i))

row_wider : (from to more : ℕ) (ns : List Node) → to ≤ more → InRow from to ns → InRow from more ns
row_wider from to more [] h r = omega (arith, h, r)
row_wider from to more (n ∷ ns) h r = (r.0, r.1, r.2, row_wider n.end to more ns h r.3)

bytes_both : (ns ms : List Node) → bytes_in (ns ++ ms) ≡ bytes_in ns + bytes_in ms
bytes_both [] ms = omega arith
bytes_both (n ∷ ns) ms = let h = bytes_both ns ms in omega (arith, h)

module _ (limits : Limits) (bytes : List ℕ) (short : length bytes ≤ 4294967295) (few : length (tree_nodes limits bytes) ≤ 4294967295) where
  abbrev text : List ℕ
  text = text_of_bytes limits.input bytes

  abbrev score : Score
  score = score_of limits (ending_by (decoded_of limits true bytes).fault) text

  abbrev cs : List ℕ
  cs = utf8_prefix_of (take limits.input bytes)

  abbrev begins : ℕ → Reached
  begins head = begun (characters_before head text) (kept_characters score.syllables) score.findings

  -- what is not kept, if the headers have this number of bytes
  abbrev out : ℕ → List Node
  out head = joined (nodes_from (begins head) cs)

  cs_short : bytes_len cs ≤ length bytes
  cs_short = let a = prefix_short (take limits.input bytes) in let b = length-take limits.input bytes in omega (arith, a, b)

  out_row : (head : ℕ) → InRow 0 (length bytes) (out head)
  out_row head =
      let less = cs_short in
      row_wider 0 (0 + bytes_len cs) (length bytes) (out head) (omega (arith, less)) (joined_row 0 (0 + bytes_len cs) (nodes_from (begins head) cs) (from_row cs (begins head)))

  module _ (heads : Heads) (heads_ok : heads_of limits text ≡ Ok heads) (sound : AreSound score.syllables) where
    abbrev head : ℕ
    head = heads.body

    abbrev kept : ℕ
    kept = heads.body + bytes_of score.syllables

    abbrev nodes : List Node
    nodes = map (moved 0) (head_nodes_by text (Ok heads)) ++ body_nodes (offset head) nothing_in_force score.syllables

    fits : kept + bytes_in (out head) ≤ length bytes
    fits =
        let a = kept_fits limits bytes heads heads_ok in
        let b = (heads_are limits text heads heads_ok).body_is in
        let c = kept_bytes score.syllables (syllables_well limits bytes heads heads_ok) in
        let d = joined_bytes (nodes_from (begins head) cs) in
        let e = cs_short in
        omega (arith, a, b, c, d, e)

    some_head : 2 ≤ head
    some_head =
        let a = (heads_are limits text heads heads_ok).body_is in
        let b = few_characters (heads_text text) in
        let c = length-take-le (head_len text + 2) text (score_after limits text heads heads_ok) in
        omega (arith, a, b, c)

    -- the bytes before the `%%`
    front_is : length (take (head - 2) (encode_utf8_all text)) ≡ head - 2
    front_is =
        let a = (heads_are limits text heads heads_ok).body_is in
        let b = bytes_len-append (heads_text text) (after_heads text) in
        let c = ap bytes_len (take-append-drop (head_len text + 2) text) in
        let d = length-encodes text in
        length-take-le (head - 2) (encode_utf8_all text) (omega (arith, a, b, c, d))

    heads_kept : AreKept kept 0 head (head_nodes_by text (Ok heads))
    heads_kept =
        let h = some_head in
        let f = fits in
        let n = front_is in
        let front = take (head - 2) (encode_utf8_all text) in
        let line : Node = leaf ScoreLine 0 (offset (head - 2)) (offset head) in
        let begin_is : line.begin ≡ head - 2 = omega (arith, f, short) in
        let end_is : line.end ≡ head = omega (arith, f, short) in
        kept_both kept 0 (offset (length front)) head (header_line_nodes front heads.findings) (line ∷ [])
        (headers_kept kept (head - 2) (omega (arith, h)) (omega (arith, f, h, short)) front heads.findings (omega (arith, n)))
        (kept_nodes.part {n = line} {inside = []} {after = []} (omega (arith, n, f, short)) (omega (arith, begin_is, end_is, h)) refl refl (none (omega (arith, begin_is, end_is))) (none (omega (arith, end_is))))

    counted : length nodes ≤ 4294967295 → AreKept kept 0 kept nodes
    counted count =
        let f = fits in
        let zero_is : 0 + head ≡ head = omega arith in
        let last_is : 0 + kept ≡ kept = omega arith in
        let none_is : 0 + 0 ≡ 0 = omega arith in
        let offset_is : head ≡ offset head = omega (arith, f, short) in
        let moved_heads : AreKept kept 0 head (map (moved 0) (head_nodes_by text (Ok heads))) =
        subst (λ (x : ℕ). AreKept x 0 head (map (moved 0) (head_nodes_by text (Ok heads)))) last_is
        (subst (λ (x : ℕ). AreKept (0 + kept) 0 x (map (moved 0) (head_nodes_by text (Ok heads)))) zero_is
        (moved_kept 0 kept 0 head (head_nodes_by text (Ok heads)) (omega (arith, f, short)) heads_kept)) in
        let all = length-append (map (moved 0) (head_nodes_by text (Ok heads))) (body_nodes (offset head) nothing_in_force score.syllables) in
        kept_both kept 0 head kept (map (moved 0) (head_nodes_by text (Ok heads))) (body_nodes (offset head) nothing_in_force score.syllables) moved_heads
        (subst (λ (x : ℕ). AreKept kept head kept (body_nodes x nothing_in_force score.syllables)) offset_is
        (body_kept kept head nothing_in_force score.syllables sound (omega (arith, f, short)) (omega arith)
        (subst (λ (x : ℕ). length (body_nodes x nothing_in_force score.syllables) ≤ 4294967295) (sym offset_is) (omega (arith, all, count)))))

    -- the tree, whose headers are these
    tree_is : tree_nodes limits bytes ≡ file_nodes (out head) nodes (body_end (offset head) score.syllables) (length bytes) score.fault
    tree_is = ap (λ (r : Result Heads HeadFault). file_nodes (out (head_end_by r)) (map (moved 0) (head_nodes_by text r) ++ body_nodes (offset (head_end_by r)) nothing_in_force score.syllables) (body_end (offset (head_end_by r)) score.syllables) (length bytes) score.fault) heads_ok

    -- of all nodes there are no more than of the tree
    counts : length nodes + length (up_to (before_all (out head)) (kept - 1)) ≤ length (tree_nodes limits bytes)
    counts =
        let r0 : Reach = before_all (out head) in
        let r : Reach = reach_after r0 nodes in
        let least = count_least nodes r0 (kept - 1) in
        let all = ap length tree_is in
        let rest = rest_of r (body_end (offset head) score.syllables) (length bytes) score.fault in
        let parts = length-append (placed_from r0 nodes) rest in
        let f = fits in
        let offset_is : head ≡ offset head = omega (arith, f, short) in
        let end_is : body_end (offset head) score.syllables ≡ kept = ap (λ (n : ℕ). body_end n score.syllables) (sym offset_is) ∙ body_end_is head score.syllables (omega (arith, f, short)) in
        let more = rest_least r kept (length bytes) score.fault (let h = some_head in omega (arith, h)) in
        let more_is : length (up_to r (kept - 1)) ≤ length rest = subst (λ (n : ℕ). length (up_to r (kept - 1)) ≤ length (rest_of r n (length bytes) score.fault)) (sym end_is) more in
        omega (arith, least, all, parts, more_is)

    all_in_one : AreOneTree (length bytes) (tree_nodes limits bytes)
    all_in_one =
        let f = fits in
        let h = some_head in
        let c = counts in
        let k : ℕ = kept - 1 in
        let r0 : Reach = before_all (out head) in
        let offset_is : head ≡ offset head = omega (arith, f, short) in
        let end_is : body_end (offset head) score.syllables ≡ kept = ap (λ (n : ℕ). body_end n score.syllables) (sym offset_is) ∙ body_end_is head score.syllables (omega (arith, f, short)) in
        let are = counted (omega (arith, c, few)) in
        let parts = ap bytes_in (out_parts r0 (kept - 1)) ∙ bytes_both (up_to r0 (kept - 1)) (reach_to r0 (kept - 1)).out in
        let room : byte_at r0 (kept - 1) + 1 ≤ length bytes = omega (arith, f, h, parts) in
        let inside = placed_from r0 nodes ++ rest_of (reach_after r0 nodes) kept (length bytes) score.fault in
        let nested : AreNested 0 (length bytes) inside = rest_nested (length bytes) short (out head) nodes kept (out_row head) are (kept - 1) (omega (arith, h)) room (omega (arith, c, few)) score.fault in
        let is : tree_nodes limits bytes ≡ around (leaf File 0 0 (offset (length bytes))) inside = tree_is ∙ ap (λ (n : ℕ). file_nodes (out head) nodes n (length bytes) score.fault) end_is in
        let size : length (tree_nodes limits bytes) ≡ suc (length inside) = ap length is in
        subst (AreOneTree (length bytes)) (sym is) (one_tree (length bytes) inside short (omega (arith, size, few)) nested)

  -- with a fault in the headers nothing is read
  none_read : (stop : HeadFault) → heads_of limits text ≡ Err stop → AreOneTree (length bytes) (tree_nodes limits bytes)
  none_read stop e =
      let ending = ending_by (decoded_of limits true bytes).fault in
      let tree : Result Heads HeadFault → List Node = λ (r : Result Heads HeadFault).
      let s : Score = score_by limits ending text r in
      file_nodes (not_kept (characters_before (head_end_by r) text) (kept_characters s.syllables) s.findings cs) (map (moved 0) (head_nodes_by text r) ++ body_nodes (offset (head_end_by r)) nothing_in_force s.syllables) (body_end (offset (head_end_by r)) s.syllables) (length bytes) s.fault in
      let is : tree_nodes limits bytes ≡ tree (Err stop) = ap tree e in
      let s : Score = score_by limits ending text (Err stop) in
      let all = not_kept (characters_before 0 text) [] s.findings cs in
      let row : InRow 0 (length bytes) all = let less = cs_short in row_wider 0 (0 + bytes_len cs) (length bytes) all (omega (arith, less)) (joined_row 0 (0 + bytes_len cs) (nodes_from (begun (characters_before 0 text) [] s.findings) cs) (from_row cs (begun (characters_before 0 text) [] s.findings))) in
      let size = ap length is in
      subst (AreOneTree (length bytes)) (sym is) (by s.fault all row (omega (arith, size, few)))
    where
      by : (fault : Option Fault) (all : List Node) → InRow 0 (length bytes) all → length (file_nodes all [] 0 (length bytes) fault) ≤ 4294967295 → AreOneTree (length bytes) (file_nodes all [] 0 (length bytes) fault)
      by None all row size = one_tree (length bytes) all short (omega (arith, size)) (row_nested 0 (length bytes) all row)
      by (Some fault) all row size =
          one_tree (length bytes) (leaf Unread (number_of_code fault.code) 0 (offset (length bytes)) ∷ []) short (omega arith)
          (one_node 0 (length bytes) (leaf Unread (number_of_code fault.code) 0 (offset (length bytes))) (omega arith) (omega arith) (omega (arith, short)) refl)

  pub is_one_tree : ((heads : Heads) → heads_of limits text ≡ Ok heads → AreSound score.syllables) → AreOneTree (length bytes) (tree_nodes limits bytes)
  is_one_tree sound = by (heads_of limits text) refl
    where
      by : (r : Result Heads HeadFault) → heads_of limits (text_of_bytes limits.input bytes) ≡ r → AreOneTree (length bytes) (tree_nodes limits bytes)
      by (Ok heads) e = all_in_one heads e (sound heads e)
      by (Err stop) e = none_read stop e
