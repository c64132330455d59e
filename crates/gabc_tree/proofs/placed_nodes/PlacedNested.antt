-- Nodes that lie in one another do so where they are put in the input.
use Rattle.std.proofs.Common.{◌≡◌, ℕ, suc, ◌+◌, ◌-◌, ◌≤◌, Bool, true, false, cond, ◌&&◌, nat_lt, List, [], ◌∷◌, ◌++◌, length, length-append, refl, sym, ap, subst, ◌∙◌, append_assoc, append-nil, arith}
use Rattle.std.proofs.lemmas.Bool.{lt-ltb, ltb-true}
use Rattle.gabc_nodes.specs.declared.node.Node.{Node}
use Rattle.gabc_tree.specs.Nested.{AreNested, over, node}
use Rattle.gabc_tree.specs.Placed.{Reach, offset, bytes_in, up_to, reach_to, byte_at, is_snippet, is_between, first_of, begin_of, inside_of, end_by, node_in, nodes_at, placed_from, reach_past, reach_after}
use Rattle.gabc_tree.proofs.KeptNodes.{AreKept, none, part, empty, notes, kept_order}
use Rattle.gabc_tree.proofs.not_kept_nodes.InPlace.{InRow, earlier}
use Rattle.gabc_tree.proofs.placed_nodes.Appended.{placed_both, reach_both}
use Rattle.gabc_tree.proofs.placed_nodes.Reaches.{up_more, reach_more, at_more, row_before, row_after}

-- ---- up to a byte

-- the nodes where they stand, and what is not kept up to the kept byte k
abbrev pub closed : Reach → List Node → ℕ → List Node
closed r nodes k = placed_from r nodes ++ up_to (reach_after r nodes) k

-- a byte is no earlier for what stands before it
at_least : (r : Reach) (k : ℕ) → k + r.passed ≤ byte_at r k
at_least r k = omega arith

later_at : (r : Reach) (n m : ℕ) → n ≤ m → byte_at r n + (m - n) ≤ byte_at r m
later_at r n m h =
    let e = at_more r n m h in
    let l = at_least (reach_to r n) m in
    omega (arith, e, l, h)

-- nodes that lie in one another between p and q, up to the byte k
pub record IsClosed (r : Reach) (nodes : List Node) (k p q : ℕ) : Type 0 where
  pub nested : AreNested p q (closed r nodes k)
  pub count_is : length (closed r nodes k) ≡ length nodes + length (up_to r k)
  pub reach_is : reach_to (reach_after r nodes) k ≡ reach_to r k

-- what is not kept begins after the cursor
pub left_after : (r : Reach) (p to f : ℕ) → InRow p to r.out → byte_at r f + 1 ≤ to → InRow (byte_at r f + 1) to (reach_to r f).out
left_after r p to f row h =
    let is : f + r.passed + bytes_in (up_to r f) + 1 ≡ byte_at r f + 1 = omega arith in
    subst (λ (n : ℕ). InRow n to (reach_to r f).out) is (row_after p to (f + r.passed) r.out row (omega (arith, h)))

-- ---- what follows a node, up to whose last byte all was passed

record Follows (r : Reach) (after : List Node) (c k : ℕ) : Type 0 where
  closed_is : closed r after k ≡ up_to r c ++ closed (reach_to r c) after k
  reach_is : reach_to (reach_after r after) k ≡ reach_to (reach_after (reach_to r c) after) k

none_follows : (r : Reach) (c k : ℕ) → c ≤ k → Follows r [] c k
none_follows r c k h = record { closed_is = up_more r c k h; reach_is = sym (reach_more r c k h) }

first_is : (m : Node) (o : Bool) → is_between m ≡ o → first_of m ≡ cond o (m.begin - 1) m.begin
first_is m o e = ap (λ (b : Bool). cond b (m.begin - 1) m.begin) e

node_same : (r : Reach) (m : Node) (c : ℕ) → c ≤ first_of m → node_in (reach_to r c) m ≡ node_in r m
node_same r m c h =
    let there : reach_to (reach_to r c) (first_of m) ≡ reach_to r (first_of m) = reach_more r c (first_of m) h in
    ap (λ (b : ℕ). let x : Node = record m { begin = offset b; end = offset (end_by (reach_to (reach_to r c) (first_of m)) b m); inner = offset (m.inner + length (inside_of (reach_to (reach_to r c) (first_of m)) m)) } in x) (begins (is_between m) refl)
    ∙ ap (λ (q : Reach). let x : Node = record m { begin = offset (begin_of r m); end = offset (end_by q (begin_of r m) m); inner = offset (m.inner + length (inside_of q m)) } in x) there
  where
    begins : (o : Bool) → is_between m ≡ o → cond (is_between m) (byte_at (reach_to r c) (m.begin - 1) + 1) (byte_at (reach_to r c) m.begin) ≡ cond (is_between m) (byte_at r (m.begin - 1) + 1) (byte_at r m.begin)
    begins true e =
        let f : c ≤ m.begin - 1 = subst (λ (n : ℕ). c ≤ n) (first_is m true e) h in
        rw e (ap (λ (n : ℕ). n + 1) (at_more r c (m.begin - 1) f))
    begins false e =
        let f : c ≤ m.begin = subst (λ (n : ℕ). c ≤ n) (first_is m false e) h in
        rw e (at_more r c m.begin f)

node_follows : (r : Reach) (m : Node) (after : List Node) (c k : ℕ) → c ≤ first_of m → Follows r (m ∷ after) c k
node_follows r m after c k h =
    let r1 : Reach = reach_past r m in
    let r2 : Reach = reach_to r c in
    let past_is : reach_past r2 m ≡ r1 = reach_more r c (first_of m) h in
    record {
      closed_is =
          ap (λ (u : List Node). ((u ++ node_in r m ∷ []) ++ placed_from r1 after) ++ up_to (reach_after r1 after) k) (up_more r c (first_of m) h)
          ∙ (apart (up_to r c) (up_to r2 (first_of m)) (node_in r m) (placed_from r1 after) (up_to (reach_after r1 after) k)
          ∙ ap (λ (u : List Node). up_to r c ++ u)
          (ap (λ (x : Node). ((up_to r2 (first_of m) ++ x ∷ []) ++ placed_from r1 after) ++ up_to (reach_after r1 after) k) (sym (node_same r m c h))
          ∙ ap (λ (q : Reach). ((up_to r2 (first_of m) ++ node_in r2 m ∷ []) ++ placed_from q after) ++ up_to (reach_after q after) k) (sym past_is)));
      reach_is = ap (λ (q : Reach). reach_to (reach_after q after) k) (sym past_is);
    }
  where
    apart : (a b : List Node) (x : Node) (c d : List Node) → (((a ++ b) ++ x ∷ []) ++ c) ++ d ≡ a ++ (((b ++ x ∷ []) ++ c) ++ d)
    apart [] b x c d = refl
    apart (y ∷ a) b x c d = ap (λ (u : List Node). y ∷ u) (apart a b x c d)

-- after nodes that lie from a byte on
kept_follow : (r : Reach) (last lo hi k c : ℕ) (after : List Node) → AreKept last lo hi after → c ≤ lo → c ≤ k → Follows r after c k
kept_follow r last lo hi k c after (none h) l w = none_follows r c k w
kept_follow r last lo hi k c after (part {n} {inside} {after = rest} b o s i x a) l w =
    node_follows r n (inside ++ rest) c k (subst (λ (o : Bool). c ≤ cond (o && nat_lt 0 n.begin) (n.begin - 1) n.begin) (sym s) (omega (arith, b, l)))
kept_follow r last lo hi k c after (empty {n} {after = rest} b o x s i a) l w =
    node_follows r n rest c k (subst (λ (o : Bool). c ≤ cond (o && nat_lt 0 n.begin) (n.begin - 1) n.begin) (sym s) (omega (arith, b, l)))
kept_follow r last lo hi k c after (notes {n} {inside} {after = rest} b o s i x a) l w = node_follows r n (inside ++ rest) c k (first n (is_between n) (omega (arith, b, l)) (omega (arith, b, l)))
  where
    first : (n : Node) (o : Bool) → c ≤ n.begin - 1 → c ≤ n.begin → c ≤ cond o (n.begin - 1) n.begin
    first n true f g = f
    first n false f g = g

-- ---- one node

all_closed : (r r1 : Reach) (n : Node) (inside after : List Node) (c k : ℕ) → reach_past r n ≡ r1 → reach_to (reach_after r1 inside) c ≡ reach_to r1 c
    → closed (reach_after r1 inside) after k ≡ up_to (reach_after r1 inside) c ++ closed (reach_to (reach_after r1 inside) c) after k
    → closed r (n ∷ inside ++ after) k ≡ up_to r (first_of n) ++ node_in r n ∷ (closed r1 inside c ++ closed (reach_to r1 c) after k)
all_closed r r1 n inside after c k e f g =
    ap (λ (t : Reach). (nodes_at r n ++ placed_from t (inside ++ after)) ++ up_to (reach_after t (inside ++ after)) k) e
    ∙ (ap (λ (u : List Node). (nodes_at r n ++ u) ++ up_to (reach_after r1 (inside ++ after)) k) (placed_both r1 inside after)
    ∙ (ap (λ (t : Reach). (nodes_at r n ++ (placed_from r1 inside ++ placed_from (reach_after r1 inside) after)) ++ up_to t k) (reach_both r1 inside after)
    ∙ (apart (up_to r (first_of n)) (node_in r n) (placed_from r1 inside) (placed_from (reach_after r1 inside) after) (up_to (reach_after (reach_after r1 inside) after) k)
    ∙ ap (λ (u : List Node). up_to r (first_of n) ++ node_in r n ∷ u)
    (ap (λ (u : List Node). placed_from r1 inside ++ u) (g ∙ ap (λ (t : Reach). up_to (reach_after r1 inside) c ++ closed t after k) f)
    ∙ sym (append_assoc (placed_from r1 inside) (up_to (reach_after r1 inside) c) (closed (reach_to r1 c) after k))))))
  where
    apart : (a : List Node) (x : Node) (b d g : List Node) → ((a ++ x ∷ []) ++ (b ++ d)) ++ g ≡ a ++ x ∷ (b ++ (d ++ g))
    apart [] x b d g = ap (λ (u : List Node). x ∷ u) (append_assoc b d g)
    apart (y ∷ a) x b d g = ap (λ (u : List Node). y ∷ u) (apart a x b d g)

-- A node whose first byte f is, up to the byte c, with those in it, and what follows it.
one_closed : (r : Reach) (n : Node) (inside after : List Node) (c k p to from end q : ℕ) → let f = first_of n in let r1 = reach_to r f in f ≤ c → c ≤ k
    → InRow p to r.out → p ≤ from → byte_at r f ≤ from → (node_in r n).begin ≡ from → (node_in r n).end ≡ end → (node_in r n).inner ≡ length inside + length (up_to r1 c)
    → IsClosed r1 inside c from end → Follows (reach_after r1 inside) after c k → IsClosed (reach_to r1 c) after k end q → IsClosed r (n ∷ inside ++ after) k p q
one_closed r n inside after c k p to from end q low high row cursor before begin_is end_is inner_is within follows later =
    let r1 : Reach = reach_to r (first_of n) in
    let r2 : Reach = reach_to r1 c in
    let all_is = all_closed r r1 n inside after c k refl within.reach_is follows.closed_is in
    record {
      nested =
          subst (AreNested p q) (sym all_is)
          (row_before p to from (first_of n + r.passed) r.out _ row cursor (omega (arith, before)) q
          (node {n = node_in r n} {inside = closed r1 inside c} {after = closed r2 after k} (omega (arith, begin_is)) (within.count_is ∙ sym inner_is)
          (subst (λ (a : ℕ). AreNested a (node_in r n).end (closed r1 inside c)) (sym begin_is) (subst (λ (b : ℕ). AreNested from b (closed r1 inside c)) (sym end_is) within.nested))
          (subst (λ (b : ℕ). AreNested b q (closed r2 after k)) (sym end_is) later.nested)));
      count_is =
          let one = ap length all_is in
          let two : length (up_to r (first_of n) ++ node_in r n ∷ (closed r1 inside c ++ closed r2 after k)) ≡ length (up_to r (first_of n)) + suc (length (closed r1 inside c) + length (closed r2 after k)) =
          length-append (up_to r (first_of n)) (node_in r n ∷ (closed r1 inside c ++ closed r2 after k)) ∙ ap (λ (m : ℕ). length (up_to r (first_of n)) + suc m) (length-append (closed r1 inside c) (closed r2 after k)) in
          let in_count = within.count_is in
          let after_count = later.count_is in
          let front : length (up_to r k) ≡ length (up_to r (first_of n)) + length (up_to r1 k) = ap length (up_more r (first_of n) k (omega (arith, low, high))) ∙ length-append (up_to r (first_of n)) (up_to r1 k) in
          let back : length (up_to r1 k) ≡ length (up_to r1 c) + length (up_to r2 k) = ap length (up_more r1 c k high) ∙ length-append (up_to r1 c) (up_to r2 k) in
          let nodes : length (n ∷ inside ++ after) ≡ suc (length inside + length after) = ap suc (length-append inside after) in
          omega (arith, one, two, in_count, after_count, front, back, nodes);
      reach_is =
          ap (λ (t : Reach). reach_to t k) (reach_both r1 inside after)
          ∙ (follows.reach_is
          ∙ (ap (λ (t : Reach). reach_to (reach_after t after) k) within.reach_is
          ∙ (later.reach_is ∙ (reach_more r1 c k high ∙ reach_more r (first_of n) k (omega (arith, low, high))))));
    }

-- ---- all nodes

-- a number that is no offset's last
small : (n : ℕ) → n ≤ 4294967295 → offset n ≡ n
small n h = omega arith

not_less : (n m : ℕ) → n ≡ m → nat_lt n m ≡ false
not_less n m e = by (nat_lt n m) refl
  where
    by : (o : Bool) → nat_lt n m ≡ o → o ≡ false
    by true f = absurd (let l = ltb-true n m f in omega (arith, l, e))
    by false f = refl

-- nothing stands twice before a byte
no_more : (r : Reach) (f : ℕ) → up_to (reach_to r f) f ≡ []
no_more r f = by (up_to (reach_to r f) f) (ap length (up_more r f f (omega arith)) ∙ length-append (up_to r f) (up_to (reach_to r f) f))
  where
    by : (ns : List Node) → length (up_to r f) ≡ length (up_to r f) + length ns → ns ≡ []
    by [] h = refl
    by (n ∷ ns) h = absurd (omega (arith, h))

fewer : (r : Reach) (f c k : ℕ) → f ≤ c → c ≤ k → length (up_to (reach_to r f) c) + length (up_to (reach_to (reach_to r f) c) k) ≤ length (up_to r k)
fewer r f c k low high =
    let r1 = reach_to r f in
    let front : length (up_to r k) ≡ length (up_to r f) + length (up_to r1 k) = ap length (up_more r f k (omega (arith, low, high))) ∙ length-append (up_to r f) (up_to r1 k) in
    let back : length (up_to r1 k) ≡ length (up_to r1 c) + length (up_to (reach_to r1 c) k) = ap length (up_more r1 c k high) ∙ length-append (up_to r1 c) (up_to (reach_to r1 c) k) in
    omega (arith, front, back)

module _ (to : ℕ) (short : to ≤ 4294967295) where
  -- a node by where it begins and ends
  one_case : (r : Reach) (n : Node) (inside after : List Node) (f c k p from end q : ℕ) → let r1 = reach_to r f in
      first_of n ≡ f → begin_of r n ≡ from → end_by r1 from n ≡ end → inside_of r1 n ≡ up_to r1 c → f ≤ c → c ≤ k
      → InRow p to r.out → p ≤ from → byte_at r f ≤ from → from ≤ to → end ≤ to → length inside ≡ n.inner → length inside + length (up_to r k) ≤ 4294967295
      → IsClosed r1 inside c from end → Follows (reach_after r1 inside) after c k → IsClosed (reach_to r1 c) after k end q → IsClosed r (n ∷ inside ++ after) k p q
  one_case r n inside after f c k p from end q e1 e2 e3 e4 low high row cursor before from_in end_in count few within follows later =
      one_closed r n inside after c k p to from end q (subst (λ (g : ℕ). g ≤ c) (sym e1) low) high row cursor (subst (λ (g : ℕ). byte_at r g ≤ from) (sym e1) before)
      (ap offset e2 ∙ small from (omega (arith, from_in, short)))
      (ap (λ (g : ℕ). offset (end_by (reach_to r g) (begin_of r n) n)) e1 ∙ (ap (λ (b : ℕ). offset (end_by (reach_to r f) b n)) e2 ∙ (ap offset e3 ∙ small end (omega (arith, end_in, short)))))
      (ap (λ (g : ℕ). offset (n.inner + length (inside_of (reach_to r g) n))) e1
      ∙ (ap (λ (ms : List Node). offset (n.inner + length ms)) e4
      ∙ (ap (λ (m : ℕ). offset (m + length (up_to (reach_to r f) c))) (sym count)
      ∙ (let less = fewer r f c k low high in small (length inside + length (up_to (reach_to r f) c)) (omega (arith, less, few)))
      ∙ ap (λ (g : ℕ). length inside + length (up_to (reach_to r g) c)) (sym e1))))
      (subst (λ (g : ℕ). IsClosed (reach_to r g) inside c from end) (sym e1) within)
      (subst (λ (g : ℕ). Follows (reach_after (reach_to r g) inside) after c k) (sym e1) follows)
      (subst (λ (g : ℕ). IsClosed (reach_to (reach_to r g) c) after k end q) (sym e1) later)

  -- nodes up to a byte, wherever the going over stands
  abbrev Closes : List Node → ℕ → ℕ → ℕ → Type 0
  Closes nodes last lo hi = (r : Reach) (k d p q : ℕ) → hi ≤ k + d → last ≤ k + d → d ≤ 1 → p ≤ lo + r.passed → InRow p to r.out → byte_at r k + 1 ≤ to → byte_at r k + d ≡ q
      → length nodes + length (up_to r k) ≤ 4294967295 → IsClosed r nodes k p q

  none_closes : (last lo hi : ℕ) → lo ≤ hi → Closes [] last lo hi
  none_closes last lo hi h r k d p q w v o l row near is few = record {
    nested =
        let g = at_least r k in
        subst (AreNested p q) (append-nil (up_to r k))
        (row_before p to q (k + r.passed) r.out [] row (omega (arith, h, w, l, g, is)) (omega (arith, is)) q (over (omega arith)));
    count_is = let z : length (up_to r k) ≡ 0 + length (up_to r k) = omega arith in z;
    reach_is = refl;
  }

  part_closes : (n : Node) (inside after : List Node) (last lo hi : ℕ) → lo ≤ n.begin → n.begin + 1 ≤ n.end → is_snippet n.kind ≡ false → length inside ≡ n.inner → n.end ≤ hi → AreKept last n.end hi after
      → Closes inside n.end n.begin n.end → Closes after last n.end hi → Closes (n ∷ inside ++ after) last lo hi
  part_closes n inside after last lo hi b s is count h a within later r k d p q w v o l row near q_is few =
      let r1 = reach_to r n.begin in
      let c : ℕ = n.end - 1 in
      let from = byte_at r n.begin in
      let end = byte_at r1 c + 1 in
      let low : n.begin ≤ n.end - 1 = omega (arith, s) in
      let high : n.end - 1 ≤ k = omega (arith, s, h, w, o) in
      let at_begin = later_at r n.begin k (omega (arith, low, high)) in
      let same = at_more r n.begin (n.end - 1) low in
      let at_end = later_at r (n.end - 1) k high in
      let near1 : byte_at r1 (n.end - 1) + 1 ≤ to = omega (arith, same, at_end, near) in
      let least = at_least r n.begin in
      let all : length (n ∷ inside ++ after) ≡ suc (length inside + length after) = ap suc (length-append inside after) in
      let less = fewer r n.begin (n.end - 1) k low high in
      let row1 = left_after r p to n.begin row (omega (arith, at_begin, near)) in
      let row2 = left_after r1 (from + 1) to c row1 near1 in
      let k_same = at_more r1 (n.end - 1) k high ∙ at_more r n.begin k (omega (arith, low, high)) in
      one_case r n inside after n.begin c k p from end q (rw is refl) (rw is refl) (rw (is, lt-ltb n.begin n.end (omega (arith, s))) refl) (rw (is, lt-ltb n.begin n.end (omega (arith, s))) refl) low high row (omega (arith, b, l, least)) (omega arith)
      (omega (arith, at_begin, near)) near1 count (omega (arith, all, few))
      (within r1 c 1 from end (omega (arith, s)) (omega (arith, s)) (omega arith) (omega arith) (earlier from (from + 1) to r1.out (omega arith) row1) near1 refl (omega (arith, all, few, less)))
      (kept_follow (reach_after r1 inside) last n.end hi k c after a (omega arith) high)
      (later (reach_to r1 c) k d end q w v o (omega (arith, s)) row2 (omega (arith, k_same, near)) (omega (arith, k_same, q_is)) (omega (arith, all, few, less)))

  notes_close : (n : Node) (inside after : List Node) (last lo hi : ℕ) → lo + 1 ≤ n.begin → n.begin ≤ n.end → n.end + 1 ≤ hi → is_snippet n.kind ≡ true → length inside ≡ n.inner → AreKept last n.end hi after
      → Closes inside n.end n.begin n.end → Closes after last n.end hi → Closes (n ∷ inside ++ after) last lo hi
  notes_close n inside after last lo hi b s h is count a within later r k d p q w v o l row near q_is few =
      let f : ℕ = n.begin - 1 in
      let r1 = reach_to r f in
      let from = byte_at r f + 1 in
      let end = byte_at r1 n.end in
      let low : n.begin - 1 ≤ n.end = omega (arith, s) in
      let high : n.end ≤ k = omega (arith, h, w, o) in
      let at_begin = later_at r (n.begin - 1) k (omega (arith, low, high)) in
      let same = at_more r (n.begin - 1) n.end low in
      let at_end = later_at r n.end k high in
      let near1 : byte_at r1 n.end + 1 ≤ to = omega (arith, same, at_end, near) in
      let least = at_least r (n.begin - 1) in
      let all : length (n ∷ inside ++ after) ≡ suc (length inside + length after) = ap suc (length-append inside after) in
      let less = fewer r (n.begin - 1) n.end k low high in
      let row1 = left_after r p to f row (omega (arith, at_begin, near)) in
      let row2 = left_after r1 from to n.end row1 near1 in
      let k_same = at_more r1 n.end k high ∙ at_more r (n.begin - 1) k (omega (arith, low, high)) in
      one_case r n inside after f n.end k p from end q (rw (is, lt-ltb 0 n.begin (omega (arith, b))) refl) (rw (is, lt-ltb 0 n.begin (omega (arith, b))) refl) (rw is refl) (rw is refl) low high row (omega (arith, b, l, least)) (omega arith)
      (omega (arith, at_begin, near)) (omega (arith, near1)) count (omega (arith, all, few))
      (within r1 n.end 0 from end (omega arith) (omega arith) (omega arith) (omega (arith, b)) row1 near1 (omega arith) (omega (arith, all, few, less)))
      (kept_follow (reach_after r1 inside) last n.end hi k n.end after a (omega arith) high)
      (later (reach_to r1 n.end) k d end q w v o (omega arith) (earlier end (end + 1) to (reach_to r1 n.end).out (omega arith) row2) (omega (arith, k_same, near)) (omega (arith, k_same, q_is)) (omega (arith, all, few, less)))

  empty_closes : (n : Node) (after : List Node) (last lo hi : ℕ) → lo ≤ n.begin → n.begin ≡ n.end → n.begin + 1 ≤ last → is_snippet n.kind ≡ false → 0 ≡ n.inner → AreKept last n.end hi after
      → Closes after last n.end hi → Closes (n ∷ after) last lo hi
  empty_closes n after last lo hi b e h is count a later r k d p q w v o l row near q_is few =
      let r1 = reach_to r n.begin in
      let from = byte_at r n.begin in
      let high : n.begin ≤ k = omega (arith, h, v, o) in
      let at_begin = later_at r n.begin k high in
      let least = at_least r n.begin in
      let none_now : up_to r1 n.begin ≡ [] = no_more r n.begin in
      let none_length : length (up_to r1 n.begin) ≡ 0 = ap length none_now in
      let r_same = reach_more r n.begin n.begin (omega arith) in
      let less = fewer r n.begin n.begin k (omega arith) high in
      let row1 = left_after r p to n.begin row (omega (arith, at_begin, near)) in
      let k_same = ap (λ (t : Reach). byte_at t k) r_same ∙ at_more r n.begin k high in
      one_case r n [] after n.begin n.begin k p from from q (rw is refl) (rw is refl) (rw (is, not_less n.begin n.end e) refl) (rw (is, not_less n.begin n.end e) (sym none_now)) (omega arith) high row (omega (arith, b, l, least)) (omega arith)
      (omega (arith, at_begin, near)) (omega (arith, at_begin, near)) count (omega (arith, few))
      (record { nested = subst (AreNested from from) (sym none_now) (over (omega arith)); count_is = let z : length (up_to r1 n.begin) ≡ 0 + length (up_to r1 n.begin) = omega arith in z; reach_is = refl })
      (kept_follow r1 last n.end hi k n.begin after a (omega (arith, e)) high)
      (subst (λ (t : Reach). IsClosed t after k from q) (sym r_same)
      (later r1 k d from q w v o (omega (arith, e)) (earlier from (from + 1) to r1.out (omega arith) row1) (let g = at_more r n.begin k high in omega (arith, g, near)) (let g = at_more r n.begin k high in omega (arith, g, q_is)) (omega (arith, few, less, none_length, ap (λ (t : Reach). length (up_to t k)) r_same))))

  pub kept_closes : (last lo hi : ℕ) (nodes : List Node) → AreKept last lo hi nodes → Closes nodes last lo hi
  kept_closes last lo hi nodes (none h) = none_closes last lo hi h
  kept_closes last lo hi nodes (part {n} {inside} {after} b s is c i a) =
      part_closes n inside after last lo hi b s is c (kept_order last n.end hi after a) a (kept_closes n.end n.begin n.end inside i) (kept_closes last n.end hi after a)
  kept_closes last lo hi nodes (empty {n} {after} b e h is c a) = empty_closes n after last lo hi b e h is c a (kept_closes last n.end hi after a)
  kept_closes last lo hi nodes (notes {n} {inside} {after} b h is c i a) =
      notes_close n inside after last lo hi b (kept_order n.end n.begin n.end inside i) h is c a (kept_closes n.end n.begin n.end inside i) (kept_closes last n.end hi after a)
