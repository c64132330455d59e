-- What is not kept before a kept byte, and where that byte stands, one byte after the other.
use Rattle.std.proofs.Common.{◌≡◌, ℕ, ◌+◌, ◌-◌, ◌≤◌, Bool, true, false, cond, List, [], ◌∷◌, ◌++◌, length, length-append, drop, refl, sym, ap, subst, ◌∙◌, arith, nat_le}
use Rattle.std.proofs.lemmas.Bool.{leb-true, leb-false, le-leb}
use Rattle.std.proofs.lemmas.List.{drop-drop}
use Rattle.gabc_nodes.specs.declared.node.Node.{Node}
use Rattle.gabc_tree.specs.Nested.{AreNested, over, node}
use Rattle.gabc_tree.specs.Placed.{Reach, bytes_in, before_byte, up_to, reach_to, byte_at}
use Rattle.gabc_tree.proofs.NestedHeaders.{sooner}
use Rattle.gabc_tree.proofs.not_kept_nodes.InPlace.{InRow}

-- ---- one byte after the other

abbrev size : Node → ℕ
size s = s.end - s.begin

-- what stands before a later byte
before_more : (a k : ℕ) (out : List Node) → let front = before_byte a out in
    before_byte (a + k) out ≡ front ++ before_byte (a + k + bytes_in front) (drop (length front) out)
before_more a k [] = refl
before_more a k (s ∷ out) = by (nat_le s.begin a) refl (before_more (a + size s) k out)
  where
    first : s.begin ≤ a → nat_le s.begin (a + k) ≡ true
    first h = le-leb s.begin (a + k) (omega (arith, h))

    by : (o : Bool) → nat_le s.begin a ≡ o
        → before_byte (a + size s + k) out ≡ before_byte (a + size s) out ++ before_byte (a + size s + k + bytes_in (before_byte (a + size s) out)) (drop (length (before_byte (a + size s) out)) out)
        → let front = cond o (s ∷ before_byte (a + size s) out) [] in
        before_byte (a + k) (s ∷ out) ≡ front ++ before_byte (a + k + bytes_in front) (drop (length front) (s ∷ out))
    by true e later =
        let f = before_byte (a + size s) out in
        let one : a + k + size s ≡ a + size s + k = omega arith in
        let two : a + size s + k + bytes_in f ≡ a + k + (size s + bytes_in f) = omega arith in
        ap (λ (o : Bool). cond o (s ∷ before_byte (a + k + size s) out) []) (first (leb-true s.begin a e))
        ∙ (ap (λ (n : ℕ). s ∷ before_byte n out) one
        ∙ (ap (λ (u : List Node). s ∷ u) later
        ∙ ap (λ (n : ℕ). s ∷ (f ++ before_byte n (drop (length f) out))) two))
    by false e later = let z : a + k ≡ a + k + 0 = omega arith in ap (λ (n : ℕ). before_byte n (s ∷ out)) z

bytes_both : (ns ms : List Node) → bytes_in (ns ++ ms) ≡ bytes_in ns + bytes_in ms
bytes_both [] ms = omega arith
bytes_both (n ∷ ns) ms = let h = bytes_both ns ms in omega (arith, h)

module _ (r : Reach) (n m : ℕ) (h : n ≤ m) where
  pub up_more : up_to r m ≡ up_to r n ++ up_to (reach_to r n) m
  up_more =
      let k : ℕ = m - n in
      let f = up_to r n in
      let one : m + r.passed ≡ n + r.passed + k = omega (arith, h) in
      let two : n + r.passed + k + bytes_in f ≡ m + (r.passed + bytes_in f) = omega (arith, h) in
      ap (λ (a : ℕ). before_byte a r.out) one
      ∙ (before_more (n + r.passed) k r.out
      ∙ ap (λ (a : ℕ). f ++ before_byte a (drop (length f) r.out)) two)

  pub reach_more : reach_to (reach_to r n) m ≡ reach_to r m
  reach_more =
      let f = up_to r n in
      let g = up_to (reach_to r n) m in
      let e = up_more in
      let long : length f + length g ≡ length (up_to r m) = sym (ap length e ∙ length-append f g) in
      let more : r.passed + bytes_in f + bytes_in g ≡ r.passed + bytes_in (up_to r m) = let b = ap bytes_in e ∙ bytes_both f g in omega (arith, b) in
      ap (λ (out : List Node). let q : Reach = record { out = out; passed = r.passed + bytes_in f + bytes_in g } in q) (drop-drop (length g) (length f) r.out ∙ ap (λ (k : ℕ). drop k r.out) long)
      ∙ ap (λ (p : ℕ). let q : Reach = record { out = drop (length (up_to r m)) r.out; passed = p } in q) more

  pub at_more : byte_at (reach_to r n) m ≡ byte_at r m
  at_more = ap (λ (q : Reach). m + q.passed) reach_more

-- ---- what is not kept, in its place

-- what is not kept before a byte stands before it
pub row_before : (from to q a : ℕ) (out rest : List Node) → InRow from to out → from ≤ q → a + bytes_in (before_byte a out) ≤ q → (end : ℕ) → AreNested q end rest → AreNested from end (before_byte a out ++ rest)
row_before from to q a [] rest r h i end x = sooner from q end rest h x
row_before from to q a (s ∷ out) rest r h i end x = by (nat_le s.begin a) refl i (λ j k. row_before s.end to q (a + size s) out rest r.3 j k end x)
  where
    by : (o : Bool) → nat_le s.begin a ≡ o → a + bytes_in (cond o (s ∷ before_byte (a + size s) out) []) ≤ q
        → (s.end ≤ q → a + size s + bytes_in (before_byte (a + size s) out) ≤ q → AreNested s.end end (before_byte (a + size s) out ++ rest))
        → AreNested from end (cond o (s ∷ before_byte (a + size s) out) [] ++ rest)
    by true e k later =
        let first = leb-true s.begin a e in
        let order = r.1 in
        node {n = s} {inside = []} {after = before_byte (a + size s) out ++ rest} r.0 (sym r.2) (over r.1)
        (later (omega (arith, first, order, k)) (omega (arith, k)))
    by false e k later = sooner from q end rest h x

-- what is left stands after it
pub row_after : (from to a : ℕ) (out : List Node) → InRow from to out → a + bytes_in (before_byte a out) + 1 ≤ to → InRow (a + bytes_in (before_byte a out) + 1) to (drop (length (before_byte a out)) out)
row_after from to a [] r h = h
row_after from to a (s ∷ out) r h = by (nat_le s.begin a) refl h (row_after s.end to (a + size s) out r.3)
  where
    by : (o : Bool) → nat_le s.begin a ≡ o → a + bytes_in (cond o (s ∷ before_byte (a + size s) out) []) + 1 ≤ to
        → (a + size s + bytes_in (before_byte (a + size s) out) + 1 ≤ to → InRow (a + size s + bytes_in (before_byte (a + size s) out) + 1) to (drop (length (before_byte (a + size s) out)) out))
        → let front = cond o (s ∷ before_byte (a + size s) out) [] in InRow (a + bytes_in front + 1) to (drop (length front) (s ∷ out))
    by true e k later =
        let is : a + size s + bytes_in (before_byte (a + size s) out) + 1 ≡ a + (size s + bytes_in (before_byte (a + size s) out)) + 1 = omega arith in
        subst (λ (n : ℕ). InRow n to (drop (length (before_byte (a + size s) out)) out)) is (later (omega (arith, k)))
    by false e k later = let more = leb-false s.begin a e in (omega (arith, more), r.1, r.2, r.3)
