-- What is not kept stands one after the other in the input.
use Rattle.std.proofs.Common.{◌≡◌, ◌+◌, ◌≤◌, ℕ, List, [], ◌∷◌, ◌++◌, cond, true, false, Bool, ◌&&◌, ◌==◌, Option, Some, None, refl, sym, subst, arith}
use Rattle.std.specs.Char.{len_utf8}
use Rattle.gabc_headers.proofs.entries.TextsAsBytes.{bytes_len-cons}
use Rattle.gabc_headers.specs.Lines.{bytes_len}
use Rattle.gabc_nodes.specs.declared.kind.Kind.{Kind}
use Rattle.gabc_nodes.specs.declared.node.Node.{Node}
use Rattle.gabc_tree.specs.Nested.{AreNested, over, node}
use Rattle.gabc_tree.specs.NotKept.{Reached, joins, joined, joined_to, nodes_by, nodes_from, out_of, past}

-- nodes one after the other, in which no other lies
abbrev pub InRow : ℕ → ℕ → List Node → Type 0
InRow from to [] = from ≤ to
InRow from to (n ∷ ns) = (from ≤ n.begin) × (n.begin ≤ n.end) × (n.inner ≡ 0) × InRow n.end to ns

pub earlier : (from at to : ℕ) (ns : List Node) → from ≤ at → InRow at to ns → InRow from to ns
earlier from at to [] h r = omega (arith, h, r)
earlier from at to (n ∷ ns) h r = (omega (arith, h, r.0), r.1, r.2, r.3)

-- so they lie in one another
pub row_nested : (from to : ℕ) (ns : List Node) → InRow from to ns → AreNested from to ns
row_nested from to [] r = over r
row_nested from to (n ∷ ns) r = node {n = n} {inside = []} {after = ns} r.0 (sym r.2) (over r.1) (row_nested n.end to ns r.3)

-- ---- what is not kept

pub from_row : (cs : List ℕ) (s : Reached) → InRow s.byte (s.byte + bytes_len cs) (nodes_from s cs)
from_row [] s = omega arith
from_row (c ∷ cs) s =
    let n = bytes_len-cons c cs in
    let is : s.byte + len_utf8 c + bytes_len cs ≡ s.byte + bytes_len (c ∷ cs) = omega (arith, n) in
    by (out_of s c) (subst (λ (to : ℕ). InRow (s.byte + len_utf8 c) to (nodes_from (past s c) cs)) is (from_row cs (past s c)))
  where
    by : (o : Option (Kind × ℕ)) → InRow (s.byte + len_utf8 c) (s.byte + bytes_len (c ∷ cs)) (nodes_from (past s c) cs)
        → InRow s.byte (s.byte + bytes_len (c ∷ cs)) (nodes_by o s.byte (s.byte + len_utf8 c) ++ nodes_from (past s c) cs)
    by None r = earlier s.byte (s.byte + len_utf8 c) (s.byte + bytes_len (c ∷ cs)) (nodes_from (past s c) cs) (omega arith) r
    by (Some out) r = (omega arith, omega arith, refl, r)

to_row : (from to : ℕ) (n : Node) (ns : List Node) → InRow from to (n ∷ ns) → InRow from to (joined_to n ns)
to_row from to n [] r = r
to_row from to n (m ∷ ms) r = by (joins n.kind m.kind && (n.end == m.begin))
  where
    by : (o : Bool) → InRow from to (cond o (record n { end = m.end } ∷ ms) (n ∷ m ∷ ms))
    by true = (r.0, omega (arith, r.1, r.3.0, r.3.1), r.2, r.3.3)
    by false = r

pub joined_row : (from to : ℕ) (ns : List Node) → InRow from to ns → InRow from to (joined ns)
joined_row from to [] r = r
joined_row from to (n ∷ ns) r = to_row from to n (joined ns) (r.0, r.1, r.2, joined_row n.end to ns r.3)
