-- The places of nodes of kept texts in the input, and what is not kept between them. The kept bytes
-- of an input are counted from 0.
use Rattle.std.specs.Prelude.{ℕ, ◌+◌, ◌-◌, min, List, [], ◌∷◌, ◌++◌, Bool, cond, ◌&&◌, ◌==◌, nat_le, nat_lt, length, drop}
use Rattle.gabc_nodes.specs.declared.kind.Kind.{Kind}
use Rattle.gabc_nodes.specs.declared.kind.Kind.TheVariants.{Snippet}
use Rattle.gabc_nodes.specs.declared.node.Node.{Node}
use Rattle.gabc_nodes.specs.Kind.{number_of}

-- an offset or a count of a node: none is larger
abbrev pub offset : ℕ → ℕ
offset n = min n 4294967295

-- the number of bytes that these nodes have
abbrev pub bytes_in : List Node → ℕ
bytes_in [] = 0
bytes_in (s ∷ out) = s.end - s.begin + bytes_in out

-- the nodes of what is not kept before a byte that would be the byte n without them
abbrev pub before_byte : ℕ → List Node → List Node
before_byte n [] = []
before_byte n (s ∷ out) = cond (nat_le s.begin n) (s ∷ before_byte (n + (s.end - s.begin)) out) []

-- The nodes of what is not kept from a place on, and the number of bytes before that place that are
-- not kept.
pub record Reach : Type 0 where
  pub out : List Node
  pub passed : ℕ

-- what is not kept from there to the kept byte n, the place there, and the byte of the input that
-- it is
abbrev pub up_to : Reach → ℕ → List Node
up_to r n = before_byte (n + r.passed) r.out

abbrev pub reach_to : Reach → ℕ → Reach
reach_to r n = record { out = drop (length (up_to r n)) r.out; passed = r.passed + bytes_in (up_to r n) }

abbrev pub byte_at : Reach → ℕ → ℕ
byte_at r n = n + (reach_to r n).passed

-- ---- a node, whose bytes are kept bytes

abbrev pub is_snippet : Kind → Bool
is_snippet k = number_of k == number_of Snippet

-- whatever is between its marks belongs to a snippet
abbrev pub is_between : Node → Bool
is_between n = is_snippet n.kind && nat_lt 0 n.begin

-- the last kept byte before which no byte of the node comes
abbrev pub first_of : Node → ℕ
first_of n = cond (is_between n) (n.begin - 1) n.begin

abbrev pub begin_of : Reach → Node → ℕ
begin_of r n = cond (is_between n) (byte_at r (n.begin - 1) + 1) (byte_at r n.begin)

-- the nodes of what is not kept that lie in it, after that place
abbrev pub inside_of : Reach → Node → List Node
inside_of r n =
    cond (is_snippet n.kind) (up_to r n.end)
    (cond (nat_lt n.begin n.end) (up_to r (n.end - 1)) [])

-- the byte before which it ends, if it begins at that byte
abbrev pub end_by : Reach → ℕ → Node → ℕ
end_by r begin n =
    cond (is_snippet n.kind) (byte_at r n.end)
    (cond (nat_lt n.begin n.end) (byte_at r (n.end - 1) + 1) begin)

-- the node in the input, with what is not kept before it
abbrev pub node_in : Reach → Node → Node
node_in r n =
    let there = reach_to r (first_of n) in
    record n { begin = offset (begin_of r n); end = offset (end_by there (begin_of r n) n); inner = offset (n.inner + length (inside_of there n)) }

abbrev pub nodes_at : Reach → Node → List Node
nodes_at r n = up_to r (first_of n) ++ node_in r n ∷ []

abbrev pub reach_past : Reach → Node → Reach
reach_past r n = reach_to r (first_of n)

-- nodes one after the other
abbrev pub placed_from : Reach → List Node → List Node
placed_from r [] = []
placed_from r (n ∷ ns) = nodes_at r n ++ placed_from (reach_past r n) ns

abbrev pub reach_after : Reach → List Node → Reach
reach_after r [] = r
reach_after r (n ∷ ns) = reach_after (reach_past r n) ns

-- a node of a text whose first byte is the kept byte `base`
abbrev pub moved : ℕ → Node → Node
moved base n = record n { begin = offset (base + n.begin); end = offset (base + n.end) }
