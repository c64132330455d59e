-- What is not kept has no more bytes than the input.
use Rattle.std.proofs.Common.{◌≡◌, ◌+◌, ◌-◌, ◌≤◌, ◌<◌, ◌^◌, ℕ, List, [], ◌∷◌, ◌++◌, length, Option, Some, None, arith, IsUtf8}
use Rattle.std.specs.List.{sum_by}
use Rattle.std.specs.Str.{chars}
use Rattle.gabc_headers.proofs.entries.TextsAsBytes.{bytes_len-chars, bytes_len-cons}
use Rattle.std.specs.Char.{len_utf8}
use Rattle.gabc_nodes.specs.declared.kind.Kind.{Kind}
use Rattle.gabc_nodes.specs.declared.node.Node.{Node}
use Rattle.gabc_tree.specs.NotKept.{Reached, joined, joined_to, nodes_from, nodes_of, nodes_by, out_of, past}
use Rattle.gabc_tree.specs.Placed.{bytes_in}

joined_to_bytes : (n : Node) (ns : List Node) → bytes_in (joined_to n ns) ≤ n.end - n.begin + bytes_in ns
joined_to_bytes n [] = grind arith
joined_to_bytes n (m ∷ ms) = grind arith

pub joined_bytes : (ns : List Node) → bytes_in (joined ns) ≤ bytes_in ns
joined_bytes [] = grind arith
joined_bytes (n ∷ ns) = grind (arith, joined_bytes ns, joined_to_bytes n (joined ns))

bytes_both : (ns ms : List Node) → bytes_in (ns ++ ms) ≡ bytes_in ns + bytes_in ms
bytes_both [] ms = grind arith
bytes_both (n ∷ ns) ms = grind (arith, bytes_both ns ms)

bytes_by : (out : Option (Kind × ℕ)) (from n : ℕ) → bytes_in (nodes_by out from (from + n)) ≤ n
bytes_by None from n = grind arith
bytes_by (Some out) from n = grind arith

pub bytes_from : (s : Reached) (cs : List ℕ) → bytes_in (nodes_from s cs) ≤ sum_by len_utf8 cs
bytes_from s [] = grind arith
bytes_from s (c ∷ cs) = together (bytes_in (nodes_from s (c ∷ cs))) (bytes_in (nodes_of s c)) (bytes_in (nodes_from (past s c) cs)) (len_utf8 c) (sum_by len_utf8 cs) (sum_by len_utf8 (c ∷ cs)) (bytes_len-cons c cs)
    (bytes_both (nodes_of s c) (nodes_from (past s c) cs)) (bytes_by (out_of s c) s.byte (len_utf8 c)) (bytes_from (past s c) cs)
  where
    together : (all a b x y sum : ℕ) → sum ≡ x + y → all ≡ a + b → a ≤ x → b ≤ y → all ≤ sum
    together all a b x y sum sum_is is le more = grind arith

-- what is not kept of an input, of the characters that it spells
pub few_bytes : (s : Reached) (input : List ℕ) → IsUtf8 input → length input < 2 ^ 32 → bytes_in (joined (nodes_from s (chars input))) < 2 ^ 32
few_bytes s input utf8 short = together (bytes_in (joined (nodes_from s (chars input)))) (bytes_in (nodes_from s (chars input))) (sum_by len_utf8 (chars input)) (length input)
    (joined_bytes (nodes_from s (chars input))) (bytes_from s (chars input)) (bytes_len-chars input utf8) short
  where
    together : (a b c d : ℕ) → a ≤ b → b ≤ c → c ≡ d → d < 2 ^ 32 → a < 2 ^ 32
    together a b c d p q r l = grind arith
