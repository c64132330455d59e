-- The pieces of a descriptor, one after the other.
use Rattle.std.proofs.Common.{◌≡◌, ◌≢◌, ◌≤◌, ◌<◌, ℕ, zero, suc, ◌+◌, ◌-◌, ◌==◌, Bool, false, List, [], ◌∷◌, length, drop, get_or, drop-cons, ne_eqb, refl, ap, sym, ◌∙◌, arith, if◌then◌else◌}
use Rattle.std.proofs.lemmas.List.{drop-drop}
use Rattle.gabc_nodes.specs.declared.kind.Kind.{Kind}
use Rattle.gabc_nodes.specs.declared.node.Node.{Node}
use Rattle.gabc_tree.specs.NabcNodes.{piece_kind, kind_of_piece, piece_len, piece_numbers, piece_node, pieces_from}
use Rattle.gabc_tree.specs.NoteNodes.{node_at}
use Rattle.gabc_tree.specs.declared.numbers.Numbers.{Numbers}

-- the rest of a piece is passed
rest_is_passed : (base skip at : ℕ) (t : List ℕ) → pieces_from base skip at t ≡ pieces_from base 0 (at + skip) (drop skip t)
rest_is_passed base zero at t = let same : at ≡ at + 0 = omega arith in ap (λ (n : ℕ). pieces_from base 0 n t) same
rest_is_passed base (suc skip) at [] = refl
rest_is_passed base (suc skip) at (c ∷ t) =
    let same : at + 1 + skip ≡ at + suc skip = omega arith in
    rest_is_passed base skip (at + 1) t ∙ ap (λ (n : ℕ). pieces_from base 0 n (drop skip t)) same

-- from the first character of a piece on
from_first : (base at c : ℕ) (t : List ℕ) → (c == 33) ≡ false → 1 ≤ piece_len (c ∷ t)
    → pieces_from base 0 at (c ∷ t) ≡ piece_node base at (c ∷ t) ∷ pieces_from base 0 (at + piece_len (c ∷ t)) (drop (piece_len (c ∷ t) - 1) t)
from_first base at c t e some =
    let rest : List Node = piece_node base at (c ∷ t) ∷ pieces_from base (piece_len (c ∷ t) - 1) (at + 1) t in
    let same : at + 1 + (piece_len (c ∷ t) - 1) ≡ at + piece_len (c ∷ t) = omega arith in
    ap (λ (b : Bool). if b then pieces_from base 0 (at + 1) t else rest) e
    ∙ ap (λ (l : List Node). piece_node base at (c ∷ t) ∷ l)
    (rest_is_passed base (piece_len (c ∷ t) - 1) (at + 1) t
    ∙ ap (λ (n : ℕ). pieces_from base 0 n (drop (piece_len (c ∷ t) - 1) t)) same)

-- from a piece on
pub from_piece : (base at : ℕ) (text : List ℕ) → at < length text → get_or text at 0 ≢ 33 → 1 ≤ piece_len (drop at text)
    → pieces_from base 0 at (drop at text)
    ≡ piece_node base at (drop at text) ∷ pieces_from base 0 (at + piece_len (drop at text)) (drop (at + piece_len (drop at text)) text)
from_piece base at text h e some =
    let c : ℕ = get_or text at 0 in
    let t : List ℕ = drop (suc at) text in
    let cut : drop at text ≡ c ∷ t = drop-cons text at 0 h in
    let len : ℕ = piece_len (drop at text) in
    let len_is : piece_len (c ∷ t) ≡ len = ap piece_len (sym cut) in
    let some_here : 1 ≤ piece_len (c ∷ t) = omega (arith, len_is, some) in
    let to : suc at + (len - 1) ≡ at + len = omega (arith, some) in
    ap (λ (l : List ℕ). pieces_from base 0 at l) cut
    ∙ (from_first base at c t (ne_eqb c 33 e) some_here
    ∙ (ap (λ (l : List ℕ). piece_node base at l ∷ pieces_from base 0 (at + piece_len l) (drop (piece_len l - 1) t)) (sym cut)
    ∙ ap (λ (l : List ℕ). piece_node base at (drop at text) ∷ pieces_from base 0 (at + len) l) (drop-drop (len - 1) (suc at) text ∙ ap (λ (n : ℕ). drop n text) to)))

-- a node of these numbers is that of the piece
pub node_of_piece : (base at : ℕ) (t : List ℕ) (len : ℕ) (k : Kind) (n : Numbers) → len ≡ piece_len t → k ≡ kind_of_piece (piece_kind t) → n ≡ piece_numbers t
    → node_at base (record { from = at; to = at + len }) 0 k n ≡ piece_node base at t
node_of_piece base at t len k n l e s =
    ap (λ (len : ℕ). node_at base (record { from = at; to = at + len }) 0 k n) l
    ∙ (ap (λ (k : Kind). node_at base (record { from = at; to = at + piece_len t }) 0 k n) e
    ∙ ap (λ (n : Numbers). node_at base (record { from = at; to = at + piece_len t }) 0 (kind_of_piece (piece_kind t)) n) s)
