use Rattle.std.proofs.Common.{◌≡◌, ◌≤◌, ◌+◌, ◌++◌, ℕ, List, [], ◌∷◌, length, drop, length-drop, append_assoc, sym, ap, ◌∙◌, arith}
use Rattle.std.proofs.lemmas.List.{take_rest}
use Rattle.gabc_nodes.specs.declared.node.Node.{Node}
use Rattle.gabc_tree.specs.NabcNodes.{piece_kind, kind_of_piece, piece_len, piece_numbers, piece_node, pieces_from}
use Rattle.gabc_tree.proofs.PiecesOfDescriptors.{from_piece, node_of_piece}
use Rattle.gabc_tree.proofs.nabc_nodes.add_pieces.Goals as goal

pub loop-at-preserved : goal.loop-at-preserved
loop-at-preserved c =
    let base = c.args.base in
    let text = c.args.text.now in
    let at = c.loop-at.at in
    let out = c.loop-at.out.items in
    let h = c.loop-at.invariant in
    let piece = c.piece_at-piece.ensures in
    let rest = take_rest text at in
    let size : c.piece_at-piece.result.len ≡ piece_len (drop at text) = piece.len ∙ ap piece_len rest in
    let kind : c.piece_at-piece.result.kind ≡ kind_of_piece (piece_kind (drop at text)) = piece.kind ∙ ap (λ (t : List ℕ). kind_of_piece (piece_kind t)) rest in
    let numbers : c.piece_at-piece.result.numbers ≡ piece_numbers (drop at text) = piece.numbers ∙ ap piece_numbers rest in
    let some : 1 ≤ piece_len (drop at text) = omega (arith, size, piece.some) in
    let len : at + c.piece_at-piece.result.len ≡ at + piece_len (drop at text) = omega (arith, size) in
    let node : c.node_at.result ≡ piece_node base at (drop at text) = c.node_at.ensures ∙ node_of_piece base at (drop at text) _ _ _ size kind numbers in
    let later : List Node = pieces_from base 0 (at + piece_len (drop at text)) (drop (at + piece_len (drop at text)) text) in (
      omega (arith, piece.within, ap (length {A = ℕ}) rest, length-drop at text),
      ap (λ (n : ℕ). c.push.new.self.items ++ pieces_from base 0 n (drop n text)) len
          ∙ (ap (λ (l : List Node). l ++ later) (c.in_ok-push.ensures.items ∙ ap (λ (n : Node). out ++ n ∷ []) node)
          ∙ (append_assoc out (piece_node base at (drop at text) ∷ []) later
          ∙ (ap (λ (l : List Node). out ++ l) (sym (from_piece base at text c.loop-at-test.true c.if-text-at-eq33.false some)) ∙ h.1))),
    )
