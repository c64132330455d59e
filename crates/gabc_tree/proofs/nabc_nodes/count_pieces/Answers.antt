use Rattle.std.proofs.Common.{◌≡◌, ◌≤◌, ◌+◌, ℕ, length, length-drop, drop, ap, ◌∙◌, arith}
use Rattle.std.proofs.lemmas.List.{take_rest}
use Rattle.gabc_nodes.specs.declared.node.Node.{Node}
use Rattle.gabc_tree.specs.NabcNodes.{piece_len, pieces_from}
use Rattle.gabc_tree.proofs.PiecesOfDescriptors.{from_piece}
use Rattle.gabc_tree.proofs.nabc_nodes.count_pieces.Goals as goal

pub loop-at-preserved : goal.loop-at-preserved
loop-at-preserved c =
    let text = c.args.text.now in
    let at = c.loop-at.at in
    let h = c.loop-at.invariant in
    let piece = c.piece_at-at.ensures in
    let size : c.piece_at-at.result.len ≡ piece_len (drop at text) = piece.len ∙ ap piece_len (take_rest text at) in
    let some : 1 ≤ piece_len (drop at text) = omega (arith, size, piece.some) in
    let len : at + piece_len (drop at text) ≡ at + c.piece_at-at.result.len = omega (arith, size) in (
      omega (arith, piece.within, ap (length {A = ℕ}) (take_rest text at), length-drop at text),
      omega (arith, piece.some),
      λ base.
          let nodes = ap (length {A = Node}) (from_piece base at text c.loop-at-test.true c.if-text-at-eq33.false some) in
          let moved = ap (λ (n : ℕ). length (pieces_from base 0 n (drop n text))) len in
          omega (arith, nodes, moved, h.2 base),
    )
