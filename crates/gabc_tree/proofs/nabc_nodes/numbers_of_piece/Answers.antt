use Rattle.std.proofs.Common.{sym, ap, ◌∙◌}
use Rattle.gabc_tree.specs.NabcNodes.{piece_numbers_by}
use Rattle.gabc_tree.specs.declared.nabc_nodes.PieceKind.{PieceKind}
use Rattle.gabc_tree.proofs.nabc_nodes.numbers_of_piece.Goals as goal

pub returns-in-Points : goal.returns-in-Points
returns-in-Points c = c.numbers_of_points.ensures c.args.pitch ∙ ap (λ (k : PieceKind). piece_numbers_by k c.args.pitch c.args.text.now) (sym c.in-Points.is)

pub returns-in-Letters : goal.returns-in-Letters
returns-in-Letters c = c.numbers_of_letters.ensures c.args.pitch ∙ ap (λ (k : PieceKind). piece_numbers_by k c.args.pitch c.args.text.now) (sym c.in-Letters.is)
