use Rattle.std.proofs.Common.{sym, subst}
use Rattle.gabc_tree.specs.Signs.{suffixes}
use Rattle.gabc_tree.specs.declared.signs.NoteSigns.{NoteSigns}
use Rattle.gabc_tree.proofs.FewCovered.{AreFew, are_few}
use Rattle.gabc_tree.proofs.numbers.numbers_of_note.Goals as goal

pub number_of_covered-requires : goal.number_of_covered-requires
number_of_covered-requires c =
    subst (λ (s : NoteSigns). AreFew s.covered) (sym c.signs_in-signs.ensures) (are_few (suffixes c.after_pitch.result.now))
