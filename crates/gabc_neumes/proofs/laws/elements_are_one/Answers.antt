use Rattle.gabc_neumes.specs.Elements.{is_in_element, is_in_segment}
use Rattle.gabc_neumes.proofs.runs_of_items.RunsAreOne.{runs_are_one}
use Rattle.gabc_neumes.proofs.laws.elements_are_one.Goals as goal

pub returns-clause-elements : goal.returns-clause-elements
returns-clause-elements c = λ kept. runs_are_one (is_in_element kept)

pub returns-clause-segments : goal.returns-clause-segments
returns-clause-segments c = runs_are_one is_in_segment
