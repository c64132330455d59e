use Rattle.std.proofs.Common.{map, length}
use Rattle.gabc_places.specs.StageLaw.{concat_of}
use Rattle.gabc_places.proofs.ChainKeepsEvents.{joined-regrouped, length-regrouped}
use Rattle.gabc_places.proofs.laws.a_chain_emits_what_its_second_emits.Goals as goal

pub returns-clause-all : goal.returns-clause-all
returns-clause-all g c = λ first second xs. joined-regrouped xs (map (λ events. length events) (first xs)) (second (concat_of (first xs)))

pub returns-clause-one_each : goal.returns-clause-one_each
returns-clause-one_each g c = λ first second xs. length-regrouped xs (map (λ events. length events) (first xs)) (second (concat_of (first xs)))
