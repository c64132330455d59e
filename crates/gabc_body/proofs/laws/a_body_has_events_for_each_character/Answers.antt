use Rattle.gabc_body.specs.Events.{InComment, texts_by_definition}
use Rattle.gabc_body.proofs.emitted.OneListEachCharacter.{events_each}
use Rattle.gabc_body.proofs.laws.a_body_has_events_for_each_character.Goals as goal

pub returns : goal.returns
returns c lines macros xs = events_each texts_by_definition lines macros InComment xs
