use Rattle.gabc_score.proofs.texts_of_body.TextFromItsBeginning.{from_beginning}
use Rattle.gabc_score.proofs.stage_laws.a_text_is_read_from_its_beginning.Goals as goal

pub returns : goal.returns
returns c = from_beginning c.a_fresh_stage_emits_the_events_by_point.ensures.events
