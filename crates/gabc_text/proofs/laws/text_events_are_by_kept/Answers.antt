use Rattle.gabc_text.proofs.by_kept.TextEventsByKept.{text_is_so}
use Rattle.gabc_text.proofs.laws.text_events_are_by_kept.Goals as goal

pub returns : goal.returns
returns c = text_is_so
