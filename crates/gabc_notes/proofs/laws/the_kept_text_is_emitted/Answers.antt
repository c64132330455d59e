use Rattle.std.proofs.Common.{[], refl}
use Rattle.gabc_notes.specs.Events.{note_events}
use Rattle.gabc_notes.proofs.grammar.LawsOfEventsByPoint.{emitted_kept}
use Rattle.gabc_notes.proofs.laws.the_kept_text_is_emitted.Goals as goal

pub returns : goal.returns
unfolding note_events
returns c = λ split macros xs. emitted_kept split macros xs [] refl
