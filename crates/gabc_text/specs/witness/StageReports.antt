-- The report of a stage, by its state: whether it has ended, and the place of the next character;
-- and the stages that differ from it in places alone.
use Rattle.std.specs.Prelude.{Bool, if◌then◌else◌}
use Rattle.gabc_places.specs.declared.place.Place.{Place}
use Rattle.gabc_text.specs.declared.token_state.TokenState.{TokenState}
use Rattle.gabc_text.specs.declared.token_state.TokenState.TheVariants.{Dollar, Comment}
use Rattle.gabc_text.specs.declared.stage.TextStage.{TextStage}
use Rattle.gabc_text.specs.machine.StageReports.{is_open}

-- it has emitted the end of its text
abbrev pub has_ended : TextStage → Bool
has_ended s = s.ended

-- the place of the next character
abbrev pub next_of : TextStage → Place
next_of s = s.progress.next

-- The next character is at this place. What is open keeps the place where it began.
abbrev pub moved_to : Place → TextStage → TextStage
moved_to at s = record s { progress = record s.progress { place = if is_open s.state then s.progress.place else at; next = at } }

-- What is open begins at this place.
abbrev pub opened_at : Place → TextStage → TextStage
opened_at at s = record s { progress = record s.progress { place = if is_open s.state then at else s.progress.place } }

-- The place of a state that matters: that of a `$` or of a comment does not.
abbrev pub place_told : TokenState → Place → Place → Place
place_told Dollar place next = next
place_told Comment place next = next
place_told _ place next = place

abbrev pub told : TextStage → TextStage
told s = record s { progress = record s.progress { place = place_told s.state s.progress.place s.progress.next } }
