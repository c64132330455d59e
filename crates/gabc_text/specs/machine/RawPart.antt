-- The machine past several characters, and its states in a raw part.
use Rattle.std.specs.Prelude.{ℕ, ◌==◌, ◌&&◌, not, Bool, false, List, [], ◌∷◌, ◌++◌}
use Rattle.gabc_text.specs.declared.token_state.TokenState.{TokenState}
use Rattle.gabc_text.specs.declared.token_state.TokenState.TheVariants.{Raw}
use Rattle.gabc_text.specs.declared.stage.TextStage.{TextStage}
use Rattle.gabc_text.specs.declared.text_event.TextEvent.{TextEvent}
use Rattle.gabc_text.specs.machine.TextStage.{push_stage, events_of_push}

-- the machine after these characters
abbrev pub stage_past : TextStage → List ℕ → TextStage
stage_past s [] = s
stage_past s (c ∷ cs) = stage_past (push_stage s c) cs

-- the events for these characters
abbrev pub events_of_pushes : TextStage → List ℕ → List TextEvent
events_of_pushes s [] = []
events_of_pushes s (c ∷ cs) = events_of_push s c ++ events_of_pushes (push_stage s c) cs

-- in a raw part, with no character of its ending read
abbrev pub is_unmatched : TokenState → Bool
is_unmatched (Raw raw m) = m == 0
is_unmatched _ = false

-- a machine in such a state, whose text has not ended
abbrev pub is_in_raw : TextStage → Bool
is_in_raw s = not s.ended && is_unmatched s.state
