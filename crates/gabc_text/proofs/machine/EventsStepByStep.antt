-- What the machine gives step by step, a character at a time.
use Rattle.std.specs.Prelude.{ℕ, cond, List, [], ◌∷◌}
use Rattle.gabc_text.specs.declared.stage.TextStage.{TextStage}
use Rattle.gabc_text.specs.declared.text_event.TextEvent.{TextEvent}
use Rattle.gabc_text.specs.machine.TextStage.{push_stage, events_of_push, events_of_finish}

-- what the machine will still give for these characters and then the end: a list for each of them, and one for the end
abbrev pub stepwise : TextStage → List ℕ → List (List TextEvent)
stepwise t [] = events_of_finish t ∷ []
stepwise t (c ∷ cs) = events_of_push t c ∷ stepwise (push_stage t c) cs

-- the characters that the machine does not read, from the `(` on
abbrev pub stepwise_left : TextStage → List ℕ → List ℕ
stepwise_left t [] = []
stepwise_left t (c ∷ cs) = cond (push_stage t c).ended (c ∷ cs) (stepwise_left (push_stage t c) cs)
