-- A writer of runs past outputs, one after another, and past the syllables of a run.
use Rattle.std.proofs.Common.{◌≡◌, ℕ, List, [], ◌∷◌, ◌++◌, sym, ap, ◌∙◌, append_assoc, append-nil}
use Rattle.gabc_places.specs.BoundedList.{extended_by}
use Rattle.gabc_body.specs.ScoreEvents.{ScoreOutput, Syllable}
use Rattle.gabc_body.specs.Syllable.{PlacedSyllable}
use Rattle.gregorio.specs.witness.Engine.{after_output, lines_of_output, lines_of_outputs, text_of_output, texts_of_outputs}
use Rattle.gregorio.specs.machine.RunWriter.{RunWriterState, outputs_of_syllables, past_output, past_outputs, past_syllables}

-- no output: nothing changes
past_no_output : (w : RunWriterState) → past_outputs w [] ≡ w
past_no_output w =
    ap (λ (text : List ℕ). record w { out = record w.out { items = text }; messages = extended_by w.messages [] }) (append-nil w.out.items)
    ∙ ap (λ (lines : List ℕ). record w { messages = record w.messages { items = lines } }) (append-nil w.messages.items)

-- an output, and then others
pub one_then : (w : RunWriterState) (o : ScoreOutput) (rest : List ScoreOutput) → past_outputs (past_output w o) rest ≡ past_outputs w (o ∷ rest)
one_then w o rest =
    let v = after_output w.written o in
    let p = past_outputs w (o ∷ rest) in
    ap (λ (text : List ℕ). record p { out = record w.out { items = text }; messages = extended_by (extended_by w.messages (lines_of_output w.written o)) (lines_of_outputs v rest) })
    (append_assoc w.out.items (text_of_output w.written o) (texts_of_outputs v rest))
    ∙ ap (λ (lines : List ℕ). record p { messages = record w.messages { items = lines } }) (append_assoc w.messages.items (lines_of_output w.written o) (lines_of_outputs v rest))

-- ---- syllables

pub past_none : (w : RunWriterState) → past_syllables w [] ≡ w
past_none w = past_no_output w

pub past_both : (w : RunWriterState) (a b : List PlacedSyllable) → past_syllables (past_syllables w a) b ≡ past_syllables w (a ++ b)
past_both w [] b = ap (λ (v : RunWriterState). past_syllables v b) (past_none w)
past_both w (s ∷ a) b =
    ap (λ (v : RunWriterState). past_syllables v b) (sym (one_then w (Syllable s) (outputs_of_syllables a)))
    ∙ (past_both (past_output w (Syllable s)) a b ∙ one_then w (Syllable s) (outputs_of_syllables (a ++ b)))
