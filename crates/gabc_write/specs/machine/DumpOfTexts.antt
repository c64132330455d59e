-- The lines of a translation and of snippets by their texts.
use Rattle.std.specs.Prelude.{ℕ, ◌<◌, List, [], ◌∷◌, ◌++◌, length, take, codes}
use Rattle.std.specs.List.{flat_map}
use Rattle.gabc_neumes.specs.InForce.{InForce, ScoreStep, passed}
use Rattle.gabc_write.specs.DumpOfNotes.{last_text}
use Rattle.gabc_write.specs.DumpOfSyllables.{lines_on, steps_on}

-- the line of a translation with its brackets, if there is one
abbrev pub line_of_bracketed : List ℕ → List ℕ
line_of_bracketed [] = []
line_of_bracketed (a ∷ []) = []
line_of_bracketed (a ∷ b ∷ t) = codes "translation:" ++ last_text (take (length t) (b ∷ t))

abbrev pub IsOnLine : ℕ × List ℕ → Type 0
IsOnLine t = t.0 < 256

abbrev pub steps_of_texts : List (ℕ × List ℕ) → List ScoreStep
steps_of_texts texts = flat_map (λ (t : ℕ × List ℕ). steps_on t.0 t.1) texts

abbrev pub lines_of_texts : InForce → List (ℕ × List ℕ) → List ℕ
lines_of_texts outset [] = []
lines_of_texts outset (t ∷ texts) = lines_on outset t.0 t.1 ++ lines_of_texts (passed outset (steps_on t.0 t.1)) texts
