-- Runs of one letter in a note.
use Rattle.std.specs.Prelude.{ℕ, List, [], ◌∷◌, if◌then◌else◌}
use Rattle.gabc_notes.specs.Notes.{begins_with}

-- the number of letters in a row that are this one, at most three: those of the text, and one
-- before it
abbrev pub run_of : ℕ → List ℕ → ℕ
run_of c t = if begins_with (c ∷ c ∷ []) t then 3 else if begins_with (c ∷ []) t then 2 else 1
