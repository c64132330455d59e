-- A text before a mark, read as exactly that text.
use Rattle.std.specs.Prelude.{◌≡◌, ℕ, ◌+◌, List, [], ◌∷◌, ◌++◌, length, take, Bool, Some, reverse}
use Rattle.std.specs.List.{All}
use Rattle.gabc_places.specs.declared.code.Finding.{Finding}
use Rattle.gabc_places.specs.declared.place.Place.{Place}
use Rattle.gabc_places.specs.declared.severity.Severity.TheVariants.{Warning}
use Rattle.gabc_places.specs.Code.{severity_of}
use Rattle.gabc_places.specs.Place.{placed_characters_from}
use Rattle.gabc_places.specs.StageLaw.{concat_of}
use Rattle.gabc_notes.specs.Events.{end_by_mark, bytes_of, note_events}
use Rattle.gabc_notes.specs.SnippetRead.{findings_of, ends_of, stop_after, kept_by, kept_chars_in}

-- nothing is left out: the finding is no E
abbrev pub IsWarning : Finding → Type 0
IsWarning f = severity_of f.code ≡ Warning

-- The text t begins at that place, and the mark and the rest come after it. The snippet is all of t
-- and ends at the mark; its kept text is t, each character at its place; the end is emitted at the
-- mark; and the findings are warnings, so no E1 and no E6.
pub record IsReadAgain (split : Bool) (macros : ℕ) (at : Place) (t : List ℕ) (mark : ℕ) (rest : List ℕ) : Type 0 where
  pub stop : stop_after split [] (placed_characters_from at (t ++ mark ∷ rest)) ≡ record { back = reverse (placed_characters_from at t); mark = Some mark }
  pub kept : kept_by (Some mark) (reverse (placed_characters_from at t)) ≡ t
  pub chars : kept_chars_in split macros (placed_characters_from at (t ++ mark ∷ rest)) ≡ placed_characters_from at t
  pub unended : ends_of (concat_of (take (length t) (note_events split macros (placed_characters_from at (t ++ mark ∷ rest))))) ≡ []
  pub ended : ends_of (concat_of (take (length t + 1) (note_events split macros (placed_characters_from at (t ++ mark ∷ rest))))) ≡ (end_by_mark mark, bytes_of t) ∷ []
  pub warnings : All IsWarning (findings_of (concat_of (note_events split macros (placed_characters_from at (t ++ mark ∷ rest)))))
