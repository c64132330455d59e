-- A text in front of a mark, read as exactly that text.
use Rattle.std.specs.Prelude.{◌≡◌, ℕ, ◌+◌, List, [], ◌∷◌, ◌++◌, length, take}
use Rattle.std.specs.List.{All}
use Rattle.gabc_places.specs.declared.place.Place.{Place}
use Rattle.gabc_places.specs.Place.{placed_characters_from}
use Rattle.gabc_places.specs.StageLaw.{concat_of}
use Rattle.gabc_notes.specs.SnippetRead.{findings_of, ends_of}
use Rattle.gabc_notes.specs.ReadAgain.{IsWarning}
use Rattle.gabc_nabc.specs.Events.{bytes_in, nabc_events}
use Rattle.gabc_notes.specs.Events.{end_by_mark}
use Rattle.gabc_nabc.specs.SnippetRead.{before_end, from_end, kept_before, kept_chars_in}

-- The text t begins at that place, and after it stand the mark and the rest. The snippet is all of
-- t and ends at the mark; its kept text is t, each character at its place; the end is emitted of
-- the mark; and what is found are warnings, so no E3 and no E6.
pub record IsNabcReadAgain (at : Place) (t : List ℕ) (mark : ℕ) (rest : List ℕ) : Type 0 where
  pub before : before_end (t ++ mark ∷ rest) ≡ t
  pub from : from_end (t ++ mark ∷ rest) ≡ mark ∷ rest
  pub kept : kept_before t (mark ∷ rest) ≡ t
  pub chars : kept_chars_in at (t ++ mark ∷ rest) ≡ placed_characters_from at t
  pub unended : ends_of (concat_of (take (length t) (nabc_events (placed_characters_from at (t ++ mark ∷ rest))))) ≡ []
  pub ended : ends_of (concat_of (take (length t + 1) (nabc_events (placed_characters_from at (t ++ mark ∷ rest))))) ≡ (end_by_mark mark, bytes_in t) ∷ []
  pub warnings : All IsWarning (findings_of (concat_of (nabc_events (placed_characters_from at (t ++ mark ∷ rest)))))
