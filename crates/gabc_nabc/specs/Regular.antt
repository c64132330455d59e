-- NABC snippets that are kept as they stand, and in which nothing is found.
use Rattle.std.specs.Prelude.{◌≡◌, ℕ, List, [], ◌∷◌, ◌++◌, true}
use Rattle.gabc_places.specs.declared.place.Place.{Place}
use Rattle.gabc_places.specs.Place.{placed_characters_from}
use Rattle.gabc_patterns.specs.LongestItems.{IsSnippet}
use Rattle.gabc_notes.specs.Ends.{IsMarkOf}
use Rattle.gabc_notes.specs.Regular.{each_kept}
use Rattle.gabc_notes.specs.declared.stage.NoteEnd.{NoteEnd}
use Rattle.gabc_notes.specs.declared.stage.NoteEvent.TheVariants.{Ended}
use Rattle.gabc_nabc.specs.Table.{nabc}
use Rattle.gabc_nabc.specs.Events.{bytes_in, nabc_events}

-- The text is an NABC snippet. In front of a mark that ends it, wherever it stands, each of its
-- characters is kept, and nothing else is emitted but that end: nothing is found.
pub record IsRegular (t : List ℕ) : Type 0 where
  pub snippet : IsSnippet nabc t
  pub events : (at : Place) (how : NoteEnd) (mark : ℕ) → IsMarkOf true how mark
      → nabc_events (placed_characters_from at (t ++ mark ∷ [])) ≡ each_kept (placed_characters_from at t) ++ (Ended how (bytes_in t) ∷ []) ∷ ([] ∷ [])
