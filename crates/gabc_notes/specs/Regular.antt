-- Snippets that are kept as they are written, and in which nothing is found.
use Rattle.std.specs.Prelude.{◌≡◌, ℕ, List, [], ◌∷◌, ◌++◌, Bool, map}
use Rattle.gabc_places.specs.declared.place.Char.{Char}
use Rattle.gabc_places.specs.declared.place.Place.{Place}
use Rattle.gabc_places.specs.Place.{placed_characters_from}
use Rattle.gabc_patterns.specs.LongestItems.{IsSnippet}
use Rattle.gabc_notes.specs.Table.{gabc}
use Rattle.gabc_notes.specs.Ends.{IsMarkOf}
use Rattle.gabc_notes.specs.Events.{bytes_of, note_events}
use Rattle.gabc_notes.specs.declared.stage.NoteEnd.{NoteEnd}
use Rattle.gabc_notes.specs.declared.stage.NoteEvent.{NoteEvent}
use Rattle.gabc_notes.specs.declared.stage.NoteEvent.TheVariants.{Kept, Ended}

-- the events of a character that is kept, and at which nothing else is emitted
abbrev pub only_kept : Char → List NoteEvent
only_kept x = Kept x ∷ []

abbrev pub each_kept : List Char → List (List NoteEvent)
each_kept xs = map only_kept xs

-- The text is a snippet. Before a mark that ends it, wherever it begins and whatever macros are
-- defined, each of its characters is kept, and nothing else is emitted but that end: nothing is
-- found.
pub record IsRegular (t : List ℕ) : Type 0 where
  pub snippet : IsSnippet gabc t
  pub events : (split : Bool) (macros : ℕ) (at : Place) (how : NoteEnd) (mark : ℕ) → IsMarkOf split how mark
      → note_events split macros (placed_characters_from at (t ++ mark ∷ [])) ≡ each_kept (placed_characters_from at t) ++ (Ended how (bytes_of t) ∷ []) ∷ ([] ∷ [])
