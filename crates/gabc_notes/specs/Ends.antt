-- The characters at which an end is emitted.
use Rattle.std.specs.Prelude.{◌≡◌, ℕ, List, [], ◌∷◌, ◌++◌, Bool, true, false, ◌⊎◌}
use Rattle.gabc_places.specs.declared.place.Place.{Place}
use Rattle.gabc_notes.specs.SnippetRead.{ends_of}
use Rattle.gabc_notes.specs.declared.stage.NoteEnd.{NoteEnd}
use Rattle.gabc_notes.specs.declared.stage.NoteEnd.TheVariants.{Next, Close, Cut}
use Rattle.gabc_notes.specs.declared.stage.NoteEvent.{NoteEvent}
use Rattle.gabc_notes.specs.declared.stage.NoteEvent.TheVariants.{Ended}

-- the character is the mark of that end: `)` of the last snippet, and `|` of another, where
-- snippets are split
abbrev pub IsMarkOf : Bool → NoteEnd → ℕ → Type 0
IsMarkOf split Close c = c ≡ 41
IsMarkOf split Next c = (c ≡ 124) × (split ≡ true)
IsMarkOf split (Cut place) c = ⊥

-- The events have one end, after all else, and the character is its mark.
pub record EndWithMark (split : Bool) (c : ℕ) (events : List NoteEvent) : Type 0 where
  pub before : List NoteEvent
  pub how : NoteEnd
  pub bytes : ℕ
  pub cut : events ≡ before ++ Ended how bytes ∷ []
  pub endless : ends_of before ≡ []
  pub mark : IsMarkOf split how c

-- The events have no end, or one, after all else, at its mark.
abbrev pub EndAtMost : Bool → ℕ → List NoteEvent → Type 0
EndAtMost split c events = (ends_of events ≡ []) ⊎ EndWithMark split c events

-- The events are none, or that the characters were cut.
abbrev pub AreCutAtMost : List NoteEvent → Type 0
AreCutAtMost events = (events ≡ []) ⊎ ((place : Place) × (bytes : ℕ) × (events ≡ Ended (Cut place) bytes ∷ []))

-- an event that ends a stage: that the snippet ended
abbrev pub is_ended : NoteEvent → Bool
is_ended (Ended how bytes) = true
is_ended _ = false
