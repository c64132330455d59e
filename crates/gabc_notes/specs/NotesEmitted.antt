-- What is emitted of a snippet, by relations over the whole of what stands before: a list for each
-- character, and one for the end of them. The characters before are listed with the nearest first,
-- each with whether it lies in a comment.
use Rattle.std.specs.Prelude.{◌≡◌, ◌⊎◌, ◌↔◌, ℕ, List, [], ◌∷◌, ◌++◌, Bool, IsTrue, map}
use Rattle.gabc_places.specs.declared.code.Finding.{Finding}
use Rattle.gabc_places.specs.declared.place.Char.{Char}
use Rattle.gabc_places.specs.declared.place.Place.{Place}
use Rattle.gabc_places.specs.StageLaw.{silence}
use Rattle.gabc_patterns.specs.Kept.{Trims}
use Rattle.gabc_notes.specs.Table.{gabc}
use Rattle.gabc_notes.specs.Events.{bytes_of, end_by_mark}
use Rattle.gabc_notes.specs.FoundAt.{AreThoseFound}
use Rattle.gabc_notes.specs.NotesRead.{Marked, IsKeptOf, IsInComment, IsKeptWith, IsFound, IsEnd, AreFoundAtEnd, IsCutAt}
use Rattle.gabc_notes.specs.declared.stage.NoteEnd.TheVariants.{Cut}
use Rattle.gabc_notes.specs.declared.stage.NoteEvent.{NoteEvent}
use Rattle.gabc_notes.specs.declared.stage.NoteEvent.TheVariants.{Kept, Found, Ended}

-- that the character is kept, if it is
abbrev pub AreIfKept : Type 0 → Char → List NoteEvent → Type 0
AreIfKept IsKept x events = (IsKept × (events ≡ Kept x ∷ [])) ⊎ ((¬ IsKept) × (events ≡ []))

-- Of the character m after those, which does not end the snippet: that it is kept, if it is, and
-- its findings.
pub record AreOfCharacter (split : Bool) (macros : ℕ) (back : List Marked) (m : Marked) (events : List NoteEvent) : Type 0 where
  pub no_end : ¬ IsEnd split back m.0
  pub marked : IsTrue m.1 ↔ IsInComment (m ∷ back)
  pub kept : List NoteEvent
  pub is_kept : AreIfKept ((t : List ℕ) × IsKeptWith (m ∷ back) t) m.0 kept
  pub found : List Finding
  pub is_found : AreThoseFound (λ f. IsFound macros m back f.code f.place) found
  pub all : events ≡ kept ++ map Found found

-- Of the mark x that ends the snippet after those: its findings, and the end, with the bytes of the
-- kept text without an unfinished end.
pub record AreOfMark (split : Bool) (back : List Marked) (x : Char) (events : List NoteEvent) : Type 0 where
  pub mark : IsEnd split back x
  pub kept : List ℕ
  pub keeps : IsKeptOf back kept
  pub whole : List ℕ
  pub trims : Trims gabc kept whole
  pub found : List Finding
  pub is_found : AreFoundAtEnd back kept x found
  pub all : events ≡ map Found found ++ Ended (end_by_mark x.c) (bytes_of whole) ∷ []

-- Of the end of the characters: that they are cut, at the open bracket, with the bytes of the kept
-- text.
pub record AreOfCut (back : List Marked) (events : List NoteEvent) : Type 0 where
  pub kept : List ℕ
  pub keeps : IsKeptOf back kept
  pub place : Place
  pub is_cut : IsCutAt back place
  pub all : events ≡ Ended (Cut place) (bytes_of kept) ∷ []

-- these are emitted of the characters after those: after the mark that ends the snippet nothing
abbrev pub AreEventsAfter : Bool → ℕ → List Marked → List Char → List (List NoteEvent) → Type 0
AreEventsAfter split macros back [] lists = (events : List NoteEvent) × AreOfCut back events × (lists ≡ events ∷ [])
AreEventsAfter split macros back (x ∷ xs) lists =
    ((events : List NoteEvent) × AreOfMark split back x events × (lists ≡ events ∷ silence xs))
    ⊎ ((comment : Bool) × (events : List NoteEvent) × (later : List (List NoteEvent)) × AreOfCharacter split macros back (x, comment) events
    × AreEventsAfter split macros ((x, comment) ∷ back) xs later × (lists ≡ events ∷ later))

-- these are emitted of the characters and their end
abbrev pub AreNoteEvents : Bool → ℕ → List Char → List (List NoteEvent) → Type 0
AreNoteEvents split macros xs lists = AreEventsAfter split macros [] xs lists
