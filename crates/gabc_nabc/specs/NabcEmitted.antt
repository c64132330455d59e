-- The events of an NABC snippet, by relations over the whole of the text before: a list for each
-- character, and one for the end of them.
use Rattle.std.specs.Prelude.{◌≡◌, ◌⊎◌, ℕ, List, [], ◌∷◌, ◌++◌, true, false, map}
use Rattle.gabc_places.specs.declared.code.Finding.{Finding}
use Rattle.gabc_places.specs.declared.place.Char.{Char}
use Rattle.gabc_places.specs.StageLaw.{silence}
use Rattle.gabc_patterns.specs.Kept.{Trims}
use Rattle.gabc_notes.specs.Events.{end_by_mark}
use Rattle.gabc_notes.specs.FoundAt.{AreThoseFound}
use Rattle.gabc_notes.specs.NotesEmitted.{AreIfKept}
use Rattle.gabc_notes.specs.declared.stage.NoteEnd.TheVariants.{Cut}
use Rattle.gabc_notes.specs.declared.stage.NoteEvent.{NoteEvent}
use Rattle.gabc_notes.specs.declared.stage.NoteEvent.TheVariants.{Found, Ended}
use Rattle.gabc_nabc.specs.Table.{nabc}
use Rattle.gabc_nabc.specs.Events.{is_end, bytes_in}
use Rattle.gabc_nabc.specs.NabcRead.{IsKeptOf, IsKeptAfter, IsFoundAfter, IsUnfinished}

-- Of the character x after the text, which does not end the snippet: that it is kept, if it is, and
-- its findings.
pub record AreOfCharacter (t : List ℕ) (x : Char) (events : List NoteEvent) : Type 0 where
  pub no_end : is_end t x.c ≡ false
  pub kept : List NoteEvent
  pub is_kept : AreIfKept (IsKeptAfter t x.c) x kept
  pub found : List Finding
  pub is_found : AreThoseFound (IsFoundAfter t x) found
  pub all : events ≡ kept ++ map Found found

-- Of the mark x that ends the snippet after the text: that its end is unfinished, if it is, and the
-- end, with the bytes of the kept text without that end.
pub record AreOfMark (t : List ℕ) (x : Char) (events : List NoteEvent) : Type 0 where
  pub mark : is_end t x.c ≡ true
  pub kept : List ℕ
  pub keeps : IsKeptOf t kept
  pub whole : List ℕ
  pub trims : Trims nabc kept whole
  pub last : List Finding
  pub unfinished : AreThoseFound (IsUnfinished kept x.place) last
  pub all : events ≡ map Found last ++ Ended (end_by_mark x.c) (bytes_in whole) ∷ []

-- Of the end of the characters: that they are cut, with the bytes of the kept text.
pub record AreOfCut (t : List ℕ) (events : List NoteEvent) : Type 0 where
  pub kept : List ℕ
  pub keeps : IsKeptOf t kept
  pub all : events ≡ Ended (Cut (record { line = 0; column = 0 })) (bytes_in kept) ∷ []

-- these are the events of the characters after the text: none after the mark that ends the snippet
abbrev pub AreEventsAfter : List ℕ → List Char → List (List NoteEvent) → Type 0
AreEventsAfter t [] lists = (events : List NoteEvent) × AreOfCut t events × (lists ≡ events ∷ [])
AreEventsAfter t (x ∷ xs) lists =
    ((events : List NoteEvent) × AreOfMark t x events × (lists ≡ events ∷ silence xs))
    ⊎ ((events : List NoteEvent) × (later : List (List NoteEvent)) × AreOfCharacter t x events × AreEventsAfter (t ++ x.c ∷ []) xs later × (lists ≡ events ∷ later))

-- these are the events of the characters and their end
abbrev pub AreNabcEvents : List Char → List (List NoteEvent) → Type 0
AreNabcEvents xs lists = AreEventsAfter [] xs lists
