-- The values gathered from the events of a stage.
use Rattle.std.specs.Prelude.{◌≡◌, ℕ, List, [], ◌∷◌, ◌++◌, Option, Some, None, string_bytes, encode_utf8}
use Rattle.gabc_places.specs.declared.code.Finding.{Finding}
use Rattle.gabc_places.specs.declared.place.Char.{Char}
use Rattle.gabc_notes.specs.witness.ItemMachine.{events_left}
use Rattle.gabc_notes.specs.declared.stage.NoteEnd.{NoteEnd}
use Rattle.gabc_notes.specs.declared.stage.NoteEvent.{NoteEvent}
use Rattle.gabc_notes.specs.declared.stage.NoteEvent.TheVariants.{Kept, Found, Ended}
use Rattle.gabc_notes.specs.declared.stage.NoteStage.{NoteStage}
use Rattle.gabc_notes.specs.declared.whole.SnippetBuilder.{SnippetBuilder}

pub record BuiltSnippet : Type 0 where
  pub kept : List ℕ
  pub findings : List Finding
  pub end : Option (NoteEnd × ℕ)

abbrev pub built_snippet_of : SnippetBuilder → BuiltSnippet
built_snippet_of r = record { kept = string_bytes r.kept; findings = r.findings; end = r.end }

abbrev pub with_event : BuiltSnippet → NoteEvent → BuiltSnippet
with_event h (Kept x) = record h { kept = h.kept ++ encode_utf8 x.c }
with_event h (Found f) = record h { findings = h.findings ++ f ∷ [] }
with_event h (Ended how kept) = record h { end = Some (how, kept) }

abbrev pub with_events : BuiltSnippet → List NoteEvent → BuiltSnippet
with_events h [] = h
with_events h (o ∷ os) = with_events (with_event h o) os

abbrev pub no_snippet : BuiltSnippet
no_snippet = record { kept = []; findings = []; end = None }

-- the events of a push were added
pub record PushIsAdded (old new : NoteStage) (x : Char) (before after : BuiltSnippet) : Type 0 where
  pub events : List NoteEvent
  pub law : (xs : List Char) → events_left old (x ∷ xs) ≡ events ∷ events_left new xs
  pub built : after ≡ with_events before events

-- the events of the end were added
pub record EndIsAdded (stage : NoteStage) (before after : BuiltSnippet) : Type 0 where
  pub events : List NoteEvent
  pub law : events_left stage [] ≡ events ∷ []
  pub built : after ≡ with_events before events
