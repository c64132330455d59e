-- A syllable that is read in memory reserved for it.
use Rattle.std.specs.Prelude.{ℕ, ◌+◌, ◌≤◌, List, [], ◌∷◌, Bool, length}
use Rattle.std.specs.Prelude.{string_bytes}
use Rattle.std.specs.String.{string_capacity}
use Rattle.gabc_text.specs.TextView.{content_of}
use Rattle.gabc_text.specs.declared.text_event.TextEvent.{TextEvent}
use Rattle.gabc_text.specs.declared.text_event.TextEvent.TheVariants as text
use Rattle.gabc_notes.specs.declared.stage.NoteEvent.{NoteEvent}
use Rattle.gabc_notes.specs.declared.stage.NoteEvent.TheVariants as note
use Rattle.gabc_body.specs.declared.events.BodyEvent.{BodyEvent}
use Rattle.gabc_body.specs.declared.events.BodyEvent.TheVariants as event
use Rattle.gabc_body.specs.declared.syllable.Position.{Position}
use Rattle.gabc_body.specs.declared.syllable.Syllable.{Syllable}
use Rattle.gabc_body.specs.Syllable.{UnplacedSyllable, PlacedSyllable}
use Rattle.gabc_body.specs.witness.Gatherer.{Gathered, with_event}
use Rattle.gabc_body.specs.witness.SyllableBuilder.{OpenSyllable, made_from}

-- the syllable as it is read, its flags and position, and the most bytes that it may have
pub record ReadSyllable : Type 0 where
  pub reading : OpenSyllable
  pub eu : Bool
  pub nlba : Bool
  pub position : Position
  pub limit : ℕ

abbrev pub read_syllable : Syllable → ℕ → ℕ → ReadSyllable
read_syllable s from limit = record {
  reading = record { kept = string_bytes s.kept; from = from; view = content_of s.text; snippets = s.snippets.items };
  eu = s.eu;
  nlba = s.nlba;
  position = s.position;
  limit = limit;
}

abbrev pub made_in : ReadSyllable → UnplacedSyllable
made_in s = made_from s.reading s.eu s.nlba

abbrev pub placed_in : ReadSyllable → PlacedSyllable
placed_in s = record { made = made_in s; position = s.position }

-- the limit, and what one character can add
abbrev pub room_for : ℕ → ℕ
room_for limit = limit + 32

pub record IsReserved (limit : ℕ) (s : Syllable) : Type 0 where
  pub kept : room_for limit ≤ string_capacity s.kept
  pub pieces : room_for limit ≤ s.text.pieces.capacity
  pub snippets : room_for limit ≤ s.snippets.capacity

-- ---- room for events

abbrev pub FitsKept : ℕ → OpenSyllable → ℕ → Type 0
FitsKept limit o n = length o.kept + n ≤ room_for limit

abbrev pub FitsPiece : ℕ → OpenSyllable → Type 0
FitsPiece limit o = length o.view.pieces + 1 ≤ room_for limit

abbrev pub FitsSnippet : ℕ → OpenSyllable → Type 0
FitsSnippet limit o = length o.snippets + 1 ≤ room_for limit

abbrev pub FitsText : ℕ → OpenSyllable → TextEvent → Type 0
FitsText limit o (text.Kept c) = FitsKept limit o 4
FitsText limit o (text.Part p) = FitsPiece limit o
FitsText limit o (text.Found f) = Unit {0}
FitsText limit o (text.Ended h) = FitsKept limit o 4

abbrev pub FitsNote : ℕ → OpenSyllable → NoteEvent → Type 0
FitsNote limit o (note.Kept c) = FitsKept limit o 4
FitsNote limit o (note.Found f) = Unit {0}
FitsNote limit o (note.Ended h n) = FitsKept limit o 4 × FitsSnippet limit o

abbrev pub FitsEvent : ℕ → OpenSyllable → BodyEvent → Type 0
FitsEvent limit o (event.Text e) = FitsText limit o e
FitsEvent limit o (event.Notes line e) = FitsNote limit o e

-- each event fits after those before it
abbrev pub FitEach : Gathered → List BodyEvent → Type 0
FitEach g [] = Unit {0}
FitEach g (t ∷ now) = FitsEvent g.limit g.builder t × FitEach (with_event g t) now
