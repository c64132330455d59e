-- The step of a part of the body at a character: its events, and the part that reads the next
-- character.
use Rattle.std.specs.Prelude.{◌≡◌, ◌≢◌, ◌≤◌, ℕ, List, [], length, map, true, false}
use Rattle.std.specs.List.{list_any}
use Rattle.gabc_places.specs.declared.place.Char.{Char}
use Rattle.gabc_places.specs.declared.place.Place.{Place}
use Rattle.gabc_text.specs.PiecesOwed.{PiecesArePaid}
use Rattle.gabc_text.specs.TextStage.{fresh_stage}
use Rattle.gabc_text.specs.declared.stage.TextStage.{TextStage}
use Rattle.gabc_text.specs.declared.text_event.TextEvent.{TextEvent}
use Rattle.gabc_text.specs.witness.Steps as text
use Rattle.gabc_notes.specs.declared.stage.NoteEvent.{NoteEvent}
use Rattle.gabc_notes.specs.declared.stage.NoteStage.{NoteStage}
use Rattle.gabc_notes.specs.witness.Keeps as gabc
use Rattle.gabc_nabc.specs.declared.stage.NabcStage.{NabcStage}
use Rattle.gabc_nabc.specs.witness.Keeps as nabc
use Rattle.gabc_score.specs.declared.body_stage.BodyPart.{BodyPart}
use Rattle.gabc_score.specs.declared.body_stage.BodyPart.TheVariants as part
use Rattle.gabc_body.specs.declared.events.BodyEvent.{BodyEvent}
use Rattle.gabc_body.specs.Events.{after_mark, is_close, is_next, is_text_end, next_line, note_event, snippet_from}
use Rattle.gabc_score.specs.machine.PartKeeps.{BeginsSnippet}
use Rattle.gabc_body.specs.witness.TextEvents.{text_events}
use Rattle.gabc_score.specs.machine.PartPushes.{EndsLast}
use Rattle.gabc_score.specs.machine.ReadAgain.{OpensNotes}
use Rattle.gabc_score.specs.witness.BodyStage.{part_with}

-- ---- a stage

-- A character of a text has at most 8 events, and emits no more pieces than were owed or are kept
-- with it.
pub record TextBounds (before : TextStage) (events : List TextEvent) (after : TextStage) : Type 0 where
  pub few : length events ≤ 8
  pub pieces : PiecesArePaid before events after

-- A character of a snippet has at most 3 events, and a `)` is the last of them.
pub record NoteBounds (events : List NoteEvent) : Type 0 where
  pub few : length events ≤ 3
  pub once : EndsLast is_close events

-- ---- a part

-- A part is at the beginning of a snippet on this line, in notes whose `(` is at `opened`.
pub record Begins (lines macros line : ℕ) (opened : Place) (part : BodyPart) : Type 0 where
  pub reads : (xs : List Char) → part_with part xs ≡ snippet_from lines macros line opened xs
  pub keeps : BeginsSnippet lines macros line part
  pub tells : OpensNotes opened part

-- A part in a snippet on this line takes a character with these events.
pub data SnippetSteps (x : Char) : ℕ → Place → BodyPart → List NoteEvent → BodyPart → Type 0 where
  in_gabc : {opened : Place} {s t : NoteStage} {es : List NoteEvent} → gabc.Steps s x es t → SnippetSteps x 0 opened (part.Notes opened s) es (part.Notes opened t)
  in_nabc : {line : ℕ} {opened : Place} {s t : NabcStage} {es : List NoteEvent} → nabc.Steps s x es t → SnippetSteps x line opened (part.Nabc line opened s) es (part.Nabc line opened t)

-- A part takes the character x with these events, and the other part reads the next one: the same
-- part continues, or the next begins. The comment in front continues up to an LF.
pub data PartSteps (lines macros : ℕ) (x : Char) : BodyPart → List BodyEvent → BodyPart → Type 0 where
  in_front : x.c ≢ 10 → PartSteps lines macros x part.Comment [] part.Comment
  leaves_front : {now : List BodyEvent} {after : BodyPart} → x.c ≡ 10 → PartSteps lines macros x (part.Text (fresh_stage x.place)) now after → PartSteps lines macros x part.Comment now after
  text_goes : {s t : TextStage} {es : List TextEvent} → text.Steps s x es t → list_any is_text_end es ≡ false → PartSteps lines macros x (part.Text s) (text_events es) (part.Text t)
  text_ends : {s t : TextStage} {es : List TextEvent} {after : BodyPart} → text.Steps s x es t → list_any is_text_end es ≡ true → Begins lines macros 0 x.place after
      → PartSteps lines macros x (part.Text s) (text_events es) after
  snippet_goes : {line : ℕ} {opened : Place} {before after : BodyPart} {es : List NoteEvent} → SnippetSteps x line opened before es after → list_any is_next es ≡ false → list_any is_close es ≡ false
      → PartSteps lines macros x before (map (note_event line opened) es) after
  snippet_next : {line : ℕ} {opened : Place} {before same after : BodyPart} {es : List NoteEvent} → SnippetSteps x line opened before es same → list_any is_next es ≡ true → Begins lines macros (next_line lines line) opened after
      → PartSteps lines macros x before (map (note_event line opened) es) after
  snippet_closes : {line : ℕ} {opened : Place} {before same : BodyPart} {es : List NoteEvent} → SnippetSteps x line opened before es same → list_any is_next es ≡ false → list_any is_close es ≡ true
      → PartSteps lines macros x before (map (note_event line opened) es) (part.Text (fresh_stage (after_mark x.place)))

-- the events of this step are within their bounds
abbrev pub IsBounded : {lines macros : ℕ} {x : Char} {before after : BodyPart} {now : List BodyEvent} → PartSteps lines macros x before now after → Type 0
IsBounded (in_front h) = Unit {0}
IsBounded (leaves_front h s) = IsBounded s
IsBounded (text_goes {s} {t} {es} h e) = TextBounds s es t
IsBounded (text_ends {s} {t} {es} h e b) = TextBounds s es t
IsBounded (snippet_goes {es = es} s n c) = NoteBounds es
IsBounded (snippet_next {es = es} s n b) = NoteBounds es
IsBounded (snippet_closes {es = es} s n c) = NoteBounds es

-- a part takes a character with events within their bounds
abbrev pub TakesChar : ℕ → ℕ → Char → BodyPart → List BodyEvent → BodyPart → Type 0
TakesChar lines macros x before now after = (s : PartSteps lines macros x before now after) × IsBounded s
