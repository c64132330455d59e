-- The items of an engine, which are characters or the fault that stops the text, and its invariant
-- between two calls.
use Rattle.std.specs.Prelude.{◌≡◌, ◌≤◌, ◌⊎◌, ◌||◌, ℕ, List, [], ◌∷◌, ◌++◌, length, Bool, true, Result, Ok, Err}
use Rattle.std.specs.List.{list_any}
use Rattle.gabc_places.specs.BoundedList.{BoundedList, extended_by}
use Rattle.gabc_places.specs.declared.code.Fault.{Fault}
use Rattle.gabc_places.specs.declared.place.Char.{Char}
use Rattle.gabc_places.specs.DecoderMachine.{DecoderState}
use Rattle.gabc_headers.specs.declared.head_event.HeadEvent.{HeadEvent}
use Rattle.gabc_headers.specs.declared.head_event.HeadEvent.TheVariants as head_event
use Rattle.gabc_headers.specs.witness.HeadEvents.{HeaderStageState, HeadProgress, reading, after_headers, over, IsAfterHeaders}
use Rattle.gregorio.specs.declared.source_ending.SourceEnding.{SourceEnding}
use Rattle.gregorio.specs.Streams.{Streams, after_bytes}
use Rattle.gregorio.specs.witness.Engine.{EngineState, book_after, head_events_left, is_heads}
use Rattle.gregorio.specs.machine.InStep.{IsInStep, StayInStep}
use Rattle.gregorio.specs.machine.ReadsHeaders.{ReadsHeaders, ReadsOn}
use Rattle.gregorio.specs.machine.RunWriter.{most_waiting}
use Rattle.gregorio.specs.machine.InSync.{IsInHeads, IsTelling, StayTelling}
use Rattle.gregorio.specs.machine.ScoreWriter.{FitsEnd, HasRoom, ScoreWriterState, streams_of, IsBookAt, IsShortBook, IsReserved, KeepsJobAndRooms}

-- ---- events of the headers, one after the other

-- if the headers are whole among these, the book is the one that was read
abbrev pub AreBooksAt : List HeadEvent → List (List ℕ × List ℕ) → List (List ℕ × List ℕ) → Type 0
AreBooksAt [] book read = Unit {0}
AreBooksAt (x ∷ events) book read = IsBookAt x book read × AreBooksAt events book read

-- For these events it wrote the streams that they bring, and what it writes of the events after
-- them comes next. `read` is the book that was read.
pub record WritesAll (old : ScoreWriterState) (events : List HeadEvent) (read : List (List ℕ × List ℕ)) (new : ScoreWriterState) : Type 0 where
  pub output : List ℕ
  pub lines : List ℕ
  pub out : new.writer.out ≡ extended_by old.writer.out output
  pub messages : new.writer.messages ≡ extended_by old.writer.messages lines
  pub law : (book : List (List ℕ × List ℕ)) (from_heads : List HeadEvent) → AreBooksAt events book read → streams_of old book (events ++ from_heads) ≡ after_bytes output lines (streams_of new book from_heads)

-- after these the headers are written at most if they were before or are whole among these
abbrev pub headed_past : Bool → List HeadEvent → Bool
headed_past headed events = headed || list_any is_heads events

-- ---- items

-- the streams left for these items
abbrev pub streams_of_items : HeaderStageState → ScoreWriterState → SourceEnding → List (Result Char Fault) → Streams
streams_of_items h w ending items = streams_of w (book_after h items) (head_events_left h ending items)

-- the input of the body for an item
abbrev pub event_of_item : Result Char Fault → HeadEvent
event_of_item (Ok x) = head_event.Body x
event_of_item (Err fault) = head_event.Stop fault

-- the first of these is no character
abbrev pub IsNoCharacter : List (Result Char Fault) → Type 0
IsNoCharacter [] = Unit {0}
IsNoCharacter (Ok x ∷ items) = ⊥
IsNoCharacter (Err fault ∷ items) = Unit {0}

-- For these items it wrote the streams that they bring, and what it writes of the items after them
-- comes next.
pub record WritesItems (h : HeaderStageState) (old : ScoreWriterState) (items : List (Result Char Fault)) (now : HeaderStageState) (new : ScoreWriterState) : Type 0 where
  pub output : List ℕ
  pub lines : List ℕ
  pub out : new.writer.out ≡ extended_by old.writer.out output
  pub messages : new.writer.messages ≡ extended_by old.writer.messages lines
  pub law : (ending : SourceEnding) (more : List (Result Char Fault)) → streams_of_items h old ending (items ++ more) ≡ after_bytes output lines (streams_of_items now new ending more)

-- ---- between two calls

-- At most as many bytes wait as leave room for a step.
pub record LeavesRoom (s : EngineState) : Type 0 where
  pub output : length s.output ≤ most_waiting s.score.limits
  pub messages : length s.messages ≤ most_waiting s.score.limits

-- whatever comes, the same is written
abbrev pub IsSettled : ScoreWriterState → Type 0
IsSettled w = (book other : List (List ℕ × List ℕ)) (from_heads more : List HeadEvent) → streams_of w book from_heads ≡ streams_of w other more

-- after the headers the book of the stage's progress is the one that it has read
abbrev pub IsBookRead : HeadProgress → List (List ℕ × List ℕ) → Type 0
IsBookRead (after_headers book) read = book ≡ read
IsBookRead (reading t) read = Unit {0}
IsBookRead over read = Unit {0}

-- The stage of headers and the writer have the same limits. If the headers are written, the stage
-- of headers is after the line `%%`, or whatever comes, the same is written. Its book is the one
-- that was read, within the limit.
pub record GoTogether (h : HeaderStageState) (w : ScoreWriterState) : Type 0 where
  pub limits : h.limits ≡ w.score.limits
  pub headed : w.writer.written.headed ≡ true → IsAfterHeaders h.progress ⊎ IsSettled w
  pub book : IsBookRead h.progress h.book
  pub short : IsShortBook h.limits h.book

-- The parts before an item: they go together, there is room for what it brings, and if the headers
-- are not written, the score is in them.
pub record MayRead (h : HeaderStageState) (from_heads : BoundedList HeadEvent) (w : ScoreWriterState) : Type 0 where
  pub together : GoTogether h w
  pub few : 2 ≤ from_heads.limit
  pub room : HasRoom w
  pub part : IsInHeads w

-- For these items the parts wrote the streams that they bring, and stay in step. If they do not
-- begin with a character, there is room for what the end of an input brings.
pub record ReadsItems (h : HeaderStageState) (old : ScoreWriterState) (items : List (Result Char Fault)) (now : HeaderStageState) (new : ScoreWriterState) : Type 0 where
  pub together : GoTogether now new
  pub writes : WritesItems h old items now new
  pub step : StayInStep h old items now new
  pub reads : ReadsOn h old items now new
  pub tells : StayTelling h old items new
  pub room : IsNoCharacter items → FitsEnd new
  pub steady : KeepsJobAndRooms old new
  pub hasher : now.hasher ≡ h.hasher

-- There is room for the events of one call, the rooms of the writer are those of the limits, and
-- all parts are in step.
pub record IsEngine (decoder : DecoderState) (heads : HeaderStageState) (from_heads : BoundedList HeadEvent) (w : ScoreWriterState) : Type 0 where
  pub few : 2 ≤ from_heads.limit
  pub together : GoTogether heads w
  pub reserved : IsReserved w
  pub step : IsInStep decoder heads w.score w.writer.written
  pub headers : ReadsHeaders decoder heads w.writer.written
  pub tells : IsTelling decoder w
