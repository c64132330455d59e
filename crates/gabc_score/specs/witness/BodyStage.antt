-- The events that the machine over a body has left. It is no promise: that they are those of a body
-- is proved, if no count of the body reaches its last value.
use Rattle.std.specs.Prelude.{ℕ, List, [], map, Bool, if◌then◌else◌}
use Rattle.gabc_places.specs.StageLaw.{silence}
use Rattle.gabc_places.specs.declared.place.Char.{Char}
use Rattle.gabc_text.specs.Events.{codes_of}
use Rattle.gabc_text.specs.witness.EventsLeft as text
use Rattle.gabc_text.specs.TextStage.{fresh_stage}
use Rattle.gabc_notes.specs.witness.ItemMachine as notes
use Rattle.gabc_nabc.specs.witness.DescriptorMachine as nabc
use Rattle.gabc_text.specs.declared.text_event.TextEvent.{TextEvent}
use Rattle.gabc_notes.specs.declared.stage.NoteEvent.{NoteEvent}
use Rattle.gabc_body.specs.declared.events.BodyEvent.{BodyEvent}
use Rattle.gabc_body.specs.declared.events.BodyEvent.TheVariants.{Text}
use Rattle.gabc_score.specs.declared.body_stage.Emitter.{Emitter}
use Rattle.gabc_score.specs.declared.body_stage.Emitter.TheVariants as emitter
use Rattle.gabc_score.specs.declared.body_stage.BodyPart as rust
use Rattle.gabc_score.specs.declared.body_stage.BodyPart.TheVariants as part
use Rattle.gabc_body.specs.Events.{PartAhead, InComment, InText, InNotes, Texts, note_event, events_from}

-- the events of the last point, in the room of the part that emitted them
abbrev pub events_in_rooms : Emitter → List TextEvent → List NoteEvent → List BodyEvent
events_in_rooms emitter.Nothing texts notes = []
events_in_rooms emitter.Text texts notes = map (λ (o : TextEvent). Text o) texts
events_in_rooms (emitter.Notes line opened) texts notes = map (note_event line opened) notes

pub record BodyStageState : Type 0 where
  pub nabc_lines : ℕ
  pub macros : ℕ
  pub part : rust.BodyPart
  pub ended : Bool
  pub events : List BodyEvent

-- the part, with the lists that it will still emit of these characters and the end
abbrev pub part_with : rust.BodyPart → List Char → PartAhead
part_with part.Comment xs = InComment
part_with (part.Text stage) xs = InText (text.events_left stage (codes_of xs))
part_with (part.Notes opened stage) xs = InNotes 0 opened (notes.events_left stage xs)
part_with (part.Nabc line opened stage) xs = InNotes line opened (nabc.events_left stage xs)

-- a text as its machine reads it
abbrev pub texts_by_stage : Texts
texts_by_stage at xs = text.events_left (fresh_stage at) (codes_of xs)

-- the events left before the end of the input
abbrev pub running_events_left : BodyStageState → List Char → List (List BodyEvent)
running_events_left r xs = events_from texts_by_stage r.nabc_lines r.macros (part_with r.part xs) xs

-- the events left: none after the end of the input
abbrev pub events_left : BodyStageState → List Char → List (List BodyEvent)
events_left r xs = if r.ended then silence xs else running_events_left r xs
