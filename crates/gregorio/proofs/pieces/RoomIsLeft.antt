-- If no more waits than may, there is room for what an item and the end bring.
use Rattle.std.proofs.Common.{◌≡◌, ℕ, ◌+◌, ◌*◌, ◌≤◌, List, [], ◌∷◌, ◌++◌, length, map, Bool, true, false, if◌then◌else◌, Result, Ok, Err, ap, append-nil, arith}
use Rattle.std.proofs.Math.Nat.{mul-le-mul_right}
use Rattle.gabc_places.specs.declared.code.Fault.{Fault}
use Rattle.gabc_places.specs.declared.code.Finding.{Finding}
use Rattle.gabc_places.specs.declared.limits.Limits.{Limits}
use Rattle.gabc_places.specs.declared.place.Char.{Char}
use Rattle.gabc_headers.specs.declared.heads.Heads.{Heads}
use Rattle.gabc_headers.specs.declared.heads.HeadFault.{HeadFault}
use Rattle.gabc_headers.specs.declared.head_event.HeadEvent.{HeadEvent}
use Rattle.gabc_headers.specs.declared.head_event.HeadEvent.TheVariants as head_event
use Rattle.gabc_headers.specs.Heads.{heads_of}
use Rattle.gabc_headers.specs.HeadEvents.{event_of_book}
use Rattle.gabc_headers.specs.witness.HeadEvents.{HeadProgress, reading, after_headers, over, events_by, events_at_end, events_of_end, events_of_input, new_findings}
use Rattle.gregorio.specs.machine.RunWriter.{most_waiting, room_without_notes, syllable_room}
use Rattle.gregorio.specs.machine.ScoreWriter.{ScoreWriterState, FitsEnd, FitsEvents, HasRoom, IsReserved, events_room}
use Rattle.gregorio.specs.machine.Engine.{IsNoCharacter, LeavesRoom, event_of_item}
use Rattle.gregorio.specs.Engine.{NothingWaits}
use Rattle.gregorio.specs.witness.Engine.{EngineState}
use Rattle.gregorio.proofs.RoomForAnEvent.{needed_more, needed_within}
use Rattle.gregorio_jobs.specs.declared.job.Format.{Format}

-- ---- fewer events

pub room_for_first : (w : ScoreWriterState) (ends : Bool) (x : HeadEvent) (events : List HeadEvent) → FitsEvents w ends (x ∷ events) → FitsEvents w false (x ∷ [])
room_for_first w ends x events room = grind (arith, mul-le-mul_right, needed_more)

-- without their end they take no more
less_room : (format : Format) (limit : ℕ) (events : List HeadEvent) → events_room format limit false events ≤ events_room format limit true events
less_room format limit [] = omega arith
less_room format limit (x ∷ events) = grind (arith, less_room format limit events)

pub room_before_end : (w : ScoreWriterState) (events : List HeadEvent) → FitsEvents w true events → FitsEvents w false events
room_before_end w events room = grind (arith, needed_more, less_room)

-- ---- the room that is reserved

-- these have room in the rooms that are reserved, and if nothing comes after them, so has their end
pub record AreFew (format : Format) (limit : ℕ) (ends : Bool) (events : List HeadEvent) : Type 0 where
  pub count : length events ≤ 3
  pub room : events_room format limit ends events ≤ syllable_room format limit + room_without_notes format limit + 103

heads_within : (headed : Bool) (most : ℕ) → (if headed then 0 else most) ≤ most
heads_within headed most = grind arith

-- if no more waits than may before a step
pub room_where_few_wait : (w : ScoreWriterState) → IsReserved w → length w.writer.out.items ≤ most_waiting w.score.limits → length w.writer.messages.items ≤ most_waiting w.score.limits → HasRoom w
room_where_few_wait w reserved few few_lines = record { out = omega (arith, reserved.out, few); messages = omega (arith, reserved.messages, few_lines) }

pub leaves_room : (s : EngineState) → NothingWaits s → LeavesRoom s
leaves_room s waits = record { output = omega (arith, ap (λ (xs : List ℕ). length xs) waits.output); messages = omega (arith, ap (λ (xs : List ℕ). length xs) waits.messages) }

pub room_for_few : (w : ScoreWriterState) (ends : Bool) (events : List HeadEvent) → HasRoom w → AreFew w.writer.written.format w.score.limits.syllable ends events → FitsEvents w ends events
room_for_few w ends events has few = grind (arith, heads_within, needed_within, mul-le-mul_right)

found_room : (format : Format) (limit : ℕ) (fs : List Finding) (rest : List HeadEvent) → events_room format limit false (map (λ f. head_event.Found f) fs ++ rest) ≡ length fs * 25 + events_room format limit false rest
found_room format limit [] rest = omega arith
found_room format limit (f ∷ fs) rest = let h = found_room format limit fs rest in omega (arith, h)

found_count : (fs : List Finding) (rest : List HeadEvent) → length (map (λ f. head_event.Found f) fs ++ rest) ≡ length fs + length rest
found_count [] rest = omega arith
found_count (f ∷ fs) rest = let h = found_count fs rest in omega (arith, h)

none_are_few : (format : Format) (limit : ℕ) (ends : Bool) → AreFew format limit ends []
none_are_few format limit ends = grind arith

one_is_few : (format : Format) (limit : ℕ) (x : Char) → AreFew format limit false (head_event.Body x ∷ [])
one_is_few format limit x = record { count = omega arith; room = omega arith }

stop_is_few : (format : Format) (limit : ℕ) (ends : Bool) (fault : Fault) (events : List HeadEvent) → length events ≤ 2 → AreFew format limit ends (head_event.Stop fault ∷ events)
stop_is_few format limit ends fault events few = record { count = omega (arith, few); room = omega arith }

found_are_few : (format : Format) (limit : ℕ) (fs : List Finding) → length (map (λ f. head_event.Found f) fs) ≤ 2 → AreFew format limit false (map (λ f. head_event.Found f) fs)
found_are_few format limit fs few =
    let n = rw append-nil at (found_count fs []) in
    let room = rw append-nil at (found_room format limit fs []) in
    record { count = omega (arith, few); room = omega (arith, few, n, room) }

heads_are_few : (format : Format) (limit : ℕ) (fs : List Finding) (book : List (List ℕ × List ℕ)) → length (map (λ f. head_event.Found f) fs ++ event_of_book book ∷ []) ≤ 2
    → AreFew format limit false (map (λ f. head_event.Found f) fs ++ event_of_book book ∷ [])
heads_are_few format limit fs book few = grind (arith, found_count, found_room)

by_heads : (format : Format) (limit : ℕ) (found : List Finding) (r : Result Heads HeadFault) → length (events_by found r) ≤ 2 → AreFew format limit false (events_by found r)
by_heads format limit found r few = grind (arith, heads_are_few, found_are_few, stop_is_few)

pub input_is_few : (format : Format) (limit : ℕ) (limits : Limits) (progress : HeadProgress) (item : Result Char Fault) → length (events_of_input limits progress item) ≤ 2
    → AreFew format limit false (events_of_input limits progress item)
input_is_few format limit limits (reading t) (Ok c) few = by_heads format limit (new_findings limits t (t ++ c.c ∷ [])) (heads_of limits (t ++ c.c ∷ [])) few
input_is_few format limit limits (after_headers book) (Ok c) few = one_is_few format limit c
input_is_few format limit limits over item few = none_are_few format limit false
input_is_few format limit limits _ (Err fault) few = stop_is_few format limit false fault [] (omega arith)

pub item_is_few : (format : Format) (limit : ℕ) (item : Result Char Fault) → AreFew format limit false (event_of_item item ∷ [])
item_is_few format limit item = grind (arith, one_is_few, stop_is_few)

-- ---- the end of the input

at_end_few : (r : Result Heads HeadFault) → length (events_at_end r) ≤ 1
at_end_few r = grind arith

pub one_at_end : (limits : Limits) (progress : HeadProgress) → length (events_of_end limits progress) ≤ 1
one_at_end limits (reading t) = at_end_few (heads_of limits t)
one_at_end limits _ = omega arith

end_is_few : (format : Format) (limit : ℕ) (limits : Limits) (progress : HeadProgress) → AreFew format limit true (events_of_end limits progress)
end_is_few format limit limits (reading t) = grind (arith, none_are_few, stop_is_few)
end_is_few format limit limits (after_headers book) = record { count = omega arith; room = omega arith }
end_is_few format limit limits over = none_are_few format limit true

-- and what a fault brings before it
fault_is_few : (format : Format) (limit : ℕ) (limits : Limits) (progress : HeadProgress) (fault : Fault) (later : Limits) (last : HeadProgress)
    → AreFew format limit true (events_of_input limits progress (Err fault) ++ events_of_end later last)
fault_is_few format limit limits over fault later last = end_is_few format limit later last
fault_is_few format limit limits _ fault later last = let one = one_at_end later last in stop_is_few format limit true fault (events_of_end later last) (omega (arith, one))

pub room_for_end : (w : ScoreWriterState) → HasRoom w → FitsEnd w
room_for_end w room = λ limits progress.
    room_for_few w true (events_of_end limits progress) room (end_is_few w.writer.written.format w.score.limits.syllable limits progress)

pub room_for_last : (w : ScoreWriterState) → HasRoom w → FitsEvents w true []
room_for_last w room = room_for_few w true [] room (none_are_few w.writer.written.format w.score.limits.syllable true)

-- a fault after the headers, and the end
pub room_for_stop : (w : ScoreWriterState) (item : Result Char Fault) → HasRoom w → IsNoCharacter (item ∷ []) → (limits : Limits) (progress : HeadProgress)
    → FitsEvents w true (event_of_item item ∷ events_of_end limits progress)
room_for_stop w item room none limits progress = grind (arith, one_at_end, room_for_few, stop_is_few)

-- a fault in the headers, and the end
pub room_for_fault : (w : ScoreWriterState) (limits : Limits) (progress : HeadProgress) (item : Result Char Fault) → HasRoom w → IsNoCharacter (item ∷ []) → (later : Limits) (last : HeadProgress)
    → FitsEvents w true (events_of_input limits progress item ++ events_of_end later last)
room_for_fault w limits progress (Ok x) room none later last = absurd none
room_for_fault w limits progress (Err fault) room none later last =
    room_for_few w true (events_of_input limits progress (Err fault) ++ events_of_end later last) room
    (fault_is_few w.writer.written.format w.score.limits.syllable limits progress fault later last)
