-- The step of a machine over a score at a character of the body, and at any input.
use Rattle.std.specs.Prelude.{◌≡◌, ◌≤◌, ℕ, ◌-◌, nat_lt, false, List, [], ◌∷◌, ◌++◌, length, take, None, Some}
use Rattle.std.specs.List.{list_any}
use Rattle.gabc_places.specs.BoundedList.{BoundedList, extended_by}
use Rattle.gabc_places.specs.Place.{saturating_next_place}
use Rattle.gabc_places.specs.declared.code.Code.{Code}
use Rattle.gabc_places.specs.declared.code.Fault.{Fault}
use Rattle.gabc_places.specs.declared.code.Finding.{Finding}
use Rattle.gabc_places.specs.declared.place.Char.{Char}
use Rattle.gabc_headers.specs.declared.head_event.HeadEvent.{HeadEvent}
use Rattle.gabc_score.specs.declared.score_event.ScoreEvent.{ScoreEvent}
use Rattle.gabc_score.specs.declared.score_machine.ScoreMachine.{ScoreMachine}
use Rattle.gabc_score.specs.declared.score_machine.ScorePart.TheVariants as score_part
use Rattle.gabc_body.specs.Body.{fault_at}
use Rattle.gabc_body.specs.NoteBeforeClef.{found_first}
use Rattle.gabc_body.specs.ScoreEvents.{ScoreOutput, Stop, outputs_of}
use Rattle.gabc_score.specs.ScoreStage.{GivesAt, GivesLast, GivesOutputs}
use Rattle.gabc_body.specs.Syllable.{PlacedSyllable, closes}
use Rattle.gabc_body.specs.witness.BodyBuilder.{code_in, with_all, with_found}
use Rattle.gabc_score.specs.machine.PartSteps.{TakesChar}
use Rattle.gabc_score.specs.machine.Preceded.{past_point}
use Rattle.gabc_score.specs.machine.ScoreMachine.{has_given, IsInBody, IsScore, KeepsMemory, shown}
use Rattle.gabc_score.specs.machine.ScoreStage.{placed_after, with_held}
use Rattle.gabc_score.specs.machine.SlotPair.{SlotPairState, is_made, is_preceded, used_by}
use Rattle.gabc_score.specs.witness.BodyStage.{BodyStageState}

-- A machine in the body, between two calls.
pub record StandsInBody (m : ScoreMachine) : Type 0 where
  pub part : m.part ≡ score_part.Body
  pub rests : IsInBody m

-- The body takes the character x and is `b` then. The slots `p` have gathered its events, and `f`
-- has their findings.
pub record Gathers (m : ScoreMachine) (x : Char) (b : BodyStageState) (p : SlotPairState) (f : BoundedList Finding) : Type 0 where
  pub steps : TakesChar m.body.nabc_lines m.body.macros x m.body.part b.events b.part
  pub body : b ≡ record m.body { part = b.part; events = b.events }
  pub gathered : p.gathered ≡ with_all m.pair.gathered b.events
  pub held : p.held ≡ m.pair.gathered.made
  pub contexts : p.contexts ≡ m.pair.contexts
  pub one : length m.pair.gathered.made ≤ 1
  pub used : p.used ≡ used_by (list_any closes b.events)
  pub found : f ≡ with_found m.found b.events

-- the findings with x, and that of a note before any clef
abbrev pub found_past : ScoreMachine → Char → SlotPairState → BoundedList Finding → BoundedList Finding
found_past m x p f = extended_by f (found_first m.pair.gathered.first_kind p.gathered.first_kind x.place)

-- ---- the outputs of a point

-- The findings of a point were emitted, and the pending syllable if another is whole, which is
-- pending then, in its context.
pub record GivesPoint (before : SlotPairState) (room : BoundedList Finding) (after : SlotPairState) (room_after : BoundedList Finding) (old new : BoundedList ScoreEvent) : Type 0 where
  pub gathered : after.gathered ≡ with_held before.gathered
  pub used : is_made after.used ≡ false
  pub contexts : after.contexts ≡ past_point (nat_lt (length before.held) (length before.gathered.made)) (nat_lt 1 (length before.gathered.made)) before.contexts before.gathered
  pub emitted : (let made = before.gathered.made in GivesOutputs (outputs_of room.items (take (length made - 1) (placed_after (is_preceded before) made))) old new after.first after.second)
  pub few : length (take (length before.gathered.made - 1) (placed_after (is_preceded before) before.gathered.made)) ≤ 1
  pub found : room_after ≡ record room { items = [] }

-- These outputs were emitted as the last ones, with these syllables, at most `most`.
pub record GivesAsLast (before : SlotPairState) (outputs : List ScoreOutput) (syllables : List PlacedSyllable) (most : ℕ) (old new : BoundedList ScoreEvent) (after : SlotPairState) : Type 0 where
  pub limit : after.gathered.limit ≡ before.gathered.limit
  pub emitted : GivesOutputs outputs old new after.first after.second
  pub few : length syllables ≤ most

-- The pending syllable was emitted, and the fault. Nothing follows.
pub record StopsWith (before : ScoreMachine) (fault : Fault) (after : ScoreMachine) (old new : BoundedList ScoreEvent) : Type 0 where
  pub part : after.part ≡ score_part.Over
  pub limits : after.limits ≡ before.limits
  pub keeps : KeepsMemory before → KeepsMemory after
  pub emitted : GivesOutputs (outputs_of [] (placed_after (has_given before) before.pair.held) ++ Stop fault ∷ []) old new after.pair.first after.pair.second
  pub few : length (placed_after (has_given before) before.pair.held) ≤ 1

-- ---- a character

-- No limit is passed, and the findings were emitted.
pub record Passes (m : ScoreMachine) (x : Char) (p : SlotPairState) (f : BoundedList Finding) (q : SlotPairState) (r : BoundedList Finding) (old new : BoundedList ScoreEvent) : Type 0 where
  pub none : code_in m.limits p.gathered ≡ None
  pub given : GivesPoint p (found_past m x p f) q r old new

-- the machine m past the character x
abbrev pub past_char : ScoreMachine → Char → BodyStageState → SlotPairState → BoundedList Finding → ScoreMachine
past_char m x b q r = record m {
  body = b;
  pair = q;
  found = r;
  next = saturating_next_place x.place x.c;
}

-- It reads the character x: it stops if a limit is passed, else it continues.
pub data ReadsChar (m : ScoreMachine) (x : Char) (old new : BoundedList ScoreEvent) : ScoreMachine → Type 0 where
  stops : {b : BodyStageState} {p : SlotPairState} {f : BoundedList Finding} {code : Code} {n : ScoreMachine} → Gathers m x b p f → code_in m.limits p.gathered ≡ Some code
      → StopsWith (record m { body = b; pair = p; found = found_past m x p f }) (fault_at x.place code) n old new → ReadsChar m x old new n
  goes : {b : BodyStageState} {p : SlotPairState} {f : BoundedList Finding} {q : SlotPairState} {r : BoundedList Finding} → Gathers m x b p f → Passes m x p f q r old new → ReadsChar m x old new (past_char m x b q r)

-- ---- an input

-- At an input the machine emitted its outputs, and is between two calls.
pub record TakesInput (m : ScoreMachine) (input : HeadEvent) (old new : BoundedList ScoreEvent) (n : ScoreMachine) : Type 0 where
  pub step : GivesAt (shown m) input (shown n) old new
  pub rests : IsScore n

-- At the end of the inputs it emitted the outputs that were left, and nothing follows.
pub record EndsInputs (m : ScoreMachine) (old new : BoundedList ScoreEvent) (n : ScoreMachine) : Type 0 where
  pub step : GivesLast (shown m) (shown n) old new
  pub part : n.part ≡ score_part.Over
  pub keeps : KeepsMemory n
