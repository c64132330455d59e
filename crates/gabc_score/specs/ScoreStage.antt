-- The outputs of a stage over a score: each syllable in a slot that it lends.
use Rattle.std.specs.Prelude.{◌≡◌, ℕ, ◌+◌, ◌<◌, ◌≤◌, ◌^◌, List, [], ◌∷◌, Bool, true, false, length, map, take, if◌then◌else◌}
use Rattle.gabc_places.specs.BoundedList.{BoundedList, extended_by}
use Rattle.gabc_places.specs.declared.limits.Limits.{Limits}
use Rattle.gabc_places.specs.declared.place.Char.{Char}
use Rattle.gabc_places.specs.declared.place.Place.{Place}
use Rattle.gabc_places.specs.Place.{saturating_next_place}
use Rattle.gabc_headers.specs.declared.head_event.HeadEvent.{HeadEvent}
use Rattle.gabc_headers.specs.declared.head_event.HeadEvent.TheVariants as head_event
use Rattle.gabc_score.specs.declared.preceding.Preceding.{Preceding}
use Rattle.gabc_score.specs.declared.score_event.BorrowedSyllable.{BorrowedSyllable}
use Rattle.gabc_score.specs.declared.score_event.BorrowedSyllable.TheVariants.{First, Second}
use Rattle.gabc_score.specs.declared.score_event.ScoreEvent.{ScoreEvent}
use Rattle.gabc_score.specs.declared.score_event.ScoreEvent.TheVariants as event
use Rattle.gabc_score.specs.Before.{no_syllable, with_placed}
use Rattle.gabc_score.specs.declared.score_machine.ScorePart.{ScorePart}
use Rattle.gabc_score.specs.declared.score_machine.ScorePart.TheVariants as score_part
use Rattle.gabc_score.specs.ScoreReports.{IsAt, IsInFront, is_in_comment}
use Rattle.gabc_places.specs.TextOfAnInput.{IsTextCharacter}
use Rattle.gabc_score.specs.ReportedWithin.{AreCountsWithin, HoldsIfAny, ReportsText, whole_syllables}
use Rattle.gabc_body.specs.declared.syllable.Position.{Position}
use Rattle.gabc_body.specs.ScoreEvents.{first_place, ScoreOutput, Found, Stop, Syllable, End, is_last, syllables_in}
use Rattle.gabc_body.specs.Canonical.{canonical_in_place}
use Rattle.gabc_score.specs.NoNotes.{OnlyFirstHasNotes}
use Rattle.gabc_body.specs.Syllable.{UnplacedSyllable, PlacedSyllable}
use Rattle.std.specs.List.{All, list_any}
use Rattle.gabc_score.specs.witness.ScoreStage.{ScoreStageState, left_of}

-- outputs as events: the first syllable of a call is borrowed as this one
abbrev pub events_borrowed : BorrowedSyllable → List ScoreOutput → List ScoreEvent
events_borrowed lent [] = []
events_borrowed lent (Found f ∷ outputs) = event.Found f ∷ events_borrowed lent outputs
events_borrowed lent (Stop fault ∷ outputs) = event.Stop fault ∷ events_borrowed lent outputs
events_borrowed lent (Syllable s ∷ outputs) = event.Syllable lent ∷ events_borrowed Second outputs
events_borrowed lent (End ∷ outputs) = event.End ∷ events_borrowed lent outputs

abbrev pub events_of : List ScoreOutput → List ScoreEvent
events_of outputs = events_borrowed First outputs

-- a call emitted these outputs as events, and lends their syllables
pub record GivesOutputs (outputs : List ScoreOutput) (old new : BoundedList ScoreEvent) (first second : PlacedSyllable) : Type 0 where
  pub events : new ≡ extended_by old (events_of outputs)
  pub few : length (events_of outputs) ≤ 16
  pub lent : syllables_in outputs ≡ take (length (syllables_in outputs)) (first ∷ second ∷ [])

-- The kept text of a syllable is within the limits, and so is its canonical text, but for the LF
-- before it.
pub record IsWithin (limits : Limits) (s : PlacedSyllable) : Type 0 where
  pub kept : length s.made.kept ≤ limits.syllable
  pub canonical : length (canonical_in_place s) ≤ limits.syllable + 1

-- so is a syllable, whatever its position in its word
abbrev pub IsWithinAnywhere : Limits → UnplacedSyllable → Type 0
IsWithinAnywhere limits m = (position : Position) → IsWithin limits (record { made = m; position = position })

-- At most n syllables are borrowed, and they are within the limits. Those after the first have no
-- notes.
pub record Lends (limits : Limits) (most : ℕ) (outputs : List ScoreOutput) : Type 0 where
  pub few : length (syllables_in outputs) ≤ most
  pub later : OnlyFirstHasNotes (syllables_in outputs)
  pub within : All (IsWithin limits) (syllables_in outputs)

-- the largest number of syllables that an input may bring
abbrev pub most_borrowed : HeadEvent → ℕ
most_borrowed (head_event.Body x) = 1
most_borrowed (head_event.Stop fault) = 1
most_borrowed head_event.End = 2
most_borrowed (head_event.Found f) = 0
most_borrowed (head_event.Heads lines macros canonical) = 0

-- The totals before the first syllable that was not emitted, after an input at which these outputs
-- were: after the headers no syllable was.
abbrev pub preceding_past : ScorePart → HeadEvent → List ScoreOutput → Preceding → Preceding
preceding_past score_part.Heads (head_event.Heads lines macros canonical) outputs p = no_syllable canonical
preceding_past part x outputs p = with_placed p (syllables_in outputs)

-- the place of the next character after an input: that of the first after the headers
abbrev pub next_past : ScorePart → HeadEvent → Place → Place
next_past score_part.Heads (head_event.Heads lines macros canonical) next = first_place
next_past score_part.Body (head_event.Body x) next = saturating_next_place x.place x.c
next_past part x next = next

-- The largest number of syllables that may be whole after an input, if n were before: none after
-- the headers, one more after a character.
abbrev pub most_whole : ScorePart → HeadEvent → ℕ → ℕ
most_whole score_part.Heads (head_event.Heads lines macros canonical) n = 0
most_whole score_part.Body (head_event.Body x) n = n + 1
most_whole part x n = n

-- The part in which it is after an input at which these outputs were emitted. A stop or the end is
-- the last of all.
abbrev pub part_past : ScorePart → HeadEvent → List ScoreOutput → ScorePart
part_past score_part.Over x outputs = score_part.Over
part_past score_part.Heads (head_event.Heads lines macros canonical) outputs = score_part.Body
part_past part x outputs = if list_any is_last outputs then score_part.Over else part

-- an input that is a character is at this place
abbrev pub IsHere : HeadEvent → Place → Type 0
IsHere (head_event.Body x) next = x.place ≡ next
IsHere x next = Unit {0}

-- neither the line of a character nor its column has reached its last value
abbrev pub IsPlaceBelow : Char → Type 0
IsPlaceBelow x = (x.place.line + 1 < 2 ^ 64) × (x.place.column + 1 < 2 ^ 64)

-- An input may come of a text whose next character is at this place: the numbers of its headers, or
-- this character.
abbrev pub MayCome : Limits → Place → HeadEvent → Type 0
MayCome limits next (head_event.Heads lines macros canonical) = AreCountsWithin limits lines macros canonical
MayCome limits next (head_event.Body x) = (x.place ≡ next) × (IsPlaceBelow x × IsTextCharacter x.c)
MayCome limits next x = Unit {0}

-- in the body a text has counted the place of the next character
abbrev pub IsInLine : ScoreStageState → Type 0
IsInLine s = s.part ≡ score_part.Body → IsAt s.held.next s.body.part

-- a stop and the end are the last inputs that count
abbrev pub is_final : HeadEvent → Bool
is_final (head_event.Stop fault) = true
is_final head_event.End = true
is_final (head_event.Body x) = false
is_final (head_event.Found f) = false
is_final (head_event.Heads lines macros canonical) = false

-- an input is the LF at the end of a line of the body
abbrev pub EndsLine : HeadEvent → Type 0
EndsLine (head_event.Body x) = x.c ≡ 10
EndsLine x = ⊥

-- the findings of the headers are passed on
abbrev pub PassesOn : HeadEvent → List ScoreOutput → Type 0
PassesOn (head_event.Found f) outputs = outputs ≡ Found f ∷ []
PassesOn x outputs = Unit {0}

-- in the body a text has counted this place for the next character
abbrev pub Counts : Place → ScoreStageState → Type 0
Counts place s = s.part ≡ score_part.Body → IsAt place s.body.part

-- the place of the next character after an input, if this is that of the next one before it
abbrev pub place_after_input : HeadEvent → Place → Place
place_after_input (head_event.Body x) place = saturating_next_place x.place x.c
place_after_input x place = place

-- the characters among these inputs come one after the other, the first of them at this place
abbrev pub AreInLine : Place → List HeadEvent → Type 0
AreInLine place [] = Unit {0}
AreInLine place (x ∷ xs) = IsHere x place × AreInLine (place_after_input x place) xs

-- At an input it emitted the next list of its outputs, and goes on with those that follow under the
-- same limits.
pub record GivesAt (before : ScoreStageState) (x : HeadEvent) (after : ScoreStageState) (old new : BoundedList ScoreEvent) : Type 0 where
  pub outputs : List ScoreOutput
  pub lends : Lends before.limits (most_borrowed x) outputs
  pub limits : after.limits ≡ before.limits
  pub part : after.part ≡ part_past before.part x outputs
  pub last : (before.part ≡ score_part.Over → ⊥) → is_final x ≡ true → list_any is_last outputs ≡ true
  pub passes : (before.part ≡ score_part.Over → ⊥) → PassesOn x outputs
  pub line : EndsLine x → after.part ≡ score_part.Body → is_in_comment after.body.part ≡ false
  pub counts : (place : Place) → IsHere x place → Counts place before → Counts (place_after_input x place) after
  pub before_held : after.part ≡ score_part.Body → after.before ≡ preceding_past before.part x outputs before.before
  pub next : after.part ≡ score_part.Body → after.held.next ≡ next_past before.part x before.held.next
  pub stands : IsHere x before.held.next → IsInLine before → IsInLine after
  pub whole : after.part ≡ score_part.Body → whole_syllables after ≤ most_whole before.part x (whole_syllables before)
  pub told : MayCome before.limits before.held.next x → IsInLine before → ReportsText before → ReportsText after
  pub holds : HoldsIfAny before → HoldsIfAny after
  pub law : (xs : List HeadEvent) → left_of before (x ∷ xs) ≡ outputs ∷ left_of after xs
  pub emitted : GivesOutputs outputs old new after.first after.second
  pub front : before.part ≡ score_part.Heads → (lines macros canonical : ℕ) → x ≡ head_event.Heads lines macros canonical → IsInFront after

-- At the end of the inputs it emitted its last outputs.
pub record GivesLast (before after : ScoreStageState) (old new : BoundedList ScoreEvent) : Type 0 where
  pub outputs : List ScoreOutput
  pub lends : Lends before.limits 1 outputs
  pub limits : after.limits ≡ before.limits
  pub law : left_of before [] ≡ outputs ∷ []
  pub emitted : GivesOutputs outputs old new after.first after.second

-- ---- counts that have not reached their last value

-- neither the characters of the body among these nor the counts of the headers
abbrev pub AreCountsBelow : List HeadEvent → Type 0
AreCountsBelow [] = Unit {0}
AreCountsBelow (head_event.Body x ∷ xs) = IsPlaceBelow x × AreCountsBelow xs
AreCountsBelow (head_event.Found f ∷ xs) = AreCountsBelow xs
AreCountsBelow (head_event.Stop fault ∷ xs) = AreCountsBelow xs
AreCountsBelow (head_event.End ∷ xs) = AreCountsBelow xs
AreCountsBelow (head_event.Heads lines macros canonical ∷ xs) = (canonical + 1 < 2 ^ 64) × AreCountsBelow xs

-- ---- as a stage

-- the lists of events that it will still emit
abbrev pub events_left : ScoreStageState → List HeadEvent → List (List ScoreEvent)
events_left s xs = map (λ outputs. events_of outputs) (left_of s xs)

-- a stop or the end ends a stage
abbrev pub is_last_event : ScoreEvent → Bool
is_last_event (event.Found f) = false
is_last_event (event.Stop fault) = true
is_last_event (event.Syllable lent) = false
is_last_event event.End = true

-- the syllable of this name
abbrev pub borrowed_in : BorrowedSyllable → ScoreStageState → PlacedSyllable
borrowed_in First s = s.first
borrowed_in Second s = s.second
