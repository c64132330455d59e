-- Two slots: the current syllable, and the pending one.
use Rattle.std.specs.Prelude.{◌≡◌, ◌≤◌, ℕ, ◌+◌, min, nat_lt, List, [], ◌∷◌, Bool, true, false, take, Option}
use Rattle.gabc_notes.specs.declared.stage.NoteEvent.{NoteEvent}
use Rattle.gabc_body.specs.Events.{is_close}
use Rattle.gabc_score.specs.declared.preceding.Preceding.{Preceding}
use Rattle.gabc_score.specs.declared.slot_pair.SlotUse.{SlotUse}
use Rattle.gabc_score.specs.declared.slot_pair.SlotUse.TheVariants.{Filling, Made, Lent}
use Rattle.gabc_score.specs.Before.{most}
use Rattle.gabc_body.specs.Canonical.{StandsFrom}
use Rattle.gabc_body.specs.Syllable.{UnplacedSyllable, PlacedSyllable}
use Rattle.gabc_score.specs.declared.score_event.BorrowedSyllable.TheVariants.{First, Second}
use Rattle.gabc_score.specs.declared.score_event.ScoreEvent.{ScoreEvent}
use Rattle.gabc_score.specs.declared.score_event.ScoreEvent.TheVariants as event
use Rattle.gabc_body.specs.witness.Gatherer.{Gathered}
use Rattle.gabc_score.specs.machine.Preceded.{Contexts, gathered_after, none_pending}
use Rattle.gabc_score.specs.machine.Slot.{ReadSyllable, made_in, placed_in}
use Rattle.gabc_body.specs.witness.SyllableBuilder.{OpenSyllable, nothing_open}

-- the state gathered, the pending syllable, if there is one, its context and that of the current
-- one, the use of the slot that reads, and the two syllables that may be borrowed
pub record SlotPairState : Type 0 where
  pub gathered : Gathered
  pub held : List UnplacedSyllable
  pub contexts : Contexts
  pub used : SlotUse
  pub first : PlacedSyllable
  pub second : PlacedSyllable

-- The state gathered is `g`, and the use of the slot that reads `used_so`. The pending syllable
-- and the contexts stay.
pub record HasGathered (before : SlotPairState) (g : Gathered) (used_so : SlotUse) (after : SlotPairState) : Type 0 where
  pub gathered : after.gathered ≡ g
  pub held : after.held ≡ before.held
  pub contexts : after.contexts ≡ before.contexts
  pub used : after.used ≡ used_so

-- the slots after these syllables, none of them pending
abbrev pub slots_after : Preceding → SlotPairState → SlotPairState
slots_after p s = record s { gathered = gathered_after p s.gathered; held = []; contexts = none_pending p }

-- nothing is read if the slot has a whole syllable
abbrev pub reading_in : SlotUse → ReadSyllable → OpenSyllable
reading_in Filling s = s.reading
reading_in Made s = nothing_open
reading_in Lent s = nothing_open

abbrev pub held_in : Bool → ReadSyllable → List UnplacedSyllable
held_in true s = made_in s ∷ []
held_in false s = []

-- the syllable that was made last
abbrev pub made_last : SlotUse → ReadSyllable → List UnplacedSyllable
made_last Made s = made_in s ∷ []
made_last Filling s = []
made_last Lent s = []

-- a syllable is before the one that is gathered next
abbrev pub follows_in : SlotUse → Preceding → Bool
follows_in Made after = true
follows_in Filling after = nat_lt 0 after.syllables
follows_in Lent after = nat_lt 0 after.syllables

-- the canonical bytes before it, if those of the whole syllable in the slot that reads are `n`
abbrev pub total_in : SlotUse → Preceding → ℕ → ℕ
total_in Made after n = min (after.canonical + n) most
total_in Filling after n = after.canonical
total_in Lent after n = after.canonical

-- a syllable is before the pending one
abbrev pub is_preceded : SlotPairState → Bool
is_preceded s = nat_lt 0 s.contexts.before.syllables

-- the first syllable that may be borrowed: that of the slot that reads, if it was emitted, else
-- that of the other slot
abbrev pub first_in : SlotUse → ReadSyllable → ReadSyllable → PlacedSyllable
first_in Lent now other = placed_in now
first_in Filling now other = placed_in other
first_in Made now other = placed_in other

-- the byte from which on the kept text of the whole syllable in a slot is its canonical text
abbrev pub StandsIn : Option ℕ → ReadSyllable → Type 0
StandsIn from s = StandsFrom from (made_in s)

abbrev pub StandsInReader : SlotUse → Option ℕ → ReadSyllable → Type 0
StandsInReader Filling from s = Unit {0}
StandsInReader Made from s = StandsIn from s
StandsInReader Lent from s = StandsIn from s

abbrev pub is_made : SlotUse → Bool
is_made Made = true
is_made Filling = false
is_made Lent = false

abbrev pub used_by : Bool → SlotUse
used_by true = Made
used_by false = Filling

-- a `)` ends the current syllable
abbrev pub used_past : NoteEvent → SlotUse
used_past e = used_by (is_close e)

-- the first n of the two syllables that may be borrowed
abbrev pub lent_syllables : ℕ → SlotPairState → List PlacedSyllable
lent_syllables n s = take n (s.first ∷ s.second ∷ [])

-- the events that emit them
abbrev pub lent_of : ℕ → List ScoreEvent
lent_of n = take n (event.Syllable First ∷ event.Syllable Second ∷ [])

-- These syllables are borrowed, at most `bound`, and the limit is the same.
pub record LendsLast (before : SlotPairState) (syllables : List PlacedSyllable) (bound count : ℕ) (after : SlotPairState) : Type 0 where
  pub limit : after.gathered.limit ≡ before.gathered.limit
  pub lends : lent_syllables count after ≡ syllables
  pub most : count ≤ bound
