-- The reports of a decoder, and those from which a decoder can be made.
use Rattle.std.specs.Prelude.{◌≡◌, ℕ, ◌+◌, ◌≤◌, List, [], ◌∷◌, length, Bool, true, false, not, ◌==◌, ◌&&◌, if◌then◌else◌, Result, Ok, Err}
use Rattle.gabc_places.specs.declared.code.Fault.{Fault}
use Rattle.gabc_places.specs.declared.place.Char.{Char}
use Rattle.gabc_places.specs.declared.place.Place.{Place}
use Rattle.gabc_places.specs.Place.{next_place}
use Rattle.gabc_places.specs.DecoderMachine.{DecoderState, IsPartial, IsReached, BeginsLine, is_unfinished}
use Rattle.gabc_places.specs.TextOfAnInput.{IsTextCharacter}

-- whether the last character is a CR directly before the next byte
abbrev pub is_after_cr : DecoderState → Bool
is_after_cr s = not (is_unfinished s.pending) && (s.previous == 13)

-- Two decoders report the same: the number of bytes that they took, the place of the next
-- character, the bytes of one that is not whole, and whether a CR is directly before the next byte.
pub record ReportTheSame (one other : DecoderState) : Type 0 where
  pub taken : one.taken ≡ other.taken
  pub place : one.place ≡ other.place
  pub pending : one.pending ≡ other.pending
  pub cr : is_after_cr one ≡ is_after_cr other

-- A decoder under this limit may report this.
pub record MayBeReported (limit taken : ℕ) (place : Place) (pending : List ℕ) (cr : Bool) : Type 0 where
  pub within : taken ≤ limit
  pub reached : IsReached place (length pending) taken
  pub partial : IsPartial pending
  pub begins : cr ≡ true → BeginsLine place
  pub none : cr ≡ true → pending ≡ []

-- the decoder that is made from it: the character before is a CR, or some other one
abbrev pub resumed : ℕ → ℕ → Place → List ℕ → Bool → DecoderState
resumed limit taken place pending cr = record { limit = limit; taken = taken; place = place; pending = pending; previous = if cr then 13 else 0; ended = false }

-- ---- a byte

-- the place of the next character is after the one that is whole
abbrev pub moved_place : List (Result Char Fault) → Place → Place
moved_place [] p = p
moved_place (Ok x ∷ items) p = next_place x.place x.c
moved_place (Err fault ∷ items) p = p

-- and that one is at the place of the next one before
abbrev pub AreHere : List (Result Char Fault) → Place → Type 0
AreHere [] p = Unit {0}
AreHere (Ok x ∷ items) p = x.place ≡ p
AreHere (Err fault ∷ items) p = Unit {0}

-- one byte is taken, or none if nothing is read any more
abbrev pub AreCounted : List (Result Char Fault) → ℕ → ℕ → Type 0
AreCounted [] old new = (old ≤ new) × (new ≤ old + 1)
AreCounted (Ok x ∷ items) old new = new ≡ old + 1
AreCounted (Err fault ∷ items) old new = (old ≤ new) × (new ≤ old + 1)

-- a fault ends it
abbrev pub ended_by : List (Result Char Fault) → Bool → Bool
ended_by [] ended = ended
ended_by (Ok x ∷ items) ended = ended
ended_by (Err fault ∷ items) ended = true

-- what comes is a character of a text
abbrev pub AreOfText : List (Result Char Fault) → Type 0
AreOfText [] = Unit {0}
AreOfText (Ok x ∷ items) = IsTextCharacter x.c
AreOfText (Err fault ∷ items) = Unit {0}

-- an LF comes
abbrev pub EndALine : List (Result Char Fault) → Type 0
EndALine [] = ⊥
EndALine (Ok x ∷ items) = x.c ≡ 10
EndALine (Err fault ∷ items) = ⊥

-- With a byte, at which these came, a decoder goes on under its limit. If a CR is directly before
-- the next byte then, this byte was the CR.
pub record MovesOn (old : DecoderState) (items : List (Result Char Fault)) (new : DecoderState) : Type 0 where
  pub limit : new.limit ≡ old.limit
  pub taken : AreCounted items old.taken new.taken
  pub here : AreHere items old.place
  pub place : new.place ≡ moved_place items old.place
  pub ended : new.ended ≡ ended_by items old.ended
  pub plain : AreOfText items
  pub cr : new.ended ≡ false → is_after_cr new ≡ true → EndALine items

-- With bytes one after another, at each of which these came, it goes on so from one to the next.
abbrev pub MovesThrough : DecoderState → List (List (Result Char Fault)) → DecoderState → Type 0
MovesThrough old [] new = new ≡ old
MovesThrough old (items ∷ lists) new = (mid : DecoderState) × (MovesOn old items mid × MovesThrough mid lists new)
