-- What the stage of headers gives of an item has room, and is passed on.
use Rattle.std.proofs.Common.{◌≡◌, ℕ, ◌+◌, ◌≤◌, List, [], ◌∷◌, ◌++◌, length, true, false, Result, Ok, refl, ap, sym, ◌∙◌, subst, arith}
use Rattle.std.proofs.lemmas.List.Sums.{sum_by-append}
use Rattle.gabc_places.specs.BoundedList.{BoundedList}
use Rattle.gabc_places.specs.StageLaw.{Pushes, Finishes}
use Rattle.gabc_places.specs.declared.code.Fault.{Fault}
use Rattle.gabc_places.specs.declared.limits.Limits.{Limits}
use Rattle.gabc_places.specs.declared.place.Char.{Char}
use Rattle.gabc_headers.specs.Canonical.{header_lines, canonical_heads}
use Rattle.gabc_headers.specs.Lines.{bytes_len}
use Rattle.gabc_headers.specs.Heads.{heads_of}
use Rattle.gabc_headers.specs.declared.heads.Heads.{Heads}
use Rattle.gabc_headers.specs.declared.head_event.HeadEvent.{HeadEvent}
use Rattle.gabc_headers.specs.witness.HeadEvents.{HeadProgress, HeaderStageState, events_left, events_of_end, events_of_input}
use Rattle.gabc_headers.proofs.entries.TextsAsBytes.{length-encodes}
use Rattle.gregorio.specs.machine.ScoreWriter.{ScoreWriterState, FitsEvents, HasRoom, IsShortBook}
use Rattle.gregorio.specs.machine.Engine.{IsNoCharacter}
use Rattle.gregorio.proofs.pieces.ItemsAreRead.{AreHeadsShort}
use Rattle.gregorio.proofs.pieces.RoomIsLeft.{input_is_few, room_for_fault, room_for_few}

-- ---- the canonical headers in bytes

pub short_heads : ((limits : Limits) (t : List ℕ) (heads : Heads) → heads_of limits t ≡ Ok heads → (bytes_len (header_lines heads.book) ≤ limits.header) × (bytes_len (canonical_heads heads.book) + 1 ≤ limits.input)) → AreHeadsShort
short_heads law limits t heads is = grind (arith, length-encodes, sum_by-append)

-- no headers at all are short
pub no_heads_are_short : (limits : Limits) → IsShortBook limits []
no_heads_are_short limits =
    let two : bytes_len (canonical_heads []) ≡ 2 = refl in
    omega (arith, length-encodes (canonical_heads []), two)

-- ---- what is given

pub record GivesInput (h : HeaderStageState) (item : Result Char Fault) (from_heads : List HeadEvent) : Type 0 where
  pub is : from_heads ≡ events_of_input h.limits h.progress item
  pub few : length (events_of_input h.limits h.progress item) ≤ 2

pub given_of_input : (h : HeaderStageState) (after : List (Result Char Fault) → List (List HeadEvent)) (item : Result Char Fault) (r old new : BoundedList HeadEvent) (from_heads : List HeadEvent)
    → old ≡ record r { items = [] } → Pushes (events_left h.limits h.progress) after item 2 old new → from_heads ≡ new.items → GivesInput h item from_heads
given_of_input h after item r old new from_heads empty p now =
    let same : events_of_input h.limits h.progress item ≡ p.events = cc (p.law []) in
    record {
      is = now ∙ (ap (λ (x : BoundedList HeadEvent). x.items) p.out ∙ (ap (λ (x : BoundedList HeadEvent). x.items ++ p.events) empty ∙ sym same));
      few = subst (λ (events : List HeadEvent). length events ≤ 2) (sym same) p.few;
    }

pub given_of_end : (h : HeaderStageState) (r old new : BoundedList HeadEvent) (from_heads : List HeadEvent)
    → old ≡ record r { items = [] } → Finishes (events_left h.limits h.progress) 2 old new → from_heads ≡ new.items → from_heads ≡ events_of_end h.limits h.progress
given_of_end h r old new from_heads empty p now = grind arith

-- ---- room

module _ (h : HeaderStageState) (w : ScoreWriterState) (item : Result Char Fault) (from_heads : List HeadEvent) (step : GivesInput h item from_heads) where
  pub room_for_given : HasRoom w → FitsEvents w false from_heads
  room_for_given room = grind (arith, room_for_few, input_is_few)

  pub room_with_end : HasRoom w → IsNoCharacter (item ∷ []) → (limits : Limits) (progress : HeadProgress) → FitsEvents w true (from_heads ++ events_of_end limits progress)
  room_with_end room none limits progress = grind (arith, room_for_fault)
