-- A decoder that has stopped emits nothing, and a fault stops it.
use Rattle.std.proofs.Common.{◌≡◌, ℕ, true, false, List, [], ◌∷◌, ◌++◌, Option, IfSome, option_to_list, Result, Err, refl, ap, ◌∙◌, ◌⊎◌, inl, inr, arith}
use Rattle.std.specs.List.{list_any}
use Rattle.gabc_places.specs.declared.place.Char.{Char}
use Rattle.gabc_places.specs.declared.place.Place.{Place}
use Rattle.gabc_places.specs.declared.code.Code.{Code}
use Rattle.gabc_places.specs.declared.code.Fault.{Fault}
use Rattle.gabc_places.specs.declared.decoded.Tail.{Tail}
use Rattle.gabc_places.specs.StageLaw.{concat_of, silence, EmitsNothing}
use Rattle.gabc_places.specs.Text.{utf8_prefix_of, tail_of}
use Rattle.gabc_places.specs.DecoderMachine.{DecoderState, is_fault_item}
use Rattle.gabc_places.specs.witness.DecoderEvents.{DecoderStep, stop_with, take_character, take_pending, take_byte, take_end, events_left}
use Rattle.gabc_places.specs.machine.Decoder.{take_part}
use Rattle.gabc_places.proofs.PushesAreOne.{joined_silence}

byte_ignored : (x : ℕ) (s : DecoderState) → s.ended ≡ true → take_byte x s ≡ record { events = []; state = s }
byte_ignored x s e = rw e refl

end_ignored : (s : DecoderState) → s.ended ≡ true → (take_end s).events ≡ []
end_ignored s e = rw e refl

pub silent : (s : DecoderState) → s.ended ≡ true → (xs : List ℕ) → events_left s xs ≡ silence xs
silent s e [] = ap (λ l. l ∷ []) (end_ignored s e)
silent s e (x ∷ xs) = ap (λ (t : DecoderStep). t.events ∷ events_left t.state xs) (byte_ignored x s e) ∙ ap (λ l. [] ∷ l) (silent s e xs)

pub gives_nothing : (s : DecoderState) → s.ended ≡ true → EmitsNothing (events_left s)
gives_nothing s e xs = ap concat_of (silent s e xs) ∙ joined_silence {I = ℕ} {O = Result Char Fault} xs

-- a step emits no fault, or a fault alone, and then it stops
pub record IsEndless (t : DecoderStep) : Type 0 where
  pub none : list_any is_fault_item t.events ≡ false

pub record IsLast (t : DecoderStep) : Type 0 where
  pub fault : Result Char Fault
  pub events_are : t.events ≡ fault ∷ []
  pub stopped : t.state.ended ≡ true

abbrev Stops : DecoderStep → Type 0
Stops t = IsEndless t ⊎ IsLast t

stop_stops : (code : Code) (s : DecoderState) → Stops (stop_with code s)
stop_stops code s = inr (record { fault = Err (record { place = s.place; code = code }); events_are = refl; stopped = refl })

quiet_stops : (s : DecoderState) → Stops (record { events = []; state = s })
quiet_stops s = inl (record { none = refl })

character_stops : (c : ℕ) (s : DecoderState) → Stops (take_character c s)
character_stops c s = grind arith

pending_stops : (bytes cs : List ℕ) (tail : Tail) (s : DecoderState) → Stops (take_pending bytes cs tail s)
pending_stops bytes cs tail s = grind (arith, character_stops, stop_stops, quiet_stops)

-- ---- what a call returns

stops_with : (t : DecoderStep) (item : Option (Result Char Fault)) (new : DecoderState) → Stops t → new ≡ t.state → option_to_list item ≡ t.events
    → IfSome item (λ i. is_fault_item i ≡ true → EmitsNothing (events_left new))
stops_with t item new stops e h = grind (arith, gives_nothing)

pub fault_stops : (code : Code) (s new : DecoderState) (item : Option (Result Char Fault)) → new ≡ (stop_with code s).state → option_to_list item ≡ (stop_with code s).events
    → IfSome item (λ i. is_fault_item i ≡ true → EmitsNothing (events_left new))
fault_stops code s new item e h = stops_with (stop_with code s) item new (stop_stops code s) e h

pub part_stops : (x : ℕ) (s new : DecoderState) (item : Option (Result Char Fault)) → new ≡ (take_part x s).state → option_to_list item ≡ (take_part x s).events
    → IfSome item (λ i. is_fault_item i ≡ true → EmitsNothing (events_left new))
part_stops x s new item e h = stops_with (take_part x s) item new (pending_stops (s.pending ++ x ∷ []) (utf8_prefix_of (s.pending ++ x ∷ [])) (tail_of (s.pending ++ x ∷ [])) (record s { pending = [] })) e h

pub item_of_byte : (x : ℕ) (s new : DecoderState) (item : Option (Result Char Fault)) → new ≡ (take_byte x s).state → option_to_list item ≡ (take_byte x s).events
    → (xs : List ℕ) → events_left s (x ∷ xs) ≡ option_to_list item ∷ events_left new xs
item_of_byte x s new item e h xs = grind arith

-- ---- where a fault stands

-- a fault is emitted at the place of the next character, which stays
abbrev StaysAtFault : Place → DecoderStep → Type 0
StaysAtFault p t = list_any is_fault_item t.events ≡ true → t.state.place ≡ p

character_stays : (c : ℕ) (s : DecoderState) → StaysAtFault s.place (take_character c s)
character_stays c s = grind arith

pending_stays : (bytes cs : List ℕ) (tail : Tail) (s : DecoderState) → StaysAtFault s.place (take_pending bytes cs tail s)
pending_stays bytes cs tail s = grind (arith, character_stays)

stays_with : (p : Place) (t : DecoderStep) (item : Option (Result Char Fault)) (new : DecoderState) → StaysAtFault p t → new ≡ t.state → option_to_list item ≡ t.events
    → IfSome item (λ i. is_fault_item i ≡ true → new.place ≡ p)
stays_with p t item new stays e h = grind arith

pub part_stays : (x : ℕ) (s new : DecoderState) (item : Option (Result Char Fault)) → new ≡ (take_part x s).state → option_to_list item ≡ (take_part x s).events
    → IfSome item (λ i. is_fault_item i ≡ true → new.place ≡ s.place)
part_stays x s new item e h = stays_with s.place (take_part x s) item new (pending_stays (s.pending ++ x ∷ []) (utf8_prefix_of (s.pending ++ x ∷ [])) (tail_of (s.pending ++ x ∷ [])) (record s { pending = [] })) e h

-- a character that is whole is no fault
pub character_is_none : (c : ℕ) (s new : DecoderState) (item : Option (Result Char Fault)) → new ≡ (take_character c s).state → option_to_list item ≡ (take_character c s).events
    → IfSome item (λ i. is_fault_item i ≡ true → new.place ≡ s.place)
character_is_none c s new item e h = stays_with s.place (take_character c s) item new (character_stays c s) e h
