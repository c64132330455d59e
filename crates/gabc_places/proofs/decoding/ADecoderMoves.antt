-- Where a decoder stands after a byte.
use Rattle.std.proofs.Common.{◌≡◌, ℕ, ◌+◌, not, Bool, true, false, List, [], ◌∷◌, ◌++◌, ◌==◌, ◌&&◌, Option, option_to_list, Result, refl, arith}
use Rattle.std.proofs.lemmas.Bool.{and_parts}
use Rattle.std.specs.Char.{IsScalar}
use lib.Utf8.{scalars}
use Rattle.gabc_places.specs.declared.place.Char.{Char}
use Rattle.gabc_places.specs.declared.code.Code.{Code}
use Rattle.gabc_places.specs.declared.code.Fault.{Fault}
use Rattle.gabc_places.specs.declared.decoded.Tail.{Tail}
use Rattle.gabc_places.specs.Text.{is_left_out, read_as, utf8_prefix_of, tail_of}
use Rattle.gabc_places.specs.TextOfAnInput.{IsTextCharacter}
use Rattle.gabc_places.specs.DecoderMachine.{DecoderState, is_unfinished}
use Rattle.gabc_places.specs.DecoderReports.{MovesOn, is_after_cr}
use Rattle.gabc_places.specs.witness.DecoderEvents.{DecoderStep, stop_with, take_character, take_pending}
use Rattle.gabc_places.specs.machine.Decoder.{take_part}
use Rattle.gabc_places.proofs.texts.TextsAreScalars.{prefix_scalars}

-- after a byte that is counted it stands where it did
pub record IsCounted (s mid : DecoderState) : Type 0 where
  pub limit : mid.limit ≡ s.limit
  pub taken : mid.taken ≡ s.taken + 1
  pub place : mid.place ≡ s.place
  pub ended : mid.ended ≡ s.ended

abbrev Moves : DecoderState → DecoderStep → Type 0
Moves s t = MovesOn s t.events t.state

moves_with : (s new : DecoderState) (t : DecoderStep) (item : Option (Result Char Fault)) → Moves s t → new ≡ t.state → option_to_list item ≡ t.events → MovesOn s (option_to_list item) new
moves_with s new t item moves e h = grind arith

stop_moves : (code : Code) (s mid : DecoderState) → IsCounted s mid → Moves s (stop_with code mid)
stop_moves code s mid counted = grind arith

-- nothing came
quiet_moves : (s mid : DecoderState) (pending : List ℕ) (previous : ℕ) → IsCounted s mid → is_after_cr (record mid { pending = pending; previous = previous }) ≡ false
    → MovesOn s [] (record mid { pending = pending; previous = previous })
quiet_moves s mid pending previous counted past = grind arith

-- it is no CR: an LF stands for that
of_text : (previous c : ℕ) → IsScalar c → is_left_out (previous, c) ≡ false → IsTextCharacter (read_as c)
of_text previous c scalar shown = grind arith

-- only a CR is a CR before the next byte
left_out_is_no_return : (unfinished : Bool) (previous c : ℕ) → is_left_out (previous, c) ≡ true → (not unfinished && (c == 13)) ≡ false
left_out_is_no_return unfinished previous c left = grind arith

a_return_ends_a_line : (unfinished : Bool) (c : ℕ) → (not unfinished && (c == 13)) ≡ true → read_as c ≡ 10
a_return_ends_a_line unfinished c cr = rw (and_parts (not unfinished) (c == 13) cr).1

character_moves : (c : ℕ) (s mid : DecoderState) → IsScalar c → IsCounted s mid → Moves s (take_character c mid)
character_moves c s mid scalar counted = grind (arith, quiet_moves, left_out_is_no_return, of_text, a_return_ends_a_line)

-- where bytes are pending, no CR stands before the next one
pending_moves : (bytes cs : List ℕ) (tail : Tail) (s mid : DecoderState) → is_unfinished bytes ≡ true → scalars cs ≡ true → IsCounted s mid → Moves s (take_pending bytes cs tail mid)
pending_moves bytes cs tail s mid pending scalar counted = grind (arith, character_moves, and_parts, stop_moves, quiet_moves)

some_pending : (bytes : List ℕ) (x : ℕ) → is_unfinished (bytes ++ x ∷ []) ≡ true
some_pending [] x = refl
some_pending (b ∷ bytes) x = refl

-- ---- what a call returns

pub character_moves_on : (c : ℕ) (s mid new : DecoderState) (item : Option (Result Char Fault)) → IsScalar c → IsCounted s mid → new ≡ (take_character c mid).state → option_to_list item ≡ (take_character c mid).events
    → MovesOn s (option_to_list item) new
character_moves_on c s mid new item scalar counted e h = moves_with s new (take_character c mid) item (character_moves c s mid scalar counted) e h

pub part_moves_on : (x : ℕ) (s mid new : DecoderState) (item : Option (Result Char Fault)) → IsCounted s mid → new ≡ (take_part x mid).state → option_to_list item ≡ (take_part x mid).events
    → MovesOn s (option_to_list item) new
part_moves_on x s mid new item counted e h =
    let bytes = mid.pending ++ x ∷ [] in
    moves_with s new (take_part x mid) item
    (pending_moves bytes (utf8_prefix_of bytes) (tail_of bytes) s (record mid { pending = [] }) (some_pending mid.pending x) (prefix_scalars bytes) (record { limit = counted.limit; taken = counted.taken; place = counted.place; ended = counted.ended })) e h

-- a fault at a byte that is not taken
pub fault_moves_on : (code : Code) (s new : DecoderState) (item : Option (Result Char Fault)) → new ≡ (stop_with code s).state → option_to_list item ≡ (stop_with code s).events → MovesOn s (option_to_list item) new
fault_moves_on code s new item e h = moves_with s new (stop_with code s) item (record { limit = refl; taken = (omega arith, omega arith); here = tt; place = refl; ended = refl; plain = tt; cr = λ runs. absurd (cc) }) e h
