-- The characters that an engine will still read stand one after the other.
use Rattle.std.proofs.Common.{◌≡◌, ℕ, ◌≤◌, List, [], ◌∷◌, ◌++◌, length, take, drop, Bool, true, not, ◌&&◌, if◌then◌else◌, Result, Ok, Err, refl, arith}
use Rattle.std.specs.Str.Lossy.{utf8_valid_len}
use Rattle.gabc_places.specs.DecoderMachine.{DecoderState, is_unfinished}
use Rattle.gabc_places.specs.Place.{saturating_next_place}
use Rattle.gabc_places.specs.StageLaw.{concat_of}
use Rattle.gabc_places.specs.Text.{tail_at, tail_of}
use Rattle.gabc_places.specs.declared.code.Code.TheVariants.{F1}
use Rattle.gabc_places.specs.declared.code.Fault.{Fault}
use Rattle.gabc_places.specs.declared.limits.Limits.{Limits}
use Rattle.gabc_places.specs.declared.place.Char.{Char}
use Rattle.gabc_places.specs.declared.place.Place.{Place}
use Rattle.gabc_places.specs.witness.DecoderEvents.{DecoderStep, events_left as decoded_left, stop_with, take_byte, take_end}
use Rattle.gabc_headers.specs.HeadEvents.{emitted_by}
use Rattle.gabc_headers.specs.witness.HeadEvents.{HeadProgress, after_headers, over, IsAfterHeaders, events_left}
use Rattle.gabc_score.specs.ScoreStage.{AreInLine}
use Rattle.gregorio.specs.declared.source_ending.SourceEnding.{SourceEnding}
use Rattle.gregorio.specs.declared.source_ending.SourceEnding.TheVariants.{Whole as Ended, Broken}
use Rattle.gregorio.specs.Outcome.{is_whole}
use Rattle.gregorio.specs.witness.Engine.{EngineState, head_events_left, items_left}
use Rattle.gregorio.proofs.pieces.PartsStayInStep.{IsNear}

-- up to a fault, the first of the characters at this place
abbrev ItemsInLine : Place → List (Result Char Fault) → Type 0
ItemsInLine place [] = Unit {0}
ItemsInLine place (Ok x ∷ items) = (x.place ≡ place) × ItemsInLine (saturating_next_place x.place x.c) items
ItemsInLine place (Err fault ∷ items) = Unit {0}

-- ---- what a decoder gives

tail_is : (bytes : List ℕ) → tail_of bytes ≡ tail_at (drop (utf8_valid_len bytes) bytes)
unfolding tail_of
tail_is bytes = refl

record IsCounted (s : DecoderState) : Type 0 where
  near : IsNear s.place s.taken
  within : s.taken ≤ s.limit
  most : s.limit ≤ 4294967295

-- a decoder that goes on, and what comes of it then stands in line
abbrev GoesOnInLine : (DecoderState → List (Result Char Fault)) → Type 0
GoesOnInLine rest = (s : DecoderState) → IsCounted s → ItemsInLine s.place (rest s)

module _ (rest : DecoderState → List (Result Char Fault)) (later : GoesOnInLine rest) where
  abbrev InLine : DecoderState → DecoderStep → Type 0
  InLine s step = ItemsInLine s.place (step.events ++ rest step.state)

  taken_in_line : (x : ℕ) (s : DecoderState) → IsCounted s → InLine s (take_byte x s)
  taken_in_line x s h = grind (arith, tail_is)

end_by : (wrong : Bool) (s : DecoderState) → ItemsInLine s.place ((if wrong then stop_with F1 s else record { events = []; state = record s { ended = true } }).events ++ [])
end_by wrong s = grind arith

end_in_line : (s : DecoderState) → ItemsInLine s.place ((take_end s).events ++ [])
end_in_line s = end_by (not s.ended && is_unfinished s.pending) s

all_in_line : (bytes : List ℕ) (s : DecoderState) → IsCounted s → ItemsInLine s.place (concat_of (decoded_left s bytes))
all_in_line [] s h = end_in_line s
all_in_line (x ∷ bytes) s h = taken_in_line (λ t. concat_of (decoded_left t bytes)) (λ t k. all_in_line bytes t k) x s h

first_in_line : (bytes : List ℕ) (s : DecoderState) → IsCounted s → ItemsInLine s.place (concat_of (take (length bytes) (decoded_left s bytes)))
first_in_line [] s h = tt
first_in_line (x ∷ bytes) s h = taken_in_line (λ t. concat_of (take (length bytes) (decoded_left t bytes))) (λ t k. first_in_line bytes t k) x s h

decoded_in_line : (ending : SourceEnding) (bytes : List ℕ) (s : DecoderState) → IsCounted s → ItemsInLine s.place (emitted_by (is_whole ending) bytes (decoded_left s bytes))
decoded_in_line ending bytes s h = grind (arith, all_in_line, first_in_line)

-- ---- what a stage after the headers gives

over_in_line : (limits : Limits) (items : List (Result Char Fault)) (place : Place) → AreInLine place (concat_of (events_left limits over items))
over_in_line limits [] place = tt
over_in_line limits (x ∷ items) place = over_in_line limits items place

first_over_in_line : (limits : Limits) (items : List (Result Char Fault)) (place : Place) → AreInLine place (concat_of (take (length items) (events_left limits over items)))
first_over_in_line limits [] place = tt
first_over_in_line limits (x ∷ items) place = first_over_in_line limits items place

body_in_line : (limits : Limits) (book : List (List ℕ × List ℕ)) (items : List (Result Char Fault)) (place : Place) → ItemsInLine place items → AreInLine place (concat_of (events_left limits (after_headers book) items))
body_in_line limits book [] place h = (tt, tt)
body_in_line limits book (Ok x ∷ items) place h = (h.0, body_in_line limits book items (saturating_next_place x.place x.c) h.1)
body_in_line limits book (Err fault ∷ items) place h = (tt, over_in_line limits items place)

first_body_in_line : (limits : Limits) (book : List (List ℕ × List ℕ)) (items : List (Result Char Fault)) (place : Place) → ItemsInLine place items
    → AreInLine place (concat_of (take (length items) (events_left limits (after_headers book) items)))
first_body_in_line limits book [] place h = tt
first_body_in_line limits book (Ok x ∷ items) place h = (h.0, first_body_in_line limits book items (saturating_next_place x.place x.c) h.1)
first_body_in_line limits book (Err fault ∷ items) place h = (tt, first_over_in_line limits items place)

given_in_line : (limits : Limits) (progress : HeadProgress) (ending : SourceEnding) (items : List (Result Char Fault)) (place : Place) → IsAfterHeaders progress → ItemsInLine place items
    → AreInLine place (emitted_by (is_whole ending) items (events_left limits progress items))
given_in_line limits (after_headers book) Ended items place is h = body_in_line limits book items place h
given_in_line limits (after_headers book) Broken items place is h = first_body_in_line limits book items place h
given_in_line limits _ ending items place is h = absurd is

-- After the headers the first of the characters stands where the decoder does.
pub left_in_line : (e : EngineState) → IsNear e.decoder.place e.decoder.taken → e.decoder.taken ≤ e.decoder.limit → e.decoder.limit ≤ 4294967295 → IsAfterHeaders e.heads.progress → (ending : SourceEnding) (bytes : List ℕ)
    → AreInLine e.decoder.place (head_events_left e.heads ending (items_left e ending bytes))
left_in_line e near within most is ending bytes = grind (arith, given_in_line, decoded_in_line)
