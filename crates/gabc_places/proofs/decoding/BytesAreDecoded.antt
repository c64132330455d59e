-- What a decoder emits for some bytes is what is known of them.
use Rattle.std.proofs.Common.{◌≡◌, ℕ, zero, suc, not, if◌then◌else◌, ◌+◌, ◌-◌, ◌≤◌, Bool, true, false, cond, List, [], ◌∷◌, ◌++◌, length, take, map, filter, Option, Some, None, Result, Ok, Err, refl, ap, ap₂, sym, ◌∙◌, subst, arith, append_assoc, append-nil, length-append, ◌⊎◌, inl, inr}
use Rattle.std.proofs.lemmas.Bool.{and_parts, and_from}
use Rattle.std.proofs.lemmas.Bool.{lt-ltb, le-ltb}
use Rattle.std.proofs.lemmas.List.{take_all, map-append}
use Rattle.std.proofs.lemmas.List.Elements.{filter-append}
use Rattle.std.proofs.Math.Seq.{take-append_seam, take-append-add}
use Rattle.std.specs.Bool.{nat_lt}
use Rattle.std.specs.Char.{IsScalar}
use Rattle.std.specs.List.{zip}
use Rattle.std.specs.Option.{option_map}
use Rattle.std.specs.Str.Lossy.{utf8_valid_len}
use lib.Utf8.{encode, encodes, scalars}
use Rattle.gabc_places.specs.declared.limits.Limits.{Limits}
use Rattle.gabc_places.specs.declared.place.Char.{Char}
use Rattle.gabc_places.specs.declared.code.Code.{Code}
use Rattle.gabc_places.specs.declared.code.Code.TheVariants.{F1, F7}
use Rattle.gabc_places.specs.declared.code.Fault.{Fault}
use Rattle.gabc_places.specs.declared.decoded.Decoded.{Decoded}
use Rattle.gabc_places.specs.declared.decoded.Tail.{Tail}
use Rattle.gabc_places.specs.declared.decoded.Tail.TheVariants.{Nothing, Part, Wrong}
use Rattle.gabc_places.specs.Place.{place_after, placed_characters, placed_characters_after, next_place}
use Rattle.gabc_places.specs.declared.place.Place.{Place}
use Rattle.gabc_places.specs.StageLaw.{concat_of, silence}
use Rattle.gabc_places.specs.Text.{is_left_out, read_as, with_previous, text_of_characters, utf8_prefix_of, tail_of, decoded_of, stop_code_of}
use Rattle.gabc_places.specs.Decoder.{items_of, known_of, known_at_end}
use Rattle.gabc_places.specs.DecoderMachine.{DecoderState, IsPartial, IsWrong, fresh_decoder, is_unfinished}
use Rattle.gabc_places.specs.witness.DecoderEvents.{DecoderStep, stop_with, take_character, take_pending, take_byte, take_end, events_left}
use Rattle.gabc_places.proofs.decoding.AByteIsTaken.{with_byte, byte_taken}
use Rattle.gabc_places.proofs.decoding.ADecoderStops.{silent}
use Rattle.gabc_places.proofs.PlacesOfAText.{next_after}
use Rattle.gabc_places.proofs.PushesAreOne.{joined_silence}
use Rattle.gabc_places.proofs.texts.PlacesOfCharacters.{placed-append}
use Rattle.gabc_places.proofs.utf8.CharacterByCharacter.{utf8_prefix_of-past, utf8_prefix_of-none, tail_of-past, tail_of-none, tail_of-wrong, tail_of-partial, wrong-more}
use Rattle.gabc_places.proofs.utf8.PartOfACharacter.{nothing_is_partial, part_is, wrong_is, character_is}

-- ---- the text of characters with one more

abbrev last_or : ℕ → List ℕ → ℕ
last_or p [] = p
last_or p (c ∷ cs) = last_or c cs

last_or-more : (p : ℕ) (cs : List ℕ) (c : ℕ) → last_or p (cs ++ c ∷ []) ≡ c
last_or-more p [] c = refl
last_or-more p (d ∷ cs) c = last_or-more d cs c

zip-more : (p : ℕ) (cs : List ℕ) (c : ℕ) → zip (p ∷ (cs ++ c ∷ [])) (cs ++ c ∷ []) ≡ zip (p ∷ cs) cs ++ (last_or p cs, c) ∷ []
zip-more p [] c = refl
zip-more p (d ∷ cs) c = ap (λ l. (p, d) ∷ l) (zip-more d cs c)

abbrev read_one : ℕ × ℕ → ℕ
read_one q = read_as q.1

abbrev is_read : ℕ × ℕ → Bool
is_read q = not (is_left_out q)

-- what a character adds to the text
abbrev added : Bool → ℕ → List ℕ
added left_out c = if left_out then [] else read_as c ∷ []

text-more : (cs : List ℕ) (c : ℕ) → text_of_characters (cs ++ c ∷ []) ≡ text_of_characters cs ++ added (is_left_out (last_or 0 cs, c)) c
text-more cs c =
    ap (λ l. map read_one (filter is_read l)) (zip-more 0 cs c)
    ∙ ap (map read_one) (filter-append is_read (with_previous cs) ((last_or 0 cs, c) ∷ []))
    ∙ map-append read_one (filter is_read (with_previous cs)) (filter is_read ((last_or 0 cs, c) ∷ []))
    ∙ ap (λ l. text_of_characters cs ++ l) (by (is_left_out (last_or 0 cs, c)))
  where
    by : (b : Bool) → map read_one (cond (not b) ((last_or 0 cs, c) ∷ []) []) ≡ added b c
    by true = refl
    by false = refl

-- ---- characters, and then a part of one

pub reads-past : (cs r : List ℕ) → scalars cs ≡ true → utf8_prefix_of (encodes cs ++ r) ≡ cs ++ utf8_prefix_of r
reads-past [] r ok = refl
reads-past (c ∷ cs) r ok =
    let s = and_parts _ _ ok in
    ap utf8_prefix_of (append_assoc (encode c) (encodes cs) r) ∙ utf8_prefix_of-past c (encodes cs ++ r) s.0 ∙ ap (λ l. c ∷ l) (reads-past cs r s.1)

pub tail-past : (cs r : List ℕ) → scalars cs ≡ true → tail_of (encodes cs ++ r) ≡ tail_of r
tail-past [] r ok = refl
tail-past (c ∷ cs) r ok =
    let s = and_parts _ _ ok in
    ap tail_of (append_assoc (encode c) (encodes cs) r) ∙ tail_of-past c (encodes cs ++ r) s.0 ∙ tail-past cs r s.1

encodes-more : (cs : List ℕ) (c : ℕ) → encodes (cs ++ c ∷ []) ≡ encodes cs ++ encode c
encodes-more [] c = append-nil (encode c)
encodes-more (d ∷ cs) c = ap (λ l. encode d ++ l) (encodes-more cs c) ∙ sym (append_assoc (encode d) (encodes cs) (encode c))

scalars-more : (cs : List ℕ) (c : ℕ) → scalars cs ≡ true → IsScalar c → scalars (cs ++ c ∷ []) ≡ true
scalars-more [] c ok s = and_from _ _ s refl
scalars-more (d ∷ cs) c ok s = let k = and_parts _ _ ok in and_from _ _ k.0 (scalars-more cs c k.1 s)

part-tail : (ps : List ℕ) → IsPartial ps → tail_of ps ≡ (if is_unfinished ps then Part else Nothing)
part-tail ps p = grind (arith, tail_of-none, tail_of-partial)

-- ---- what is known, by the characters that were read and what stops them

abbrev pub stopped_at : List ℕ → Option Code → Option Fault
stopped_at text stop = option_map (λ code. record { place = place_after text; code = code }) stop

abbrev pub decoded_by : List ℕ → Option Code → Decoded
decoded_by cs stop = record { text = text_of_characters cs; fault = stopped_at (text_of_characters cs) stop }

abbrev items : List ℕ → Option Code → List (Result Char Fault)
items cs stop = items_of (decoded_by cs stop)

abbrev known : Limits → Bool → List ℕ → List (Result Char Fault)
known limits ended bytes = items_of (decoded_of limits ended bytes)

pub decoded_within : (limits : Limits) (ended : Bool) (bytes : List ℕ) → length bytes ≤ limits.input
    → decoded_of limits ended bytes ≡ decoded_by (utf8_prefix_of bytes) (stop_code_of false ended (tail_of bytes))
decoded_within limits ended bytes le = grind (arith, take_all, le-ltb)

within_limit : (limits : Limits) (ended : Bool) (bytes : List ℕ) → length bytes ≤ limits.input
    → known limits ended bytes ≡ items (utf8_prefix_of bytes) (stop_code_of false ended (tail_of bytes))
within_limit limits ended bytes le = ap items_of (decoded_within limits ended bytes le)

above_limit : (limits : Limits) (ended : Bool) (bytes : List ℕ) (x : ℕ) (xs : List ℕ) → length bytes ≡ limits.input
    → known limits ended (bytes ++ x ∷ xs) ≡ items (utf8_prefix_of bytes) (stop_code_of true ended (tail_of bytes))
above_limit limits ended bytes x xs same = grind (arith, take-append_seam, lt-ltb, length-append)

items-stop : (cs : List ℕ) (code : Code) → items cs (Some code) ≡ items cs None ++ Err (record { place = place_after (text_of_characters cs); code = code }) ∷ []
items-stop cs code = ap (λ l. l ++ Err (record { place = place_after (text_of_characters cs); code = code }) ∷ []) (sym (append-nil (map (λ c. Ok c) (placed_characters (text_of_characters cs)))))

-- a character more
items-more : (cs : List ℕ) (c : ℕ) → items (cs ++ c ∷ []) None ≡ items cs None ++ map (λ c. Ok c) (placed_characters_after (text_of_characters cs) (added (is_left_out (last_or 0 cs, c)) c))
items-more cs c = grind (arith, append-nil, text-more, placed-append, map-append)

-- ---- a decoder that has read some bytes

pub record IsReading (limits : Limits) (bytes : List ℕ) (s : DecoderState) : Type 0 where
  pub chars : List ℕ
  pub bytes_are : bytes ≡ encodes chars ++ s.pending
  pub scalar : scalars chars ≡ true
  pub partial : IsPartial s.pending
  pub running : s.ended ≡ false
  pub limit : s.limit ≡ limits.input
  pub taken : s.taken ≡ length bytes
  pub within : s.taken ≤ s.limit
  pub place : s.place ≡ place_after (text_of_characters chars)
  pub previous : s.previous ≡ last_or 0 chars

module _ (limits : Limits) (bytes : List ℕ) (s : DecoderState) (h : IsReading limits bytes s) where
  read_are : utf8_prefix_of bytes ≡ h.chars
  read_are = ap utf8_prefix_of h.bytes_are ∙ reads-past h.chars s.pending h.scalar ∙ ap (λ l. h.chars ++ l) (utf8_prefix_of-none s.pending h.partial.none) ∙ append-nil h.chars

  tail_is : tail_of bytes ≡ (if is_unfinished s.pending then Part else Nothing)
  tail_is = ap tail_of h.bytes_are ∙ tail-past h.chars s.pending h.scalar ∙ part-tail s.pending h.partial

  known_is : known limits false bytes ≡ items h.chars None
  known_is = grind (arith, within_limit, read_are, tail_is)

  pub end_is : known limits true bytes ≡ known limits false bytes ++ (take_end s).events
  end_is = grind (arith, within_limit, read_are, tail_is, known_is, items-stop, append-nil)

-- ---- one byte more

-- it goes on
pub record Goes (limits : Limits) (bytes : List ℕ) (t : DecoderStep) (x : ℕ) : Type 0 where
  pub next : IsReading limits (bytes ++ x ∷ []) t.state
  pub known_is : known limits false (bytes ++ x ∷ []) ≡ known limits false bytes ++ t.events

-- it stops, and all is known
pub record Halts (limits : Limits) (bytes : List ℕ) (t : DecoderStep) (x : ℕ) : Type 0 where
  pub stopped : t.state.ended ≡ true
  pub known_is : (ended : Bool) (xs : List ℕ) → known limits ended (bytes ++ x ∷ xs) ≡ known limits false bytes ++ t.events

abbrev Moves : Limits → List ℕ → DecoderStep → ℕ → Type 0
Moves limits bytes t x = Goes limits bytes t x ⊎ Halts limits bytes t x

module _ (limits : Limits) (bytes : List ℕ) (s : DecoderState) (h : IsReading limits bytes s) (x : ℕ) where
  abbrev pending : List ℕ
  pending = s.pending ++ x ∷ []

  -- the limit is reached
  at_limit : s.taken ≡ s.limit → take_byte x s ≡ stop_with F7 s
  at_limit full = grind arith

  halts_at_limit : s.taken ≡ s.limit → Halts limits bytes (stop_with F7 s) x
  halts_at_limit full = record {
    stopped = refl;
    known_is = λ ended xs. above_limit limits ended bytes x xs (sym h.taken ∙ full ∙ h.limit) ∙ ap₂ (λ cs t. items cs (stop_code_of true ended t)) (read_are limits bytes s h) (tail_is limits bytes s h)
        ∙ ap (items h.chars) (by ended (is_unfinished s.pending)) ∙ items-stop h.chars F7 ∙ ap₂ (λ l p. l ++ Err (record { place = p; code = F7 }) ∷ []) (sym (known_is limits bytes s h)) (sym h.place);
  }
    where
      by : (ended b : Bool) → stop_code_of true ended (if b then Part else Nothing) ≡ Some F7
      by ended true = refl
      by ended false = refl

  module _ (room : s.taken ≡ s.limit → ⊥) where
    less : length bytes + 1 ≤ limits.input
    less = grind arith

    bytes_with : bytes ++ x ∷ [] ≡ encodes h.chars ++ pending
    bytes_with = ap (λ l. l ++ x ∷ []) h.bytes_are ∙ append_assoc (encodes h.chars) s.pending (x ∷ [])

    -- one character more
    abbrev left_out_step : ℕ → DecoderStep
    left_out_step c = record { events = []; state = record s { taken = s.taken + 1; pending = []; previous = c } }

    abbrev read_step : ℕ → DecoderStep
    read_step c = record {
      events = Ok (record { c = read_as c; place = s.place }) ∷ [];
      state = record s { taken = s.taken + 1; place = next_place s.place (read_as c); pending = []; previous = c };
    }

    -- by whether the character is left out
    step_by : Bool → ℕ → DecoderStep
    step_by b c = cond b (left_out_step c) (read_step c)

    module _ (c : ℕ) (e : pending ≡ encode c) (sc : IsScalar c) where
      all : bytes ++ x ∷ [] ≡ encodes (h.chars ++ c ∷ [])
      all = bytes_with ∙ ap (λ l. encodes h.chars ++ l) e ∙ sym (encodes-more h.chars c)

      text_is : (b : Bool) → is_left_out (s.previous, c) ≡ b → text_of_characters (h.chars ++ c ∷ []) ≡ text_of_characters h.chars ++ added b c
      text_is b f = text-more h.chars c ∙ ap (λ o. text_of_characters h.chars ++ added o c) (ap (λ p. is_left_out (p, c)) (sym h.previous) ∙ f)

      place_is : (b : Bool) → is_left_out (s.previous, c) ≡ b → (step_by b c).state.place ≡ place_after (text_of_characters (h.chars ++ c ∷ []))
      unfolding step_by
      place_is true f = h.place ∙ ap place_after (sym (text_is true f ∙ append-nil (text_of_characters h.chars)))
      place_is false f = ap (λ p. next_place p (read_as c)) h.place ∙ next_after (text_of_characters h.chars) (read_as c) ∙ ap place_after (sym (text_is false f))

      -- the reading after it, at the place that follows
      abbrev next_at : (p : Place) → p ≡ place_after (text_of_characters (h.chars ++ c ∷ [])) → IsReading limits (bytes ++ x ∷ []) (record s { taken = s.taken + 1; place = p; pending = []; previous = c })
      next_at p f = record {
        chars = h.chars ++ c ∷ [];
        bytes_are = all ∙ sym (append-nil (encodes (h.chars ++ c ∷ [])));
        scalar = scalars-more h.chars c h.scalar sc;
        partial = nothing_is_partial;
        running = h.running;
        limit = h.limit;
        taken = omega (arith, h.taken, length-append bytes (x ∷ []));
        within = omega (arith, less, h.taken, h.limit);
        place = f;
        previous = sym (last_or-more 0 h.chars c);
      }

      next_is : (b : Bool) → is_left_out (s.previous, c) ≡ b → IsReading limits (bytes ++ x ∷ []) (step_by b c).state
      unfolding step_by
      next_is true f = next_at s.place (place_is true f)
      next_is false f = next_at (next_place s.place (read_as c)) (place_is false f)

      events_are : (b : Bool) → map (λ c. Ok c) (placed_characters_after (text_of_characters h.chars) (added b c)) ≡ (step_by b c).events
      unfolding step_by
      events_are b = grind arith

      goes_by : (b : Bool) → is_left_out (s.previous, c) ≡ b → Goes limits bytes (step_by b c) x
      unfolding step_by next_is
      goes_by b f = record {
        next = next_is b f;
        known_is = known_is limits (bytes ++ x ∷ []) (step_by b c).state (next_is b f) ∙ ap (λ cs. items cs None) (chars_are b f) ∙ items-more h.chars c
            ∙ ap (λ o. items h.chars None ++ map (λ c. Ok c) (placed_characters_after (text_of_characters h.chars) (added o c))) (ap (λ p. is_left_out (p, c)) (sym h.previous) ∙ f)
            ∙ ap₂ (λ l m. l ++ m) (sym (known_is limits bytes s h)) (events_are b);
      }
        where
          chars_are : (b : Bool) (f : is_left_out (s.previous, c) ≡ b) → (next_is b f).chars ≡ h.chars ++ c ∷ []
          chars_are true f = refl
          chars_are false f = refl

      character_goes : Goes limits bytes (take_character c (with_byte s)) x
      unfolding step_by
      character_goes = goes_by (is_left_out (s.previous, c)) refl

    -- a part of a character
    part_goes : IsPartial pending → Goes limits bytes (record { events = []; state = record s { taken = s.taken + 1; pending = pending } }) x
    part_goes p =
        let next : IsReading limits (bytes ++ x ∷ []) (record s { taken = s.taken + 1; pending = pending }) = record {
          chars = h.chars;
          bytes_are = bytes_with;
          scalar = h.scalar;
          partial = p;
          running = h.running;
          limit = h.limit;
          taken = omega (arith, h.taken, length-append bytes (x ∷ []));
          within = omega (arith, less, h.taken, h.limit);
          place = h.place;
          previous = h.previous;
        } in
        record { next = next; known_is = known_is limits (bytes ++ x ∷ []) _ next ∙ sym (append-nil (known limits false bytes) ∙ known_is limits bytes s h) }

    -- bytes that begin no character
    wrong_halts : IsWrong pending → Halts limits bytes (stop_with F1 (with_byte s)) x
    wrong_halts w = record {
      stopped = refl;
      known_is = λ ended xs. ap₂ (λ cs t. items cs (stop_code_of (nat_lt limits.input (length (bytes ++ x ∷ xs))) ended t)) (read_on xs) (tail_on xs)
          ∙ items-stop h.chars F1 ∙ ap₂ (λ l p. l ++ Err (record { place = p; code = F1 }) ∷ []) (sym (known_is limits bytes s h)) (sym h.place);
    }
      where
        on : List ℕ → List ℕ
        on xs = take (limits.input - (length bytes + 1)) xs

        cut : (xs : List ℕ) → take limits.input (bytes ++ x ∷ xs) ≡ encodes h.chars ++ (pending ++ on xs)
        cut xs =
            let same : limits.input ≡ length (bytes ++ x ∷ []) + (limits.input - (length bytes + 1)) = omega (arith, less, length-append bytes (x ∷ [])) in
            ap (take limits.input) (sym (append_assoc bytes (x ∷ []) xs)) ∙ ap (λ n. take n ((bytes ++ x ∷ []) ++ xs)) same ∙ take-append-add (bytes ++ x ∷ []) xs (limits.input - (length bytes + 1))
            ∙ ap (λ l. l ++ on xs) bytes_with ∙ append_assoc (encodes h.chars) pending (on xs)

        read_on : (xs : List ℕ) → utf8_prefix_of (take limits.input (bytes ++ x ∷ xs)) ≡ h.chars
        read_on xs = ap utf8_prefix_of (cut xs) ∙ reads-past h.chars (pending ++ on xs) h.scalar
            ∙ ap (λ l. h.chars ++ l) (utf8_prefix_of-none (pending ++ on xs) (wrong-more pending (on xs) w).none) ∙ append-nil h.chars

        tail_on : (xs : List ℕ) → tail_of (take limits.input (bytes ++ x ∷ xs)) ≡ Wrong
        tail_on xs = ap tail_of (cut xs) ∙ tail-past h.chars (pending ++ on xs) h.scalar ∙ tail_of-wrong (pending ++ on xs) (wrong-more pending (on xs) w)

    before_is : utf8_valid_len (take (length pending - 1) pending) ≡ 0
    before_is = ap utf8_valid_len (ap (λ n. take n pending) (omega (arith, length-append s.pending (x ∷ []))) ∙ take-append_seam s.pending (x ∷ [])) ∙ h.partial.none

    pending_moves : (cs : List ℕ) (t : Tail) → utf8_prefix_of pending ≡ cs → tail_of pending ≡ t → Moves limits bytes (take_pending pending cs t (with_byte s)) x
    pending_moves (c ∷ cs) t e f = let k = character_is pending before_is c cs e in inl (character_goes c k.0 k.1)
    pending_moves [] Wrong e f = inr (wrong_halts (wrong_is pending e f))
    pending_moves [] Part e f = inl (part_goes (part_is pending Part e f (λ k. cc)))
    pending_moves [] Nothing e f = inl (part_goes (part_is pending Nothing e f (λ k. cc)))

    byte_moves : Moves limits bytes (take_byte x s) x
    byte_moves = subst (λ t. Moves limits bytes t x) (sym (byte_taken x s h.running room)) (pending_moves (utf8_prefix_of pending) (tail_of pending) refl refl)

  pub moves : Moves limits bytes (take_byte x s) x
  moves = grind (arith, at_limit, halts_at_limit, byte_moves)

-- ---- all the bytes

silent_front : (n : ℕ) (xs : List ℕ) → concat_of (take n (silence {I = ℕ} {O = Result Char Fault} xs)) ≡ []
silent_front zero xs = refl
silent_front (suc zero) [] = refl
silent_front (suc (suc n)) [] = refl
silent_front (suc n) (x ∷ xs) = silent_front n xs

abbrev emitted : DecoderState → List ℕ → List ℕ → List (Result Char Fault)
emitted s prefix more = concat_of (take (length prefix) (events_left s (prefix ++ more)))

module _ (limits : Limits) (bytes : List ℕ) (s : DecoderState) (x : ℕ) where
  one_more : (prefix more : List ℕ)
      → ((next : IsReading limits (bytes ++ x ∷ []) (take_byte x s).state) → known limits false (bytes ++ x ∷ []) ++ emitted (take_byte x s).state prefix more ≡ known limits false ((bytes ++ x ∷ []) ++ prefix))
      → Moves limits bytes (take_byte x s) x → known limits false bytes ++ emitted s (x ∷ prefix) more ≡ known limits false (bytes ++ x ∷ prefix)
  one_more prefix more rest h = grind (arith, append_assoc, known_is, silent, silent_front, append-nil)

  one_more_to_end : (xs : List ℕ)
      → ((next : IsReading limits (bytes ++ x ∷ []) (take_byte x s).state) → known limits false (bytes ++ x ∷ []) ++ concat_of (events_left (take_byte x s).state xs) ≡ known limits true ((bytes ++ x ∷ []) ++ xs))
      → Moves limits bytes (take_byte x s) x → known limits false bytes ++ concat_of (events_left s (x ∷ xs)) ≡ known limits true (bytes ++ x ∷ xs)
  one_more_to_end xs rest h = grind (arith, append_assoc, known_is, silent, joined_silence, append-nil)

known_on : (limits : Limits) (bytes : List ℕ) (s : DecoderState) → IsReading limits bytes s → (prefix more : List ℕ)
    → known limits false bytes ++ emitted s prefix more ≡ known limits false (bytes ++ prefix)
known_on limits bytes s h [] more = append-nil (known limits false bytes) ∙ ap (known limits false) (sym (append-nil bytes))
known_on limits bytes s h (x ∷ prefix) more = one_more limits bytes s x prefix more (λ next. known_on limits (bytes ++ x ∷ []) (take_byte x s).state next prefix more) (moves limits bytes s h x)

known_to_end : (limits : Limits) (bytes : List ℕ) (s : DecoderState) → IsReading limits bytes s → (xs : List ℕ)
    → known limits false bytes ++ concat_of (events_left s xs) ≡ known limits true (bytes ++ xs)
known_to_end limits bytes s h [] = ap (λ l. known limits false bytes ++ l) (append-nil (take_end s).events) ∙ sym (end_is limits bytes s h) ∙ ap (known limits true) (sym (append-nil bytes))
known_to_end limits bytes s h (x ∷ xs) = one_more_to_end limits bytes s x xs (λ next. known_to_end limits (bytes ++ x ∷ []) (take_byte x s).state next xs) (moves limits bytes s h x)

fresh_reads : (limits : Limits) → IsReading limits [] (fresh_decoder limits.input)
fresh_reads limits = grind (arith, nothing_is_partial)

nothing_known : (limits : Limits) → known limits false [] ≡ []
unfolding fresh_reads
nothing_known limits = known_is limits [] (fresh_decoder limits.input) (fresh_reads limits)

pub fresh_known : (limits : Limits) (bytes more : List ℕ) → concat_of (take (length bytes) (events_left (fresh_decoder limits.input) (bytes ++ more))) ≡ known_of limits bytes
fresh_known limits bytes more = sym (ap (λ l. l ++ emitted (fresh_decoder limits.input) bytes more) (nothing_known limits)) ∙ known_on limits [] (fresh_decoder limits.input) (fresh_reads limits) bytes more

pub fresh_at_end : (limits : Limits) (bytes : List ℕ) → concat_of (events_left (fresh_decoder limits.input) bytes) ≡ known_at_end limits bytes
fresh_at_end limits bytes = sym (ap (λ l. l ++ concat_of (events_left (fresh_decoder limits.input) bytes)) (nothing_known limits)) ∙ known_to_end limits [] (fresh_decoder limits.input) (fresh_reads limits) bytes
