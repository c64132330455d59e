-- A text that is skipped at once gives what it gives byte by byte.
use Rattle.std.proofs.Common.{◌≡◌, ◌≢◌, ℕ, ◌+◌, ◌-◌, ◌<◌, ◌≤◌, true, false, List, [], ◌∷◌, ◌++◌, length, replicate, Result, Ok, refl, ap, ap₂, sym, subst, ◌∙◌, arith, append_assoc, append-nil, length-append, IsUtf8}
use Rattle.std.proofs.lemmas.Bool.{and_parts}
use Rattle.std.proofs.lemmas.Bool.Decides.{nat_tests}
use Rattle.std.proofs.lemmas.List.Elements.{All-head, All-tail}
use Rattle.std.proofs.lemmas.Str.{length-encode, len_utf8_bounds, encodes-chars, length-le-encodes, scalars-chars}
use Rattle.std.specs.Char.{IsScalar}
use Rattle.std.specs.List.{All}
use Rattle.std.specs.Str.{chars}
use lib.Utf8.{encode, encodes, scalars}
use Rattle.gabc_places.specs.declared.place.Char.{Char}
use Rattle.gabc_places.specs.declared.place.Place.{Place}
use Rattle.gabc_places.specs.declared.code.Fault.{Fault}
use Rattle.gabc_places.specs.Place.{next_place, place_past}
use Rattle.gabc_places.specs.Skip.{most_skipped, character_events, text_events}
use Rattle.gabc_places.specs.Text.{utf8_prefix_of, tail_of}
use Rattle.gabc_places.specs.TextOfAnInput.{IsPlain}
use Rattle.gabc_places.specs.DecoderMachine.{DecoderState, IsPartial, IsReached}
use Rattle.gabc_places.specs.DecoderReports.{is_after_cr}
use Rattle.gabc_places.specs.witness.DecoderEvents.{DecoderStep, take_character, take_pending, events_left}
use Rattle.gabc_places.proofs.decoding.AByteIsTaken.{with_byte, byte_taken}
use Rattle.gabc_places.proofs.decoding.DecodersAgree.{agree}
use Rattle.gabc_places.proofs.decoding.PlainTextsAreReadAgain.{kept}
use Rattle.gabc_places.proofs.utf8.CharacterByCharacter.{utf8_prefix_of-past, utf8_prefix_of-none, tail_of-partial}
use Rattle.gabc_places.proofs.utf8.PartOfACharacter.{nothing_is_partial, front_is_partial}

-- ---- when bytes may be skipped

pub record Runs (s : DecoderState) : Type 0 where
  pub running : s.ended ≡ false
  pub whole : s.pending ≡ []

pub most_is_left : (s : DecoderState) → most_skipped s ≤ s.limit - s.taken
most_is_left s = grind arith

-- a decoder that may skip a byte runs, and no character is pending
pub runs : (s : DecoderState) → 1 ≤ most_skipped s → Runs s
runs s some = grind arith

-- ---- a part of a character

prefix_of_character : (c : ℕ) → IsScalar c → utf8_prefix_of (encode c) ≡ c ∷ []
prefix_of_character c s =
    ap utf8_prefix_of (sym (append-nil (encode c))) ∙ utf8_prefix_of-past c [] s ∙ ap (λ (l : List ℕ). c ∷ l) (utf8_prefix_of-none [] nothing_is_partial.none)

part_pending : (bytes : List ℕ) (s : DecoderState) → 0 < length bytes → IsPartial bytes
    → take_pending bytes (utf8_prefix_of bytes) (tail_of bytes) s ≡ record { events = []; state = record s { pending = bytes } }
part_pending [] s some p = absurd (omega (arith, some))
part_pending (x ∷ xs) s some p = rw (utf8_prefix_of-none (x ∷ xs) p.none, tail_of-partial x xs p) refl

-- ---- a character

-- the decoder past a character
abbrev past : DecoderState → ℕ → ℕ → DecoderState
past s taken c = record s { taken = taken; place = next_place s.place c; pending = []; previous = c }

character_kept : (c : ℕ) (s : DecoderState) → s.previous ≢ 13 → IsPlain c → take_character c (with_byte s)
    ≡ record { events = Ok (record { c = c; place = s.place }) ∷ []; state = past s (s.taken + 1) c }
character_kept c s before plain = let k = kept s.previous c before plain in rw (k.0, k.1) refl

-- nothing for each of `n` bytes, and then the character
abbrev pub lists_for : ℕ → Char → List (List (Result Char Fault))
lists_for n x = replicate n [] ++ (Ok x ∷ []) ∷ []

module _ (c : ℕ) (scalar : IsScalar c) (plain : IsPlain c) (more : List ℕ) where
  -- what is left of the character, after the bytes of it that are pending
  parts_taken : (x : ℕ) (xs : List ℕ) (s : DecoderState) → s.ended ≡ false → s.pending ++ x ∷ xs ≡ encode c → s.taken + length (x ∷ xs) ≤ s.limit → s.previous ≢ 13
      → events_left s (x ∷ xs ++ more) ≡ lists_for (length xs) (record { c = c; place = s.place }) ++ events_left (past s (s.taken + length (x ∷ xs)) c) more
  parts_taken x [] s running spelled within before = grind (arith, byte_taken, prefix_of_character, character_kept)
  parts_taken x (y ∷ ys) s running spelled within before =
      let bytes = s.pending ++ x ∷ [] in
      let all : bytes ++ y ∷ ys ≡ encode c = append_assoc s.pending (x ∷ []) (y ∷ ys) ∙ spelled in
      let t : DecoderState = record s { taken = s.taken + 1; pending = bytes } in
      let partial : IsPartial bytes = front_is_partial c bytes (y ∷ ys) scalar (omega (arith, length-append s.pending (x ∷ []))) (omega arith) all in
      ap (λ (step : DecoderStep). step.events ∷ events_left step.state ((y ∷ ys) ++ more))
      (byte_taken x s running (λ e. absurd (omega (arith, e, within)))
      ∙ part_pending bytes (with_byte s) (omega (arith, length-append s.pending (x ∷ []))) partial)
      ∙ ap (λ (lists : List (List (Result Char Fault))). [] ∷ lists)
      (parts_taken y ys t running all (omega (arith, within)) before
      ∙ ap (λ (n : ℕ). lists_for (length ys) (record { c = c; place = s.place }) ++ events_left (past s n c) more) (omega arith))

-- ---- a text

-- the decoder past `n` bytes, where the next character stands at `next` and the one before is no CR
abbrev pub moved_past : DecoderState → ℕ → Place → DecoderState
moved_past s n next = record s { taken = s.taken + n; place = next; previous = 0 }

whole_character_taken : (c : ℕ) (s : DecoderState) (more : List ℕ) → IsScalar c → IsPlain c → s.ended ≡ false → s.pending ≡ [] → s.taken + length (encode c) ≤ s.limit → s.previous ≢ 13
    → events_left s (encode c ++ more) ≡ character_events (record { c = c; place = s.place }) ++ events_left (past s (s.taken + length (encode c)) c) more
whole_character_taken c s more scalar plain running whole within before = by (encode c) refl
  where
    by : (bytes : List ℕ) → encode c ≡ bytes
        → events_left s (encode c ++ more) ≡ character_events (record { c = c; place = s.place }) ++ events_left (past s (s.taken + length (encode c)) c) more
    by [] e = absurd (omega (arith, ap length e, length-encode c, (len_utf8_bounds c).0))
    by (x ∷ xs) e =
        ap (λ (bytes : List ℕ). events_left s (bytes ++ more)) e
        ∙ parts_taken c scalar plain more x xs s running (ap (λ (l : List ℕ). l ++ x ∷ xs) whole ∙ sym e) (omega (arith, within, ap length e)) before
        ∙ ap₂ (λ (n taken : ℕ). lists_for n (record { c = c; place = s.place }) ++ events_left (past s taken c) more) (omega (arith, ap length e, length-encode c)) (omega (arith, ap length e))

text_taken : (cs : List ℕ) (s : DecoderState) → scalars cs ≡ true → All IsPlain cs → s.ended ≡ false → s.pending ≡ [] → s.taken + length (encodes cs) ≤ s.limit → s.previous ≢ 13
    → (more : List ℕ) → events_left s (encodes cs ++ more) ≡ text_events s.place cs ++ events_left (moved_past s (length (encodes cs)) (place_past s.place cs)) more
text_taken [] s scalar plain running whole within before more =
    agree more s 0 (subst IsPartial (sym whole) nothing_is_partial) (λ on none. grind (arith, nat_tests, before))
    ∙ ap (λ (n : ℕ). events_left (record s { taken = n; previous = 0 }) more) (omega arith)
text_taken (c ∷ cs) s scalar plain running whole within before more =
    let ok = and_parts _ _ scalar in
    let x : Char = record { c = c; place = s.place } in
    let one = length (encode c) in
    let others = length (encodes cs) in
    let sum : length (encodes (c ∷ cs)) ≡ one + others = length-append (encode c) (encodes cs) in
    let t = past s (s.taken + one) c in
    let kind = All-head IsPlain c cs plain in
    ap (events_left s) (append_assoc (encode c) (encodes cs) more)
    ∙ whole_character_taken c s (encodes cs ++ more) ok.0 kind running whole (omega (arith, within, sum)) before
    ∙ ap (λ (l : List (List (Result Char Fault))). character_events x ++ l)
    (text_taken cs t ok.1 (All-tail IsPlain c cs plain) running refl (omega (arith, within, sum)) kind.0 more
    ∙ ap₂ (λ (n : ℕ) (l : List ℕ). text_events t.place cs ++ events_left (record s { taken = n; place = place_past t.place cs; pending = l; previous = 0 }) more) (omega (arith, sum)) (sym whole))
    ∙ sym (append_assoc (character_events x) (text_events t.place cs) (events_left (moved_past s (length (encodes (c ∷ cs))) (place_past t.place cs)) more))

-- with nothing pending, the character before is a CR only where one stands directly before the next byte
no_return : (s : DecoderState) → s.pending ≡ [] → is_after_cr s ≡ false → s.previous ≢ 13
no_return s whole past e = grind arith

pub text_skipped : (text : List ℕ) (s : DecoderState) → IsUtf8 text → 0 < length text → length text ≤ most_skipped s → All IsPlain (chars text) → is_after_cr s ≡ false
    → (more : List ℕ) → events_left s (text ++ more) ≡ text_events s.place (chars text) ++ events_left (moved_past s (length text) (place_past s.place (chars text))) more
text_skipped text s u some few plain past more =
    let r = runs s (omega (arith, some, few)) in
    let spelled = encodes-chars text u in
    subst (λ (bytes : List ℕ). events_left s (bytes ++ more) ≡ text_events s.place (chars text) ++ events_left (moved_past s (length bytes) (place_past s.place (chars text))) more)
    spelled
    (text_taken (chars text) s (scalars-chars text u) plain r.running r.whole (omega (arith, few, most_is_left s, some, ap length spelled)) (no_return s r.whole past) more)

-- ---- where the next character stands

reached_next : (p : Place) (c k taken : ℕ) → IsReached p k taken → IsReached (next_place p c) k (taken + 1)
reached_next p c k taken r = grind arith

reached_past : (cs : List ℕ) (p : Place) (k taken : ℕ) → IsReached p k taken → IsReached (place_past p cs) k (taken + length cs)
reached_past [] p k taken r = subst (IsReached p k) (omega arith) r
reached_past (c ∷ cs) p k taken r = subst (IsReached (place_past (next_place p c) cs) k) (omega arith) (reached_past cs (next_place p c) k (taken + 1) (reached_next p c k taken r))

-- a text has a byte for each character at least
pub reached_past_text : (text : List ℕ) (p : Place) (k taken : ℕ) → IsUtf8 text → IsReached p k taken → IsReached (place_past p (chars text)) k (taken + length text)
reached_past_text text p k taken u r =
    let past = reached_past (chars text) p k taken r in
    let few : length (chars text) ≤ length text = subst (λ (bytes : List ℕ). length (chars text) ≤ length bytes) (encodes-chars text u) (length-le-encodes (chars text)) in
    record { line = past.line; column = past.column; bytes = let near = past.bytes in omega (arith, near, few) }
