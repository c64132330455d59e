-- What is kept since the last `)` has no more bytes than the events since then keep.
use Rattle.std.proofs.Common.{◌≡◌, ℕ, ◌+◌, ◌≤◌, List, [], ◌∷◌, ◌++◌, length, Bool, true, false, cond, refl, arith, length-append, length-take, codes}
use Rattle.std.specs.List.{All}
use Rattle.std.proofs.lemmas.List.Elements.{All-nil, All-push}
use lib.Utf8.{encode}
use Rattle.gabc_text.specs.declared.text_event.TextEnd.TheVariants as text_end
use Rattle.gabc_text.specs.declared.text_event.TextEvent.TheVariants as text
use Rattle.gabc_text.specs.declared.text_event.TextEnd.{TextEnd}
use Rattle.gabc_notes.specs.declared.stage.NoteEnd.TheVariants as note_end
use Rattle.gabc_notes.specs.declared.stage.NoteEvent.TheVariants as note
use Rattle.gabc_body.specs.declared.events.BodyEvent.{BodyEvent}
use Rattle.gabc_body.specs.declared.events.BodyEvent.TheVariants as event
use Rattle.gabc_body.specs.Syllable.{UnplacedSyllable, closes, since_close, prefix_of, part_of, ended_parts_of, kept_of, all_syllables}
use Rattle.gabc_body.specs.Body.{events_onto}

-- ---- how much is kept

-- the bytes that an event keeps: a character, or the mark of a part
abbrev pub bytes_kept : BodyEvent → ℕ
bytes_kept (event.Text (text.Kept x)) = length (encode x.c)
bytes_kept (event.Text (text.Ended text_end.Notes)) = 1
bytes_kept (event.Notes line (note.Kept x)) = length (encode x.c)
bytes_kept (event.Notes line (note.Ended note_end.Next n)) = 1
bytes_kept (event.Notes line (note.Ended note_end.Close n)) = 1
bytes_kept _ = 0

abbrev pub all_kept : List BodyEvent → ℕ
all_kept [] = 0
all_kept (t ∷ ts) = bytes_kept t + all_kept ts

pub text_end_keeps : (how : TextEnd) → bytes_kept (event.Text (text.Ended how)) ≤ 1
text_end_keeps text_end.Notes = omega arith
text_end_keeps _ = omega arith

pub kept_append : (ts us : List BodyEvent) → all_kept (ts ++ us) ≡ all_kept ts + all_kept us
kept_append [] us = omega arith
kept_append (t ∷ ts) us = let h : all_kept (ts ++ us) ≡ all_kept ts + all_kept us = kept_append ts us in omega arith

pub prefix_few : (n : ℕ) (bytes : List ℕ) → length (prefix_of n bytes) ≤ length bytes
prefix_few n bytes = grind (arith, length-take n bytes)

-- what is kept of these events, the nearest first
abbrev size_of : List BodyEvent → ℕ
size_of events = length (ended_parts_of events) + length (part_of events)

-- a part ends with its mark
mark_few : (ended part cut mark : List ℕ) → length cut ≤ length part → length mark ≡ 1 → length (ended ++ (cut ++ mark)) ≤ length ended + (length part + 1)
mark_few ended part cut mark h k = omega (arith, length-append ended (cut ++ mark), length-append cut mark)

sizes_few : (events : List BodyEvent) → size_of events ≤ all_kept events
sizes_few [] = omega arith
sizes_few (event.Text (text.Kept x) ∷ events) = omega (arith, sizes_few events, length-append (part_of events) (encode x.c))
sizes_few (event.Text (text.Ended text_end.Notes) ∷ events) =
    let a : length (ended_parts_of events ++ (part_of events ++ codes "(")) ≤ length (ended_parts_of events) + (length (part_of events) + 1) = mark_few (ended_parts_of events) (part_of events) (part_of events) (codes "(") (omega arith) refl in
    omega (arith, sizes_few events)
sizes_few (event.Notes line (note.Kept x) ∷ events) = omega (arith, sizes_few events, length-append (part_of events) (encode x.c))
sizes_few (event.Notes line (note.Ended note_end.Next n) ∷ events) =
    omega (arith, sizes_few events, mark_few (ended_parts_of events) (part_of events) (prefix_of n (part_of events)) (codes "|") (prefix_few n (part_of events)) refl)
sizes_few (event.Notes line (note.Ended note_end.Close n) ∷ events) =
    let a : length (ended_parts_of events ++ (prefix_of n (part_of events) ++ codes ")")) ≤ length (ended_parts_of events) + (length (part_of events) + 1) = mark_few (ended_parts_of events) (part_of events) (prefix_of n (part_of events)) (codes ")") (prefix_few n (part_of events)) refl in
    omega (arith, sizes_few events)
sizes_few (_ ∷ events) = let h : size_of events ≤ all_kept events = sizes_few events in omega arith

pub kept_few : (events : List BodyEvent) → length (kept_of events) ≤ all_kept events
kept_few events = omega (arith, length-append (ended_parts_of events) (part_of events), sizes_few events)

-- ---- since the last `)`

since_more : (t : BodyEvent) (before : List BodyEvent) → all_kept (since_close (t ∷ before)) ≤ bytes_kept t + all_kept (since_close before)
since_more t before = grind arith

pub since_on : (ts before : List BodyEvent) → all_kept (since_close (events_onto ts before)) ≤ all_kept (since_close before) + all_kept ts
since_on [] before = omega arith
since_on (t ∷ ts) before = omega (arith, since_on ts (t ∷ before), since_more t before)

-- at each of these events no more is kept than that, with what has been kept since the last `)`
abbrev pub StaysWithin : ℕ → List BodyEvent → Type 0
StaysWithin limit [] = Unit {0}
StaysWithin limit (t ∷ before) = (bytes_kept t + all_kept (since_close before) ≤ limit) × StaysWithin limit before

pub stays_on : (limit : ℕ) (ts before : List BodyEvent) → StaysWithin limit before → all_kept (since_close before) + all_kept ts ≤ limit → StaysWithin limit (events_onto ts before)
stays_on limit [] before h k = h
stays_on limit (t ∷ ts) before h k =
    let one : all_kept (since_close (t ∷ before)) ≤ bytes_kept t + all_kept (since_close before) = since_more t before in
    stays_on limit ts (t ∷ before) (omega arith, h) (omega arith)

pub stays_before : (limit : ℕ) (ts before : List BodyEvent) → StaysWithin limit (events_onto ts before) → StaysWithin limit before
stays_before limit [] before h = h
stays_before limit (t ∷ ts) before h = (stays_before limit ts (t ∷ before) h).1

-- ---- the kept texts

pub kept_within : (limit : ℕ) (before : List BodyEvent) → StaysWithin limit before → length (kept_of (since_close before)) ≤ limit
kept_within limit [] h = omega arith
kept_within limit (t ∷ before) h = omega (arith, kept_few (since_close (t ∷ before)), since_more t before, h.0)

pub all_pushed : {X : Type 0} (P : X → Type 0) (b : Bool) (xs : List X) (x : X) → All P xs → P x → All P (cond b (xs ++ x ∷ []) xs)
all_pushed P true xs x h one = All-push P xs x h one
all_pushed P false xs x h one = h

pub made_within : (limit : ℕ) (before : List BodyEvent) → StaysWithin limit before → All (λ (m : UnplacedSyllable). length m.kept ≤ limit) (all_syllables before)
made_within limit [] h = All-nil (λ (m : UnplacedSyllable). length m.kept ≤ limit)
made_within limit (t ∷ before) h =
    let one : length (kept_of (t ∷ since_close before)) ≤ limit = omega (arith, h.0, kept_few (t ∷ since_close before)) in
    all_pushed (λ (m : UnplacedSyllable). length m.kept ≤ limit) (closes t) (all_syllables before) _ (made_within limit before h.1) one
