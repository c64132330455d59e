-- What a body emits with its end keeps nothing and ends no syllable.
use Rattle.std.proofs.Common.{◌≡◌, ℕ, suc, ◌+◌, ◌<◌, ◌==◌, nat_lt, List, [], ◌∷◌, ◌++◌, map, length, drop, Bool, true, false, if◌then◌else◌, Option, None, refl, sym, ap, subst, arith, length-append, reverse, zero}
use Rattle.std.specs.List.{list_any}
use Rattle.gabc_places.specs.declared.place.Place.{Place}
use Rattle.gabc_places.specs.declared.place.Span.{Span}
use Rattle.gabc_places.specs.declared.place.Char.{Char}
use Rattle.gabc_places.specs.declared.code.Code.{Code}
use Rattle.gabc_places.specs.declared.code.Finding.{Finding}
use Rattle.gabc_places.specs.declared.limits.Limits.{Limits}
use Rattle.gabc_places.specs.StageLaw.{concat_of}
use Rattle.gabc_text.specs.declared.text_event.TextEnd.TheVariants as text_end
use Rattle.gabc_text.specs.declared.text_event.TextEvent.{TextEvent}
use Rattle.gabc_text.specs.declared.text_event.TextEvent.TheVariants as text
use Rattle.gabc_text.specs.declared.text_event.TextPart.{TextPart}
use Rattle.gabc_text.specs.declared.text_event.TextPart.TheVariants as part
use Rattle.gabc_text.specs.Ends.{EndsOnce}
use Rattle.gabc_text.specs.Token.{Token, tokens}
use Rattle.gabc_text.specs.View.{along}
use Rattle.gabc_text.specs.Events.{codes_of, events_by_point, lists_at, owed_events, end_events, end_after, after_tokens, no_events_each, finding_events, option_list_of}
use Rattle.gabc_notes.specs.declared.stage.NoteEnd.TheVariants as note_end
use Rattle.gabc_notes.specs.declared.stage.NoteEvent.{NoteEvent}
use Rattle.gabc_notes.specs.declared.stage.NoteEvent.TheVariants as note
use Rattle.gabc_notes.specs.Events as notes
use Rattle.gabc_nabc.specs.Events as nabc
use Rattle.gabc_body.specs.declared.events.BodyEvent.{BodyEvent}
use Rattle.gabc_body.specs.declared.events.BodyEvent.TheVariants as event
use Rattle.gabc_body.specs.Syllable.{since_close, kept_of, all_syllables}
use Rattle.gabc_body.specs.Body.{events_onto, events_to_stop, code_at}
use Rattle.gabc_body.specs.Events.{PartAhead, InComment, InText, InNotes, is_text_end, is_next, is_close, note_event, first_list, other_lists, events_at_end, texts_by_definition, text_from, snippet_from, next_line, after_mark, part_at, part_after_character, events_from, body_events}
use Rattle.gabc_body.specs.Stops.{events_in_points}
use Rattle.gabc_body.proofs.emitted.StopIsFirst.{stop_is_first}
use Rattle.gabc_body.proofs.emitted.OneListEachCharacter.{events_each}
use Rattle.gabc_body.proofs.texts_of_body.TextEmitsThroughEnd.{length_of_codes}

-- ---- events that keep nothing

-- the event keeps nothing, and ends no part but with the end of the input
abbrev IsQuiet : BodyEvent → Type 0
IsQuiet (event.Text (text.Kept x)) = ⊥
IsQuiet (event.Text (text.Ended text_end.Notes)) = ⊥
IsQuiet (event.Text _) = Unit {0}
IsQuiet (event.Notes line (note.Found f)) = Unit {0}
IsQuiet (event.Notes line (note.Ended (note_end.Cut place) n)) = Unit {0}
IsQuiet (event.Notes line _) = ⊥

abbrev AreQuiet : List BodyEvent → Type 0
AreQuiet [] = Unit {0}
AreQuiet (t ∷ ts) = IsQuiet t × AreQuiet ts

-- what a limit looks at
record Same (before after : List BodyEvent) : Type 0 where
  kept : kept_of (since_close after) ≡ kept_of (since_close before)
  made : all_syllables after ≡ all_syllables before

one_quiet : (t : BodyEvent) (before : List BodyEvent) → IsQuiet t → Same before (t ∷ before)
one_quiet t before h = grind arith

all_quiet : (now before : List BodyEvent) → AreQuiet now → Same before (events_onto now before)
all_quiet [] before h = record { kept = refl; made = refl }
all_quiet (t ∷ now) before h = grind (arith, all_quiet now (t ∷ before) h.1, one_quiet)

quiet_both : (ts us : List BodyEvent) → AreQuiet ts → AreQuiet us → AreQuiet (ts ++ us)
quiet_both [] us h k = k
quiet_both (t ∷ ts) us h k = (h.0, quiet_both ts us h.1 k)

-- ---- the end of a text

abbrev QuietText : List TextEvent → Type 0
QuietText emitted = AreQuiet (map (λ (o : TextEvent). event.Text o) emitted)

-- the list of the end is quiet, which stands after those of the characters
abbrev TextEndsQuietly : List (List TextEvent) → List Char → Type 0
TextEndsQuietly lists [] = QuietText (first_list lists)
TextEndsQuietly lists (x ∷ xs) = TextEndsQuietly (other_lists lists) xs

text_both : (xs ys : List TextEvent) → QuietText xs → QuietText ys → QuietText (xs ++ ys)
text_both [] ys h k = k
text_both (x ∷ xs) ys h k = (h.0, text_both xs ys h.1 k)

parts_quiet : (ps : List TextPart) → QuietText (map (λ (p : TextPart). text.Part p) ps)
parts_quiet [] = tt
parts_quiet (p ∷ ps) = (tt, parts_quiet ps)

centres_quiet : (o : Option Span) → QuietText (map (λ (s : Span). text.Part (part.Centre s)) (option_list_of o))
centres_quiet o = grind arith

found_quiet : (fs : List Finding) → QuietText (map text.Found fs)
found_quiet [] = tt
found_quiet (f ∷ fs) = (tt, found_quiet fs)

codes_quiet : (at : Place) (before : List Token) (cs : List Code) → QuietText (finding_events at before cs)
codes_quiet at before [] = tt
codes_quiet at before (c ∷ cs) = (tt, codes_quiet at before cs)

owed_quiet : (at : Place) (before : List Token) → QuietText (owed_events at before)
owed_quiet at before = grind (arith, text_both, parts_quiet, codes_quiet)

end_quiet : (at : Place) (before : List Token) → IsQuiet (event.Text (text.Ended (end_after at before [])))
end_quiet at before = grind arith

events_end_quiet : (at : Place) (before : List Token) → QuietText (end_events at before [])
events_end_quiet at before = grind (arith, text_both, found_quiet, centres_quiet, end_quiet)

nothing_quiet : (rest : List ℕ) (xs : List Char) → TextEndsQuietly (no_events_each rest) xs
nothing_quiet [] [] = tt
nothing_quiet (c ∷ rest) [] = tt
nothing_quiet [] (x ∷ xs) = nothing_quiet [] xs
nothing_quiet (c ∷ rest) (x ∷ xs) = nothing_quiet rest xs

lists_quiet : (lists : List (List TextEvent)) (last : List TextEvent) (rest : List ℕ) (xs : List Char) → length lists + length rest ≡ length xs → (rest ≡ [] → QuietText last)
    → TextEndsQuietly (lists ++ last ∷ no_events_each rest) xs
lists_quiet [] last [] [] e h = h refl
lists_quiet [] last (c ∷ rest) [] e h = absurd (omega (arith, e))
lists_quiet (l ∷ lists) last rest [] e h = absurd (omega (arith, e))
lists_quiet [] last rest (x ∷ xs) e h = nothing_quiet rest xs
lists_quiet (l ∷ lists) last rest (x ∷ xs) e h = lists_quiet lists last rest xs (omega (arith, e)) h

nothing_count : (rest : List ℕ) → length (no_events_each rest) ≡ length rest
nothing_count [] = refl
nothing_count (c ∷ rest) = ap (λ n. suc n) (nothing_count rest)

-- a text has a list for each character, and one for the end
lists_count : (at : Place) (t : List ℕ) → EndsOnce at t → length (events_by_point at t) ≡ length t + 1
lists_count at t e = grind (arith, length-append, nothing_count)

text_ends_quietly : (at : Place) (xs : List Char) → EndsOnce at (codes_of xs) → TextEndsQuietly (events_by_point at (codes_of xs)) xs
text_ends_quietly at xs e =
    let t = codes_of xs in
    let lists = along (lists_at at) [] (tokens t) in
    let before = reverse (tokens t) in
    let rest = after_tokens t in
    let last = owed_events at before ++ end_events at before rest in
    let all : length (events_by_point at t) ≡ length t + 1 = lists_count at t e in
    let parts : length (events_by_point at t) ≡ length lists + suc (length (no_events_each rest)) = length-append lists (last ∷ no_events_each rest) in
    let nothing : length (no_events_each rest) ≡ length rest = nothing_count rest in
    let codes : length t ≡ length xs = length_of_codes xs in
    let count : length lists + length rest ≡ length xs = omega arith in
    lists_quiet lists last rest xs count (λ n. text_both (owed_events at before) (end_events at before rest) (owed_quiet at before) (subst (λ r. QuietText (end_events at before r)) (sym n) (events_end_quiet at before)))

-- ---- the end of a snippet

module _ (line : ℕ) (opened : Place) where
  abbrev QuietNotes : List NoteEvent → Type 0
  QuietNotes emitted = AreQuiet (map (note_event line opened) emitted)

  abbrev NotesEndQuietly : List (List NoteEvent) → List Char → Type 0
  NotesEndQuietly lists [] = QuietNotes (first_list lists)
  NotesEndQuietly lists (x ∷ xs) = NotesEndQuietly (other_lists lists) xs

  notes_if : (b : Bool) (xs ys : List NoteEvent) → QuietNotes xs → QuietNotes ys → QuietNotes (if b then xs else ys)
  notes_if true xs ys h k = h
  notes_if false xs ys h k = k

  gabc_ends : (split : Bool) (macros : ℕ) (back xs : List Char) → NotesEndQuietly (notes.note_events_after split macros back xs) xs
  gabc_ends split macros back [] = notes_if (notes.is_over split back) [] _ tt (tt, tt)
  gabc_ends split macros back (x ∷ xs) = gabc_ends split macros (x ∷ back) xs

  nabc_ends : (t : List ℕ) (xs : List Char) → NotesEndQuietly (nabc.nabc_events_after t xs) xs
  nabc_ends t [] = notes_if (nabc.has_end t) [] _ tt (tt, tt)
  nabc_ends t (x ∷ xs) = nabc_ends (t ++ x.c ∷ []) xs

-- ---- the end of a body

abbrev EndsQuietly : PartAhead → List Char → Type 0
EndsQuietly InComment xs = Unit {0}
EndsQuietly (InText lists) xs = TextEndsQuietly lists xs
EndsQuietly (InNotes line opened lists) xs = NotesEndQuietly line opened lists xs

end_emitted_quiet : (part : PartAhead) → EndsQuietly part [] → AreQuiet (events_at_end part)
end_emitted_quiet InComment h = (tt, tt)
end_emitted_quiet (InText lists) h = h
end_emitted_quiet (InNotes line opened lists) h = h

module _ (ends : (at : Place) (t : List ℕ) → EndsOnce at t) (lines macros : ℕ) where
  text_here : (at : Place) (xs : List Char) → EndsQuietly (text_from texts_by_definition at xs) xs
  text_here at xs = text_ends_quietly at xs (ends at (codes_of xs))

  snippet_here : (line : ℕ) (opened : Place) (xs : List Char) → EndsQuietly (snippet_from lines macros line opened xs) xs
  unfolding notes.note_events
  snippet_here line opened xs = grind (arith, gabc_ends, nabc_ends)

  standing_ends : (part : PartAhead) (x : Char) (xs : List Char) → EndsQuietly part (x ∷ xs) → EndsQuietly (part_at texts_by_definition part x xs) (x ∷ xs)
  standing_ends InComment x xs h = by (x.c == 10)
    where
      by : (b : Bool) → EndsQuietly (if b then text_from texts_by_definition x.place (x ∷ xs) else InComment) (x ∷ xs)
      by true = text_here x.place (x ∷ xs)
      by false = tt
  standing_ends (InText lists) x xs h = h
  standing_ends (InNotes line opened lists) x xs h = h

  after_ends : (part : PartAhead) (x : Char) (xs : List Char) → EndsQuietly part (x ∷ xs) → EndsQuietly (part_after_character texts_by_definition lines macros part x xs) xs
  after_ends InComment x xs h = tt
  after_ends (InText lists) x xs h = by (list_any is_text_end (first_list lists))
    where
      by : (b : Bool) → EndsQuietly (if b then snippet_from lines macros 0 x.place xs else InText (other_lists lists)) xs
      by true = snippet_here 0 x.place xs
      by false = h
  after_ends (InNotes line opened lists) x xs h = by (list_any is_next (first_list lists)) (list_any is_close (first_list lists))
    where
      by : (b d : Bool) → EndsQuietly (if b then snippet_from lines macros (next_line lines line) opened xs else if d then text_from texts_by_definition (after_mark x.place) xs else InNotes line opened (other_lists lists)) xs
      by true d = snippet_here (next_line lines line) opened xs
      by false true = text_here (after_mark x.place) xs
      by false false = h

  -- the list of the end
  events_ends : (part : PartAhead) (xs : List Char) → EndsQuietly part xs → AreQuiet (concat_of (drop (length xs) (events_from texts_by_definition lines macros part xs)))
  events_ends part [] h = quiet_both (events_at_end part) [] (end_emitted_quiet part h) tt
  events_ends part (x ∷ xs) h =
      let now = part_at texts_by_definition part x xs in
      events_ends (part_after_character texts_by_definition lines macros now x xs) xs (after_ends now x xs (standing_ends part x xs h))

  module _ (limits : Limits) (head : ℕ) where
    pub none_before : (n : ℕ) (lists : List (List BodyEvent)) → ((k : ℕ) → k < n → code_at limits head (events_in_points [] lists (suc k)) ≡ None) → code_at limits head (events_in_points [] lists n) ≡ None
    none_before zero lists h = let none : nat_lt limits.syllable 0 ≡ false = grind arith in rw none refl
    none_before (suc n) lists h = h n (omega arith)

    -- no limit is passed by what is emitted with the end
    pub none_at_end : (xs : List Char) → (let r = events_to_stop limits head [] xs (body_events lines macros xs) in r.fault ≡ None → code_at limits head (events_onto r.last r.before) ≡ None)
    none_at_end xs e = grind (arith, stop_is_first, events_each, all_quiet, events_ends, none_before)
