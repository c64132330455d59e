-- What a body emits is so by what is kept of each snippet.
use Rattle.std.proofs.Common.{◌≡◌, ℕ, nat_lt, List, [], ◌∷◌, ◌++◌, Bool, true, false, cond, not, ◌&&◌, ◌==◌, refl, sym, ap, ◌∙◌, Option, Some, None}
use Rattle.std.specs.Prelude.{map}
use Rattle.std.specs.List.{list_any}
use Rattle.gabc_places.specs.declared.code.Code.{Code}
use Rattle.gabc_places.specs.declared.place.Place.{Place}
use Rattle.gabc_places.specs.declared.place.Char.{Char}
use Rattle.gabc_places.specs.StageLaw.{silence}
use Rattle.gabc_notes.specs.declared.stage.NoteEvent.{NoteEvent}
use Rattle.gabc_notes.specs.declared.stage.NoteEvent.TheVariants as note_out
use Rattle.gabc_notes.specs.Events.{end_by_mark, note_events, bytes_of}
use Rattle.gabc_notes.specs.Table.{gabc}
use Rattle.gabc_nabc.specs.Events.{nabc_events, bytes_in}
use Rattle.gabc_nabc.specs.Table.{nabc as nabc_table}
use Rattle.gabc_patterns.specs.Reads.{whole_front}
use Rattle.gabc_body.specs.declared.events.BodyEvent.{BodyEvent}
use Rattle.gabc_body.specs.Events.{PartAhead, is_text_end, is_next, is_close, note_event, first_list, other_lists, Texts, text_from, snippet_from, next_line, after_mark, events_in, part_after_character, events_from, body_events, texts_by_definition}
use Rattle.gabc_body.specs.Events as emitting
use Rattle.gabc_places.specs.Fate.{Fate, Keep, Comment, Ends, LeaveOut}
use Rattle.gabc_notes.specs.KeptNotes.{fate_in_notes, found_in_notes, found_at_end as notes_at_end}
use Rattle.gabc_nabc.specs.KeptNabc.{fate_in_nabc, found_in_nabc, found_at_end as nabc_at_end}
use Rattle.gabc_notes.specs.witness.NotesByKept as notes
use Rattle.gabc_nabc.specs.witness.NabcByKept as nabc
use Rattle.gabc_body.specs.witness.PartsByKept.{SnippetState, fresh, notes_step, nabc_step, step, lists_of, PartRead, InComment, InText, InNotes, ahead, past_notes, part_at, emitted, part_after, events_by}
use Rattle.gabc_nabc.proofs.by_kept.NabcFates.{all_events_are}
use Rattle.gabc_notes.proofs.by_kept.NotesFound.{notes_are}

-- ---- a snippet's lists, one at a time

abbrev tail : ℕ → ℕ → ℕ → Option SnippetState → List Char → List (List NoteEvent)
tail lines macros line None xs = silence xs
tail lines macros line (Some s) xs = lists_of lines macros line s xs

abbrev choose : Bool → Bool → List NoteEvent → SnippetState → SnippetState → List NoteEvent × Option SnippetState
choose c e l p q = cond c ([], Some p) (l, cond e None (Some q))

lists_step : (lines macros line : ℕ) (s : SnippetState) (x : Char) (xs : List Char) → lists_of lines macros line s (x ∷ xs) ≡ (step lines macros line s x).0 ∷ tail lines macros line (step lines macros line s x).1 xs
lists_step lines macros line s x xs = by (line == 0) refl
  where
    joined : List NoteEvent × Option SnippetState → List (List NoteEvent)
    joined r = r.0 ∷ tail lines macros line r.1 xs

    notes_by : (c e : Bool) (fate : Fate) → line == 0 ≡ true
        → cond c ([] ∷ notes.events_past (nat_lt 0 lines) macros s.kept s.inner true xs) (notes.emitted_by macros fate s.kept s.inner x ∷ cond e (silence xs) (notes.events_past (nat_lt 0 lines) macros (notes.kept_by fate s.kept x.c) (notes.inner_by fate s.kept s.inner x.place) (notes.opens fate) xs))
        ≡ joined (choose c e (notes.emitted_by macros fate s.kept s.inner x) (record { kept = s.kept; inner = s.inner; comment = true }) (record { kept = notes.kept_by fate s.kept x.c; inner = notes.inner_by fate s.kept s.inner x.place; comment = notes.opens fate }))
    notes_by true e fate z = rw z refl
    notes_by false true fate z = refl
    notes_by false false fate z = rw z refl

    nabc_by : (c e : Bool) (fate : Fate) → line == 0 ≡ false → s.comment ≡ c → e ≡ notes.ends fate → fate ≡ fate_in_nabc s.kept x.c
        → nabc.events_past s.kept c (x ∷ xs)
        ≡ joined (choose c e (nabc.emitted_by fate s.kept x) (record { kept = s.kept; inner = s.inner; comment = not (x.c == 10) }) (record { kept = notes.kept_by fate s.kept x.c; inner = s.inner; comment = notes.opens fate }))
    nabc_by true e fate z f g h = rw z refl
    nabc_by false true fate z f g h = rw (sym h, sym g) refl
    nabc_by false false fate z f g h = rw (sym h, sym g, z) refl

    by : (b : Bool) → line == 0 ≡ b → cond b (notes.events_past (nat_lt 0 lines) macros s.kept s.inner s.comment (x ∷ xs)) (nabc.events_past s.kept s.comment (x ∷ xs))
        ≡ joined (cond b (notes_step (nat_lt 0 lines) macros s x) (nabc_step s x))
    by true z = notes_by (s.comment && not (x.c == 10)) (notes.ends (fate_in_notes (nat_lt 0 lines) s.kept x.c)) (fate_in_notes (nat_lt 0 lines) s.kept x.c) z
    by false z = nabc_by s.comment (notes.ends (fate_in_nabc s.kept x.c)) (fate_in_nabc s.kept x.c) z refl refl refl

-- ---- where a snippet ends

abbrev gone : Option SnippetState → Bool
gone None = true
gone (Some s) = false

pub record EndsAt (x : Char) (events : List NoteEvent) (ended : Bool) : Type 0 where
  pub next : list_any is_next events ≡ (ended && (x.c == 124))
  pub close : list_any is_close events ≡ (ended && not (x.c == 124))

notes_found : (cs : List Code) (inner here : Place) (l : List NoteEvent) → (list_any is_next (notes.all_found cs inner here ++ l) ≡ list_any is_next l) × (list_any is_close (notes.all_found cs inner here ++ l) ≡ list_any is_close l)
notes_found [] inner here l = (refl, refl)
notes_found (c ∷ cs) inner here l = notes_found cs inner here l

mark_ends : (x : Char) (n : ℕ) → EndsAt x (note_out.Ended (end_by_mark x.c) n ∷ []) true
mark_ends x n = go (x.c == 124) refl
  where
    go : (b : Bool) → x.c == 124 ≡ b → EndsAt x (note_out.Ended (end_by_mark x.c) n ∷ []) true
    go true e = record { next = rw e refl; close = rw e refl }
    go false e = record { next = rw e refl; close = rw e refl }

then_ends : (x : Char) (events l : List NoteEvent) (b : Bool) → (list_any is_next events ≡ list_any is_next l) × (list_any is_close events ≡ list_any is_close l) → EndsAt x l b → EndsAt x events b
then_ends x events l b h e = record { next = h.0 ∙ e.next; close = h.1 ∙ e.close }

notes_quiet : (cs : List Code) (inner here : Place) → (list_any is_next (notes.all_found cs inner here) ≡ false) × (list_any is_close (notes.all_found cs inner here) ≡ false)
notes_quiet [] inner here = (refl, refl)
notes_quiet (c ∷ cs) inner here = notes_quiet cs inner here

notes_end : (macros : ℕ) (fate : Fate) (k : List ℕ) (inner : Place) (x : Char) → EndsAt x (notes.emitted_by macros fate k inner x) (notes.ends fate)
notes_end macros Keep k inner x = let h = notes_quiet (found_in_notes macros (k ++ x.c ∷ [])) inner x.place in record { next = h.0; close = h.1 }
notes_end macros Comment k inner x = record { next = refl; close = refl }
notes_end macros Ends k inner x =
    then_ends x (notes.emitted_by macros Ends k inner x) (note_out.Ended (end_by_mark x.c) (bytes_of (whole_front gabc k)) ∷ []) true
    (notes_found (notes_at_end k) inner x.place (note_out.Ended (end_by_mark x.c) (bytes_of (whole_front gabc k)) ∷ [])) (mark_ends x (bytes_of (whole_front gabc k)))
notes_end macros (LeaveOut None) k inner x = record { next = refl; close = refl }
notes_end macros (LeaveOut (Some code)) k inner x = record { next = refl; close = refl }

nabc_end : (fate : Fate) (k : List ℕ) (x : Char) → EndsAt x (nabc.emitted_by fate k x) (notes.ends fate)
nabc_end Keep k x = let h = notes_quiet (found_in_nabc k x.c) x.place x.place in record { next = h.0; close = h.1 }
nabc_end Comment k x = record { next = refl; close = refl }
nabc_end Ends k x =
    then_ends x (nabc.emitted_by Ends k x) (note_out.Ended (end_by_mark x.c) (bytes_in (whole_front nabc_table k)) ∷ []) true
    (notes_found (nabc_at_end k) x.place x.place (note_out.Ended (end_by_mark x.c) (bytes_in (whole_front nabc_table k)) ∷ [])) (mark_ends x (bytes_in (whole_front nabc_table k)))
nabc_end (LeaveOut None) k x = record { next = refl; close = refl }
nabc_end (LeaveOut (Some code)) k x = record { next = refl; close = refl }

step_ends : (lines macros line : ℕ) (s : SnippetState) (x : Char) → EndsAt x (step lines macros line s x).0 (gone (step lines macros line s x).1)
step_ends lines macros line s x = by (line == 0)
  where
    pick : (c e : Bool) (l : List NoteEvent) (p q : SnippetState) → EndsAt x l e → EndsAt x (choose c e l p q).0 (gone (choose c e l p q).1)
    pick true e l p q h = record { next = refl; close = refl }
    pick false true l p q h = h
    pick false false l p q h = h

    by : (b : Bool) → EndsAt x (cond b (notes_step (nat_lt 0 lines) macros s x) (nabc_step s x)).0 (gone (cond b (notes_step (nat_lt 0 lines) macros s x) (nabc_step s x)).1)
    by true = let fate = fate_in_notes (nat_lt 0 lines) s.kept x.c in pick (s.comment && not (x.c == 10)) (notes.ends fate) (notes.emitted_by macros fate s.kept s.inner x) (record { kept = s.kept; inner = s.inner; comment = true }) (record { kept = notes.kept_by fate s.kept x.c; inner = notes.inner_by fate s.kept s.inner x.place; comment = notes.opens fate }) (notes_end macros (fate_in_notes (nat_lt 0 lines) s.kept x.c) s.kept s.inner x)
    by false = let fate = fate_in_nabc s.kept x.c in pick s.comment (notes.ends fate) (nabc.emitted_by fate s.kept x) (record { kept = s.kept; inner = s.inner; comment = not (x.c == 10) }) (record { kept = notes.kept_by fate s.kept x.c; inner = s.inner; comment = notes.opens fate }) (nabc_end (fate_in_nabc s.kept x.c) s.kept x)

-- ---- the body

module _ (texts : Texts) (lines macros : ℕ) where
  snippet_is : (line : ℕ) (opened : Place) (xs : List Char) → snippet_from lines macros line opened xs ≡ ahead lines macros (InNotes line opened fresh) xs
  snippet_is line opened xs = ap (emitting.InNotes line opened) (by (line == 0))
    where
      by : (b : Bool) → cond b (note_events (nat_lt 0 lines) macros xs) (nabc_events xs) ≡ cond b (notes.events_past (nat_lt 0 lines) macros [] (record { line = 0; column = 0 }) false xs) (nabc.events_past [] false xs)
      by true = notes_are (nat_lt 0 lines) macros xs
      by false = all_events_are xs

  part_is : (part : PartRead) (x : Char) (xs : List Char) → part_after_character texts lines macros (ahead lines macros part (x ∷ xs)) x xs ≡ ahead lines macros (part_after texts lines macros part x xs) xs
  part_is InComment x xs = refl
  part_is (InText lists) x xs = by (list_any is_text_end (first_list lists))
    where
      by : (b : Bool) → cond b (snippet_from lines macros 0 x.place xs) (emitting.InText (other_lists lists)) ≡ ahead lines macros (cond b (InNotes 0 x.place fresh) (InText (other_lists lists))) xs
      by true = snippet_is 0 x.place xs
      by false = refl
  part_is (InNotes line opened s) x xs =
      ap (λ (l : List (List NoteEvent)). part_after_character texts lines macros (emitting.InNotes line opened l) x xs) (lists_step lines macros line s x xs)
      ∙ by (step lines macros line s x).0 (step lines macros line s x).1 (step_ends lines macros line s x)
    where
      mark : (b : Bool) → cond b (snippet_from lines macros (next_line lines line) opened xs) (text_from texts (after_mark x.place) xs) ≡ ahead lines macros (cond b (InNotes (next_line lines line) opened fresh) (InText (texts (after_mark x.place) xs))) xs
      mark true = snippet_is (next_line lines line) opened xs
      mark false = refl

      either : (b : Bool) (p q r : PartAhead) → cond b p (cond (not b) q r) ≡ cond b p q
      either true p q r = refl
      either false p q r = refl

      by : (events : List NoteEvent) (o : Option SnippetState) → EndsAt x events (gone o)
          → cond (list_any is_next events) (snippet_from lines macros (next_line lines line) opened xs) (cond (list_any is_close events) (text_from texts (after_mark x.place) xs) (emitting.InNotes line opened (tail lines macros line o xs)))
          ≡ ahead lines macros (past_notes texts lines line opened x xs o) xs
      by events (Some z) e = rw (e.next, e.close) refl
      by events None e = rw (e.next, e.close) (either (x.c == 124) (snippet_from lines macros (next_line lines line) opened xs) (text_from texts (after_mark x.place) xs) (emitting.InNotes line opened (silence xs)) ∙ mark (x.c == 124))

  at_is : (part : PartRead) (x : Char) (xs : List Char) → emitting.part_at texts (ahead lines macros part (x ∷ xs)) x xs ≡ ahead lines macros (part_at texts part x xs) (x ∷ xs)
  at_is InComment x xs = by (x.c == 10)
    where
      by : (b : Bool) → cond b (text_from texts x.place (x ∷ xs)) emitting.InComment ≡ ahead lines macros (cond b (InText (texts x.place (x ∷ xs))) InComment) (x ∷ xs)
      by true = refl
      by false = refl
  at_is (InText lists) x xs = refl
  at_is (InNotes line opened s) x xs = refl

  emitted_is : (part : PartRead) (x : Char) (xs : List Char) → events_in (ahead lines macros part (x ∷ xs)) ≡ emitted lines macros part x
  emitted_is InComment x xs = refl
  emitted_is (InText lists) x xs = refl
  emitted_is (InNotes line opened s) x xs = ap (λ (l : List (List NoteEvent)). map (note_event line opened) (first_list l)) (lists_step lines macros line s x xs)

  pub body_is : (xs : List Char) (part : PartRead) → events_from texts lines macros (ahead lines macros part xs) xs ≡ events_by texts lines macros part xs
  body_is [] part = refl
  body_is (x ∷ xs) part =
      let here : PartRead = part_at texts part x xs in
      ap (λ (p : PartAhead). events_in p ∷ events_from texts lines macros (part_after_character texts lines macros p x xs) xs) (at_is part x xs)
      ∙ (ap (λ (e : List BodyEvent). e ∷ events_from texts lines macros (part_after_character texts lines macros (ahead lines macros (part_at texts part x xs) (x ∷ xs)) x xs) xs) (emitted_is (part_at texts part x xs) x xs)
      ∙ (ap (λ (p : PartAhead). emitted lines macros (part_at texts part x xs) x ∷ events_from texts lines macros p xs) (part_is (part_at texts part x xs) x xs)
      ∙ ap (λ (l : List (List BodyEvent)). emitted lines macros (part_at texts part x xs) x ∷ l) (body_is xs (part_after texts lines macros (part_at texts part x xs) x xs))))

pub body_by_kept : (lines macros : ℕ) (xs : List Char) → body_events lines macros xs ≡ events_by texts_by_definition lines macros InComment xs
body_by_kept lines macros xs = body_is texts_by_definition lines macros xs InComment
