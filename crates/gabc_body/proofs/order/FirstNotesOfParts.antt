-- A note before any clef is found at the mark that ends a snippet, and nowhere within a part.
use Rattle.std.proofs.Common.{◌≡◌, ℕ, List, [], ◌∷◌, ◌++◌, map, Bool, true, false, if◌then◌else◌, Option, Some, None, refl, sym, ap, subst, ◌∙◌, append_assoc, append-nil, arith}
use Rattle.std.specs.List.{All, list_any}
use Rattle.std.proofs.lemmas.List.Elements.{All-nil, All-cons, All-append}
use Rattle.gabc_places.specs.StageLaw.{concat_of}
use Rattle.gabc_places.specs.declared.code.Code.TheVariants.{W12}
use Rattle.gabc_places.specs.declared.code.Finding.{Finding}
use Rattle.gabc_places.specs.declared.place.Char.{Char}
use Rattle.gabc_places.specs.declared.place.Place.{Place}
use Rattle.gabc_text.specs.declared.text_event.TextEvent.{TextEvent}
use Rattle.gabc_notes.specs.declared.item.ItemKind.{ItemKind}
use Rattle.gabc_notes.specs.declared.stage.NoteEnd.TheVariants as note_end
use Rattle.gabc_notes.specs.declared.stage.NoteEvent.{NoteEvent}
use Rattle.gabc_notes.specs.declared.stage.NoteEvent.TheVariants as note
use Rattle.gabc_body.specs.Body.{events_onto}
use Rattle.gabc_body.specs.Events.{PartAhead, InComment, InText, InNotes, is_next, is_close, first_list, note_event, events_in, next_line}
use Rattle.gabc_body.specs.NoteBeforeClef.{gabc_ended, first_of, is_first_note, found_first, with_first, with_first_each}
use Rattle.gabc_body.specs.Units.{Mark, Next, Closes, part_onward, events_through, mark_in, Endless, EndsAfter}
use Rattle.gabc_body.specs.declared.events.BodyEvent.{BodyEvent}
use Rattle.gabc_body.specs.declared.events.BodyEvent.TheVariants as event
use Rattle.gabc_body.proofs.order.FindingsOfParts.{found, found_append}
use Rattle.gabc_body.proofs.order.FindingsOneAfterAnother.{all_first, all_rest}
use Rattle.std.proofs.lemmas.Bool.{cond_both}

-- ---- what is found where the first of the two comes

found_events : (fs : List Finding) → found (map (λ (f : Finding). event.Notes 0 (note.Found f)) fs) ≡ fs
found_events [] = refl
found_events (f ∷ fs) = ap (λ (gs : List Finding). f ∷ gs) (found_events fs)

no_first : (was : Option ItemKind) (place : Place) → found_first was was place ≡ []
no_first was place = grind arith

-- what is found at a character: what the body finds there, and a note before any clef
found_here : (before : List BodyEvent) (x : Char) (now : List BodyEvent)
    → found (with_first before x now) ≡ found now ++ found_first (first_of before) (first_of (events_onto now before)) x.place
found_here before x now = found_append now _ ∙ ap (λ (fs : List Finding). found now ++ fs) (found_events (found_first (first_of before) (first_of (events_onto now before)) x.place))

-- ---- where no snippet ends

texts_end_none : (os : List TextEvent) (before : List BodyEvent) → gabc_ended (events_onto (map (λ (o : TextEvent). event.Text o) os) before) ≡ gabc_ended before
texts_end_none [] before = refl
texts_end_none (o ∷ os) before = texts_end_none os (event.Text o ∷ before)

notes_end_none : (line : ℕ) (opened : Place) (os : List NoteEvent) (before : List BodyEvent) → list_any is_next os ≡ false → list_any is_close os ≡ false
    → gabc_ended (events_onto (map (note_event line opened) os) before) ≡ gabc_ended before
notes_end_none line opened [] before h k = refl
notes_end_none line opened (note.Ended note_end.Next n ∷ os) before h k = absurd (cc)
notes_end_none line opened (note.Ended note_end.Close n ∷ os) before h k = absurd (cc)
notes_end_none line opened (o ∷ os) before h k = notes_end_none line opened os (note_event line opened o ∷ before) h k

module _ (lines : ℕ) where
  ends_none : (part : PartAhead) (before : List BodyEvent) → mark_in lines part ≡ None → gabc_ended (events_onto (events_in part) before) ≡ gabc_ended before
  ends_none InComment before h = refl
  ends_none (InText lists) before h = texts_end_none (first_list lists) before
  ends_none (InNotes line opened lists) before h = by (list_any is_next (first_list lists)) (list_any is_close (first_list lists)) refl refl h
    where
      by : (a b : Bool) → list_any is_next (first_list lists) ≡ a → list_any is_close (first_list lists) ≡ b
          → (let mark : Option Mark = if a then Some (Next (next_line lines line) opened) else if b then Some Closes else None in mark) ≡ None
          → gabc_ended (events_onto (map (note_event line opened) (first_list lists)) before) ≡ gabc_ended before
      by false false e f g = notes_end_none line opened (first_list lists) before e f
      by true b e f g = absurd (cc)
      by false true e f g = absurd (cc)

  -- at such a character nothing is found beside what the body finds
  within_part : (part : PartAhead) (before : List BodyEvent) (x : Char) → mark_in lines part ≡ None → found (with_first before x (events_in part)) ≡ found (events_in part)
  within_part part before x h = grind (arith, found_here, ends_none, no_first, append-nil)

  -- what a part finds through its end, with what the score finds at the mark, and what is found after it
  pub through_end : (part : PartAhead) (xs : List Char) (x : Char) (ys : List Char) (mark : Mark) (before : List BodyEvent) (later : List (List BodyEvent)) → EndsAfter lines part xs mark
      → (was : Option ItemKind) × (now : Option ItemKind) × (after : List BodyEvent)
      × (found (concat_of (with_first_each before (xs ++ x ∷ ys) (events_through part xs ++ later)))
      ≡ (found (concat_of (events_through part xs)) ++ found_first was now x.place) ++ found (concat_of (with_first_each after ys later)))
  through_end part [] x ys mark before later h =
      let now = events_in part in
      let after = events_onto (with_first before x now) before in (
        first_of before,
        first_of (events_onto now before),
        after,
        found_append (with_first before x now) (concat_of (with_first_each after ys later))
            ∙ ap (λ (fs : List Finding). fs ++ found (concat_of (with_first_each after ys later)))
            (found_here before x now ∙ ap (λ (ts : List BodyEvent). found ts ++ found_first (first_of before) (first_of (events_onto now before)) x.place) (sym (append-nil now))),
      )
  through_end part (z ∷ xs) x ys mark before later h =
      let now = events_in part in
      let next = events_onto (with_first before z now) before in
      let r = through_end (part_onward part) xs x ys mark next later h.1 in (
        r.0,
        r.1,
        r.2,
        rw (found_append (with_first before z now) (concat_of (with_first_each next (xs ++ x ∷ ys) (events_through (part_onward part) xs ++ later))), within_part part before z h.0, r.3)
            (simp (found_append now (concat_of (events_through (part_onward part) xs)), append_assoc)),
      )

  -- the last part has no mark
  pub to_the_end : (part : PartAhead) (xs : List Char) (before : List BodyEvent) → Endless lines part xs
      → found (concat_of (with_first_each before xs (events_through part xs))) ≡ found (concat_of (events_through part xs))
  to_the_end part [] before h = refl
  to_the_end part (x ∷ xs) before h =
      let now = events_in part in
      let next = events_onto (with_first before x now) before in
      rw (found_append (with_first before x now) (concat_of (with_first_each next xs (events_through (part_onward part) xs))), within_part part before x h.0, to_the_end (part_onward part) xs next h.1)
      (sym (found_append now (concat_of (events_through (part_onward part) xs))))

-- ---- the comment

pub past_comment : (comment : List Char) (lists : List (List BodyEvent)) → found (concat_of (map (λ (x : Char). []) comment ++ lists)) ≡ found (concat_of lists)
past_comment [] lists = refl
past_comment (x ∷ comment) lists = past_comment comment lists

pub after_comment : (comment ys : List Char) (before : List BodyEvent) (lists : List (List BodyEvent))
    → found (concat_of (with_first_each before (comment ++ ys) (map (λ (x : Char). []) comment ++ lists))) ≡ found (concat_of (with_first_each before ys lists))
after_comment [] ys before lists = refl
after_comment (x ∷ comment) ys before lists = grind (arith, after_comment comment ys before lists, no_first)

-- ---- all that is found

if_first : (P : Finding → Type 0) → ((p : Place) → P (record { place = p; code = W12 })) → (was now : Option ItemKind) (place : Place) → All P (found_first was now place)
if_first P w was now place = cond_both (is_first_note was now) _ [] (All P) (λ e. All-cons P _ [] (w place) (All-nil P)) (λ e. All-nil P)

-- what holds of all that a body finds, and of a note before any clef, holds of all that the score finds
pub all_with_first : (P : Finding → Type 0) → ((p : Place) → P (record { place = p; code = W12 })) → (before : List BodyEvent) (xs : List Char) (lists : List (List BodyEvent))
    → All P (found (concat_of lists)) → All P (found (concat_of (with_first_each before xs lists)))
all_with_first P w before [] lists h = h
all_with_first P w before (x ∷ xs) [] h = h
all_with_first P w before (x ∷ xs) (now ∷ lists) h =
    let next = events_onto (with_first before x now) before in
    let k = subst (All P) (found_append now (concat_of lists)) h in
    rw (found_append (with_first before x now) (concat_of (with_first_each next xs lists)), found_here before x now)
    (All-append P _ _ (All-append P (found now) _ (all_first P (found now) (found (concat_of lists)) k) (if_first P w (first_of before) (first_of (events_onto now before)) x.place))
    (all_with_first P w next xs lists (all_rest P (found now) (found (concat_of lists)) k)))
