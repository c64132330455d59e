-- Regular texts and snippets end at their marks, and nothing is found in them.
use Rattle.std.proofs.Common.{◌≡◌, ◌⊎◌, inl, inr, ℕ, zero, suc, nat_lt, Bool, true, if◌then◌else◌, List, [], ◌∷◌, ◌++◌, length, take, drop, Option, Some, None, refl, sym, ap, ◌∙◌, arith, length-append, take-append-drop}
use Rattle.std.specs.List.{list_any}
use Rattle.gabc_text.proofs.order.FindingsLieWithin.{found_more}
use Rattle.gabc_places.specs.StageLaw.{concat_of}
use Rattle.gabc_places.specs.declared.place.Place.{Place}
use Rattle.gabc_places.specs.declared.place.Char.{Char}
use Rattle.gabc_places.specs.Place.{placed_characters_from}
use Rattle.gabc_places.proofs.PlacesOfAText.{placed_append}
use Rattle.gabc_places.proofs.PushesAreOne.{joined-append}
use Rattle.gabc_places.proofs.NothingAfterAnEnd.{both_empty}
use Rattle.gabc_places.proofs.NumbersByTests.{suc_eqb}
use Rattle.gabc_text.specs.declared.text_event.TextEnd.TheVariants as text_end
use Rattle.gabc_text.specs.declared.text_event.TextEvent.{TextEvent}
use Rattle.gabc_text.specs.declared.text_event.TextEvent.TheVariants as text
use Rattle.gabc_text.specs.BuiltText.{found_in}
use Rattle.gabc_text.specs.Ends.{ends_in, EndsOnce}
use Rattle.gabc_text.specs.Events.{codes_of, after_tokens, no_events_each}
use Rattle.gabc_notes.specs.declared.stage.NoteEnd.{NoteEnd}
use Rattle.gabc_notes.specs.declared.stage.NoteEnd.TheVariants as note_end
use Rattle.gabc_notes.specs.declared.stage.NoteEvent.{NoteEvent}
use Rattle.gabc_notes.specs.declared.stage.NoteEvent.TheVariants as note
use Rattle.gabc_notes.specs.Ends.{IsMarkOf}
use Rattle.gabc_notes.specs.Events.{note_events}
use Rattle.gabc_notes.specs.Regular.{each_kept}
use Rattle.gabc_notes.specs.SnippetRead.{findings_of as notes_found}
use Rattle.gabc_nabc.specs.Events.{nabc_events}
use Rattle.gabc_body.specs.Events.{InText, InNotes, is_next, is_close, next_line, texts_by_definition, text_from, snippet_from}
use Rattle.gabc_body.specs.FoundInParts.{snippet_events}
use Rattle.gabc_score.specs.RegularSyllable.{IsRegularOn, ended_at}
use Rattle.gabc_body.specs.Units.{Mark, Opens, Next, Closes, events_through, EndsAfter}
use Rattle.gabc_body.proofs.order.FindingsOfParts.{found, text_through, snippet_through}
use Rattle.gabc_body.proofs.stopped_scores.PrefixHasTheSameUnits.{all_agree}
use Rattle.gabc_body.proofs.texts_of_body.TextEmitsThroughEnd.{any_after, none_ends, ends_apart, length_of_codes, codes_append}

-- ---- texts

length_back : (a b c d : List ℕ) → a ++ b ≡ c ++ d → b ≡ d → length a ≡ length c
length_back a b c d e f = omega (arith, ap (length {A = ℕ}) e, length-append a b, length-append c d, ap (length {A = ℕ}) f)

module _ (lines : ℕ) where
  abbrev opens_by : Bool → Option Mark
  opens_by b = if b then Some Opens else None

  ends_there : (before : List (List TextEvent)) (last : List TextEvent) (rest : List ℕ) (prefix : List Char) → length before ≡ length prefix → ends_in (concat_of before) ≡ [] → ends_in last ≡ []
      → EndsAfter lines (InText (before ++ (last ++ text.Ended text_end.Notes ∷ []) ∷ no_events_each rest)) prefix Opens
  ends_there [] last rest [] k n l = ap opens_by (any_after last (text.Ended text_end.Notes ∷ []) l)
  ends_there [] last rest (x ∷ prefix) k n l = absurd (omega (arith, k))
  ends_there (b ∷ before) last rest [] k n l = absurd (omega (arith, k))
  ends_there (b ∷ before) last rest (x ∷ prefix) k n l =
      let parts = ends_apart b (concat_of before) n in
      (ap opens_by (none_ends b parts.0), ends_there before last rest prefix (omega (arith, k)) parts.1 l)

  -- a text ends at the `(` that its tokens leave
  pub text_ends : (at : Place) (prefix : List Char) (end : Char) (rest : List Char) → (let xs = prefix ++ end ∷ rest in
      EndsOnce at (codes_of xs) → after_tokens (codes_of xs) ≡ codes_of (end ∷ rest) → EndsAfter lines (text_from texts_by_definition at xs) prefix Opens)
  text_ends at prefix end rest e h = grind (arith, length_back, codes_append, length_of_codes, ends_there)

-- what is found in a text through some of its characters, if nothing is found in all
pub text_none : (lists : List (List TextEvent)) (xs : List Char) → found_in (concat_of lists) ≡ [] → found (concat_of (events_through (InText lists) xs)) ≡ []
text_none lists xs h =
    let n = suc (length xs) in
    text_through lists xs
    ∙ (both_empty (found_in (concat_of (take n lists))) (found_in (concat_of (drop n lists)))
    (sym (ap found_in (ap concat_of (sym (take-append-drop n lists)) ∙ joined-append (take n lists) (drop n lists)) ∙ found_more (concat_of (take n lists)) (concat_of (drop n lists))) ∙ h)).0

-- ---- snippets

-- how a snippet ends: at a `|` before that of the next line, or at the `)`
abbrev pub mark_by : ℕ → ℕ → Place → NoteEnd → Mark
mark_by lines line opened note_end.Next = Next (next_line lines line) opened
mark_by lines line opened _ = Closes

pub head_same : {X : Type 0} (x y : X) (xs ys : List X) → x ∷ xs ≡ y ∷ ys → x ≡ y
head_same x y xs ys e = cc

pub tail_same : {X : Type 0} (x y : X) (xs ys : List X) → x ∷ xs ≡ y ∷ ys → xs ≡ ys
tail_same x y xs ys e = cc

abbrev pub through_end : List Char → NoteEnd → ℕ → List (List NoteEvent)
through_end xs how n = each_kept xs ++ (note.Ended how n ∷ []) ∷ []

nothing_found : (xs : List Char) (how : NoteEnd) (n : ℕ) → notes_found (concat_of (through_end xs how n)) ≡ []
nothing_found [] how n = refl
nothing_found (x ∷ xs) how n = nothing_found xs how n

module _ (lines line : ℕ) (opened : Place) where
  abbrev mark_of : List NoteEvent → Option Mark
  mark_of events = if list_any is_next events then Some (Next (next_line lines line) opened) else if list_any is_close events then Some Closes else None

  notes_ends : (lists : List (List NoteEvent)) (prefix : List Char) (how : NoteEnd) (n : ℕ) → (how ≡ note_end.Next) ⊎ (how ≡ note_end.Close)
      → take (suc (length prefix)) lists ≡ through_end prefix how n → EndsAfter lines (InNotes line opened lists) prefix (mark_by lines line opened how)
  notes_ends [] [] how n k h = absurd (cc)
  notes_ends [] (x ∷ prefix) how n k h = absurd (cc)
  notes_ends (l ∷ lists) [] how n k h = grind (arith, head_same)
  notes_ends (l ∷ lists) (x ∷ prefix) how n k h = (
    ap mark_of (head_same l (note.Kept x ∷ []) (take (suc (length prefix)) lists) (through_end prefix how n) h),
    notes_ends lists prefix how n k (tail_same l (note.Kept x ∷ []) (take (suc (length prefix)) lists) (through_end prefix how n) h),
  )

-- a mark of a snippet is its end's
abbrev pub code_of : NoteEnd → ℕ
code_of note_end.Next = 124
code_of _ = 41

module _ (gabc_prefix : (split : Bool) (macros : ℕ) (xs ys zs : List Char) → take (length xs) (note_events split macros (xs ++ ys)) ≡ take (length xs) (note_events split macros (xs ++ zs)))
    (nabc_prefix : (xs ys zs : List Char) → take (length xs) (nabc_events (xs ++ ys)) ≡ take (length xs) (nabc_events (xs ++ zs))) (lines macros : ℕ) where
  -- the end of a regular snippet, after its kept characters
  record ReadThrough (line : ℕ) (at : Place) (t : List ℕ) (how : NoteEnd) (rest : List Char) : Type 0 where
    bytes : ℕ
    events_are : (let e = ended_at at t (code_of how) in
        take (suc (length e.characters)) (snippet_events lines macros line (e.characters ++ e.end ∷ rest)) ≡ through_end e.characters how bytes)

  -- by all lists in front of the mark alone
  alone : (events : List Char → List (List NoteEvent)) → ((xs ys zs : List Char) → take (length xs) (events (xs ++ ys)) ≡ take (length xs) (events (xs ++ zs)))
      → (at : Place) (t : List ℕ) (how : NoteEnd) (n : ℕ) (rest : List Char)
      → events (placed_characters_from at (t ++ code_of how ∷ [])) ≡ each_kept (placed_characters_from at t) ++ (note.Ended how n ∷ []) ∷ ([] ∷ [])
      → (let e = ended_at at t (code_of how) in take (suc (length e.characters)) (events (e.characters ++ e.end ∷ rest)) ≡ through_end e.characters how n)
  alone events prefix at t how n rest h =
      let e = ended_at at t (code_of how) in
      all_agree events prefix e.characters e.end rest []
      ∙ ap (take (suc (length e.characters))) (ap events (sym (placed_append at t (code_of how ∷ []))) ∙ h)
      ∙ front e.characters
    where
      front : (cs : List Char) → take (suc (length cs)) (each_kept cs ++ (note.Ended how n ∷ []) ∷ ([] ∷ [])) ≡ through_end cs how n
      front [] = refl
      front (c ∷ cs) = ap (λ ls. (note.Kept c ∷ []) ∷ ls) (front cs)

  read_through : (line : ℕ) (at : Place) (t : List ℕ) (how : NoteEnd) (rest : List Char) → IsRegularOn line t
      → IsMarkOf (nat_lt 0 lines) how (code_of how) → IsMarkOf true how (code_of how) → ReadThrough line at t how rest
  read_through zero at t how rest r m k = record {
    bytes = _;
    events_are = alone (λ xs. note_events (nat_lt 0 lines) macros xs) (λ xs ys zs. gabc_prefix (nat_lt 0 lines) macros xs ys zs) at t how _ rest (r.events (nat_lt 0 lines) macros at how (code_of how) m);
  }
  read_through (suc line) at t how rest r m k = record {
    bytes = _;
    events_are = (let e = ended_at at t (code_of how) in
        ap (λ b. take (suc (length e.characters)) (if b then note_events (nat_lt 0 lines) macros (e.characters ++ e.end ∷ rest) else nabc_events (e.characters ++ e.end ∷ rest))) (suc_eqb line))
        ∙ alone (λ xs. nabc_events xs) (λ xs ys zs. nabc_prefix xs ys zs) at t how _ rest (r.events at how (code_of how) k);
  }

  -- a regular snippet ends at its mark, and nothing is found in it
  pub record SnippetEnds (line : ℕ) (opened at : Place) (t : List ℕ) (how : NoteEnd) (rest : List Char) : Type 0 where
    pub ends : (let e = ended_at at t (code_of how) in EndsAfter lines (snippet_from lines macros line opened (e.characters ++ e.end ∷ rest)) e.characters (mark_by lines line opened how))
    pub nothing : (let e = ended_at at t (code_of how) in found (concat_of (events_through (snippet_from lines macros line opened (e.characters ++ e.end ∷ rest)) e.characters)) ≡ [])

  ends_by : (line : ℕ) (opened at : Place) (t : List ℕ) (how : NoteEnd) (rest : List Char) → (how ≡ note_end.Next) ⊎ (how ≡ note_end.Close) → ReadThrough line at t how rest → SnippetEnds line opened at t how rest
  ends_by line opened at t how rest k r = grind (arith, notes_ends, snippet_through, nothing_found)

  pub next_ends : (line : ℕ) (opened at : Place) (t : List ℕ) (rest : List Char) → IsRegularOn line t → nat_lt 0 lines ≡ true → SnippetEnds line opened at t note_end.Next rest
  next_ends line opened at t rest r s = ends_by line opened at t note_end.Next rest (inl refl) (read_through line at t note_end.Next rest r (refl, s) (refl, refl))

  pub close_ends : (line : ℕ) (opened at : Place) (t : List ℕ) (rest : List Char) → IsRegularOn line t → SnippetEnds line opened at t note_end.Close rest
  close_ends line opened at t rest r = ends_by line opened at t note_end.Close rest (inr refl) (read_through line at t note_end.Close rest r refl refl)
