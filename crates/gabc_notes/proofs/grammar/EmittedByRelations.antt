-- What is emitted of a snippet by relations is what is computed character by character.
use Rattle.std.proofs.Common.{◌≡◌, ℕ, List, [], ◌∷◌, ◌++◌, Bool, true, false, cond, not, ◌&&◌, ◌⊎◌, inl, inr, refl, sym, ap, ◌∙◌, subst, arith}
use Rattle.std.proofs.lemmas.Bool.{false_from_ne_true}
use Rattle.std.specs.Prelude.{map}
use Rattle.gabc_places.specs.declared.code.Code.TheVariants.{E1, E6, W8, W10}
use Rattle.gabc_places.specs.declared.code.Finding.{Finding}
use Rattle.gabc_places.specs.declared.place.Char.{Char}
use Rattle.gabc_places.specs.declared.place.Place.{Place}
use Rattle.gabc_places.specs.StageLaw.{silence}
use Rattle.gabc_patterns.specs.Derivative.{is_snippet, is_viable}
use Rattle.gabc_patterns.specs.Function.{trim}
use Rattle.gabc_patterns.proofs.FunctionsMeetRelations.{trim_trims, trims_is}
use Rattle.gabc_notes.specs.Table.{gabc}
use Rattle.gabc_notes.specs.Events.{in_raw, kept, is_comment, kept_with, is_kept, item_at, macro_of, is_missing, is_unpaired, is_fused, opener, finding_event, end_by_mark, bytes_of, is_end, is_over, at_end, events_at, note_events_after, note_events}
use Rattle.gabc_notes.specs.SnippetRead.{findings_of}
use Rattle.gabc_notes.specs.NotesRead.{IsKeptWith}
use Rattle.gabc_notes.specs.NotesEmitted.{AreIfKept, AreOfCharacter, AreOfMark, AreEventsAfter, AreNoteEvents}
use Rattle.gabc_notes.specs.declared.stage.NoteEnd.TheVariants.{Cut}
use Rattle.gabc_notes.specs.declared.stage.NoteEvent.{NoteEvent}
use Rattle.gabc_notes.specs.declared.stage.NoteEvent.TheVariants.{Kept, Found, Ended}
use Rattle.gabc_notes.proofs.FoundOnce.{kept_once, found_once}
use Rattle.gabc_notes.proofs.grammar.CharactersByRelations.{marks, mark_only, are_marked, kept_keeps, kept_only, kept_with_to, kept_with_from}
use Rattle.gabc_notes.proofs.grammar.FindingsByRelations.{Found as IsFoundHere, found_here, one_finding}
use Rattle.gabc_notes.proofs.grammar.LawsOfEventsByPoint.{cut_outs, more_over}
use Rattle.gabc_notes.proofs.grammar.ReadByRelations.{end_to, end_from, end_found, end_found_only, cut_at, cut_only}
use Rattle.gabc_notes.proofs.machine.FreshStageEmitsEventsByPoint.{over_emits}
use Rattle.gabc_notes.proofs.machine.LoopOverBody.{is_emitted}
use Rattle.gabc_notes.proofs.machine.OneCharacterMore.{point}

-- ---- a character that does not end the snippet

abbrev pub kept_event : List Char → Char → List NoteEvent
kept_event back x = cond (is_kept (point back x)) (Kept x ∷ []) []

kept_here : (back : List Char) (x : Char) → AreIfKept ((t : List ℕ) × IsKeptWith (marks (x ∷ back)) t) x (kept_event back x)
kept_here back x = go (is_kept (point back x)) refl
  where
    go : (b : Bool) → is_kept (point back x) ≡ b → AreIfKept ((t : List ℕ) × IsKeptWith (marks (x ∷ back)) t) x (cond b (Kept x ∷ []) [])
    go true e = inl ((kept_with (point back x), kept_with_to back x e), refl)
    go false e = inr ((λ h. let f = (kept_with_from back x h.0 h.1).0 in absurd (cc)), refl)

-- that it is kept, and then what is found
pub parted : (split : Bool) (macros : ℕ) (back : List Char) (x : Char) → is_over split back ≡ false → is_end split (point back x) ≡ false
    → events_at split macros (point back x) ≡ kept_event back x ++ map Found (findings_of (events_at split macros (point back x)))
parted split macros back x o e =
    same ∙ (go (is_comment (point back x)) (is_viable gabc (kept_with (point back x))) (is_unpaired (point back x)) (is_missing macros (macro_of (item_at (point back x))))
    ∙ ap (λ (es : List NoteEvent). cond (is_kept (point back x)) (Kept x ∷ []) [] ++ map Found (findings_of es)) (sym same))
  where
    at : Bool → Bool → Bool → Bool → List NoteEvent
    at c v u m = cond c [] (cond (not c && v) (Kept x ∷ (cond u (finding_event x.place W10 ∷ []) [] ++ cond m (finding_event (opener back) W8 ∷ []) [])) (finding_event x.place E1 ∷ []))

    same : events_at split macros (point back x) ≡ at (is_comment (point back x)) (is_viable gabc (kept_with (point back x))) (is_unpaired (point back x)) (is_missing macros (macro_of (item_at (point back x))))
    same = grind arith

    go : (c v u m : Bool) → at c v u m ≡ cond (not c && v) (Kept x ∷ []) [] ++ map Found (findings_of (at c v u m))
    go c v u m = grind arith

of_character : (split : Bool) (macros : ℕ) (back : List Char) (x : Char) → is_over split back ≡ false → is_end split (point back x) ≡ false
    → AreOfCharacter split macros (marks back) (x, is_comment (point back x)) (events_at split macros (point back x))
unfolding marks
of_character split macros back x o e = record {
  no_end = λ h. (let f = end_from split back x h in absurd (cc));
  marked = (are_marked (x ∷ back)).0;
  kept = kept_event back x;
  is_kept = kept_here back x;
  found = findings_of (events_at split macros (point back x));
  is_found = found_here split macros back x o e;
  all = parted split macros back x o e;
}

of_character_only : (split : Bool) (macros : ℕ) (back : List Char) (x : Char) (events : List NoteEvent) → is_over split back ≡ false → is_end split (point back x) ≡ false
    → AreOfCharacter split macros (marks back) (x, is_comment (point back x)) events → events ≡ events_at split macros (point back x)
of_character_only split macros back x events o e h =
    let k = of_character split macros back x o e in
    h.all ∙ (ap (λ (es : List NoteEvent). es ++ map Found h.found) (kept_once x h.kept k.kept h.is_kept k.is_kept)
    ∙ (ap (λ (fs : List Finding). k.kept ++ map Found fs) (found_once (IsFoundHere macros back x) (one_finding macros back x) h.found k.found h.is_found k.is_found) ∙ sym k.all))

-- ---- the mark that ends the snippet

pub of_mark : (split : Bool) (back : List Char) (x : Char) → is_end split (point back x) ≡ true → AreOfMark split (marks back) x (at_end (point back x))
of_mark split back x e = record {
  mark = end_to split back x e;
  kept = kept back;
  keeps = kept_keeps back;
  whole = trim gabc (kept back);
  trims = trim_trims gabc refl (kept back);
  found = findings_of (at_end (point back x));
  is_found = end_found back x;
  all = go (is_snippet gabc (kept back)) (is_fused back);
}
  where
    at : Bool → Bool → List NoteEvent
    at a b = cond a [] (finding_event x.place E6 ∷ []) ++ (cond b (finding_event x.place W10 ∷ []) [] ++ Ended (end_by_mark x.c) (bytes_of (trim gabc (kept back))) ∷ [])

    go : (a b : Bool) → at a b ≡ map Found (findings_of (at a b)) ++ Ended (end_by_mark x.c) (bytes_of (trim gabc (kept back))) ∷ []
    go a b = grind arith

of_mark_only : (split : Bool) (back : List Char) (x : Char) (events : List NoteEvent) → AreOfMark split (marks back) x events → events ≡ at_end (point back x)
unfolding of_mark
of_mark_only split back x events h =
    let k = of_mark split back x (end_from split back x h.mark) in
    let same : h.kept ≡ kept back = kept_only back h.kept h.keeps in
    h.all ∙ (ap (λ (fs : List Finding). map Found fs ++ Ended (end_by_mark x.c) (bytes_of h.whole) ∷ []) (end_found_only back x h.kept h.found same h.is_found)
    ∙ (ap (λ (t : List ℕ). map Found (findings_of (at_end (point back x))) ++ Ended (end_by_mark x.c) (bytes_of t) ∷ []) (trims_is gabc refl h.kept h.whole h.trims ∙ ap (trim gabc) same) ∙ sym k.all))

-- ---- both ways

events_by_relations : (split : Bool) (macros : ℕ) (back xs : List Char) → is_over split back ≡ false → AreEventsAfter split macros (marks back) xs (note_events_after split macros back xs)
unfolding marks
events_by_relations split macros back [] o = grind (arith, kept_keeps, cut_at, cut_outs)
events_by_relations split macros back (x ∷ xs) o = go (is_emitted split macros back x o) (λ p. events_by_relations split macros (x ∷ back) xs p)
  where
    go : (is_end split (point back x) ≡ false) ⊎ ((is_end split (point back x) ≡ true) × (events_at split macros (point back x) ≡ at_end (point back x)))
        → (is_over split (x ∷ back) ≡ false → AreEventsAfter split macros (marks (x ∷ back)) xs (note_events_after split macros (x ∷ back) xs))
        → AreEventsAfter split macros (marks back) (x ∷ xs) (note_events_after split macros back (x ∷ xs))
    go (inl n) F = inr (is_comment (point back x), events_at split macros (point back x), note_events_after split macros (x ∷ back) xs, of_character split macros back x o n, F (more_over split back x false o n), refl)
    go (inr n) F = inl (
      at_end (point back x),
      of_mark split back x n.0,
      ap (λ (es : List NoteEvent). es ∷ note_events_after split macros (x ∷ back) xs) n.1
          ∙ ap (λ (l : List (List NoteEvent)). at_end (point back x) ∷ l) (over_emits split macros xs (x ∷ back) (more_over split back x true o n.0)),
    )

relations_give_events : (split : Bool) (macros : ℕ) (back xs : List Char) (lists : List (List NoteEvent)) → is_over split back ≡ false
    → AreEventsAfter split macros (marks back) xs lists → lists ≡ note_events_after split macros back xs
unfolding marks
relations_give_events split macros back [] lists o h =
    h.2 ∙ ap (λ (es : List NoteEvent). es ∷ []) (h.1.all
    ∙ (ap (λ (p : Place). Ended (Cut p) (bytes_of h.1.kept) ∷ []) (cut_only back h.1.place h.1.is_cut)
    ∙ (ap (λ (t : List ℕ). Ended (Cut (cond (in_raw (kept back)) (opener back) (record { line = 0; column = 0 }))) (bytes_of t) ∷ []) (kept_only back h.1.kept h.1.keeps)
    ∙ sym (cut_outs split back o))))
relations_give_events split macros back (x ∷ xs) lists o (inl (events, m, e)) =
    let n = end_from split back x m.mark in
    e ∙ (ap (λ (es : List NoteEvent). es ∷ silence xs) (of_mark_only split back x events m ∙ sym (emits n (is_emitted split macros back x o)))
    ∙ ap (λ (l : List (List NoteEvent)). events_at split macros (point back x) ∷ l) (sym (over_emits split macros xs (x ∷ back) (more_over split back x true o n))))
  where
    emits : is_end split (point back x) ≡ true → (is_end split (point back x) ≡ false) ⊎ ((is_end split (point back x) ≡ true) × (events_at split macros (point back x) ≡ at_end (point back x)))
        → events_at split macros (point back x) ≡ at_end (point back x)
    emits n h = cc
relations_give_events split macros back (x ∷ xs) lists o (inr (comment, events, later, m, l, e)) =
    let n : is_end split (point back x) ≡ false = false_from_ne_true (is_end split (point back x)) (λ f. m.no_end (end_to split back x f)) in
    let same = mark_only back x comment m.marked in
    e ∙ (ap (λ (es : List NoteEvent). es ∷ later) (of_character_only split macros back x events o n (subst (λ (b : Bool). AreOfCharacter split macros (marks back) (x, b) events) same m))
    ∙ ap (λ (r : List (List NoteEvent)). events_at split macros (point back x) ∷ r)
    (relations_give_events split macros (x ∷ back) xs later (more_over split back x false o n) (subst (λ (b : Bool). AreEventsAfter split macros ((x, b) ∷ marks back) xs later) same l)))

pub emitted_by_relations : (split : Bool) (macros : ℕ) (xs : List Char) (lists : List (List NoteEvent)) → lists ≡ note_events split macros xs → AreNoteEvents split macros xs lists
unfolding marks note_events
emitted_by_relations split macros xs lists e = subst (AreNoteEvents split macros xs) (sym e) (events_by_relations split macros [] xs refl)

pub relations_emit : (split : Bool) (macros : ℕ) (xs : List Char) (lists : List (List NoteEvent)) → AreNoteEvents split macros xs lists → lists ≡ note_events split macros xs
unfolding marks note_events
relations_emit split macros xs lists h = relations_give_events split macros [] xs lists refl h
