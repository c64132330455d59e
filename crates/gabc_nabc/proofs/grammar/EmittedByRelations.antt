-- What is emitted of an NABC snippet by relations is what is computed character by character.
use Rattle.std.proofs.Common.{◌≡◌, ℕ, List, [], ◌∷◌, ◌++◌, Bool, true, false, cond, ◌&&◌, ◌||◌, inl, inr, refl, sym, ap, ◌∙◌, subst, arith}
use Rattle.std.specs.Prelude.{map}
use Rattle.gabc_places.specs.declared.code.Code.TheVariants.{E3, W7}
use Rattle.gabc_places.specs.declared.code.Finding.{Finding}
use Rattle.gabc_places.specs.declared.place.Char.{Char}
use Rattle.gabc_places.specs.StageLaw.{silence}
use Rattle.gabc_patterns.specs.Derivative.{is_viable}
use Rattle.gabc_patterns.specs.Function.{trim}
use Rattle.gabc_patterns.proofs.FunctionsMeetRelations.{not_viable, trim_trims, trims_is}
use Rattle.gabc_patterns.proofs.LongestMunchByCharacter.{viable_from}
use Rattle.gabc_notes.specs.Events.{finding_event, end_by_mark}
use Rattle.gabc_notes.specs.NotesEmitted.{AreIfKept}
use Rattle.gabc_notes.specs.SnippetRead.{findings_of}
use Rattle.gabc_notes.specs.declared.stage.NoteEnd.TheVariants.{Cut}
use Rattle.gabc_notes.specs.declared.stage.NoteEvent.{NoteEvent}
use Rattle.gabc_notes.specs.declared.stage.NoteEvent.TheVariants.{Kept, Found, Ended}
use Rattle.gabc_notes.proofs.FoundOnce.{found_once, kept_once}
use Rattle.gabc_nabc.specs.Table.{nabc}
use Rattle.gabc_nabc.specs.Events.{is_character, is_end, has_end, kept_of, first_of, is_missing, bytes_in, end_events, events_at, cut_events, nabc_events_after, nabc_events}
use Rattle.gabc_nabc.specs.NabcRead.{IsKeptAfter, IsFoundAfter}
use Rattle.gabc_nabc.specs.NabcEmitted.{AreOfCharacter, AreOfMark, AreEventsAfter, AreNabcEvents}
use Rattle.gabc_nabc.proofs.grammar.ReadByRelations.{kept_is, kept_keeps, found_here, one_code, unfinished_at, unfinished_only}
use Rattle.gabc_nabc.proofs.machine.TextWithACharacterMore.{end_more}

-- ---- a character that does not end the snippet

abbrev pub kept_event : List ℕ → Char → List NoteEvent
kept_event t x = cond (is_character t x.c && is_viable nabc (kept_of t ++ x.c ∷ [])) (Kept x ∷ []) []

pub kept_here : (t : List ℕ) (x : Char) → AreIfKept (IsKeptAfter t x.c) x (kept_event t x)
kept_here t x = grind (arith, not_viable, kept_is, kept_keeps, viable_from)

-- that it is kept, and then what is found
pub parted : (t : List ℕ) (x : Char) → has_end t ≡ false → is_end t x.c ≡ false → events_at t x ≡ kept_event t x ++ map Found (findings_of (events_at t x))
parted t x o e =
    same ∙ (go (is_character t x.c) (is_viable nabc (kept_of t ++ x.c ∷ [])) (is_missing (first_of (kept_of t)) x.c)
    ∙ ap (λ (es : List NoteEvent). cond (is_character t x.c && is_viable nabc (kept_of t ++ x.c ∷ [])) (Kept x ∷ []) [] ++ map Found (findings_of es)) (sym same))
  where
    at : Bool → Bool → Bool → List NoteEvent
    at c v m = cond c (cond v (Kept x ∷ cond m (finding_event x.place W7 ∷ []) []) (finding_event x.place E3 ∷ [])) []

    same : events_at t x ≡ at (is_character t x.c) (is_viable nabc (kept_of t ++ x.c ∷ [])) (is_missing (first_of (kept_of t)) x.c)
    same = cc

    go : (c v m : Bool) → at c v m ≡ cond (c && v) (Kept x ∷ []) [] ++ map Found (findings_of (at c v m))
    go c v m = grind arith

of_character : (t : List ℕ) (x : Char) → has_end t ≡ false → is_end t x.c ≡ false → AreOfCharacter t x (events_at t x)
of_character t x o e = grind (arith, kept_here, found_here, parted)

of_character_only : (t : List ℕ) (x : Char) (events : List NoteEvent) → has_end t ≡ false → AreOfCharacter t x events → events ≡ events_at t x
of_character_only t x events o h =
    let k = of_character t x o h.no_end in
    h.all ∙ (ap (λ (es : List NoteEvent). es ++ map Found h.found) (kept_once x h.kept k.kept h.is_kept k.is_kept)
    ∙ (ap (λ (fs : List Finding). k.kept ++ map Found fs) (found_once (IsFoundAfter t x) (one_code t x) h.found k.found h.is_found k.is_found) ∙ sym k.all))

-- ---- the mark that ends the snippet

pub ended : (t : List ℕ) (x : Char) → end_events (kept_of t) x ≡ map Found (findings_of (end_events (kept_of t) x)) ++ Ended (end_by_mark x.c) (bytes_in (trim nabc (kept_of t))) ∷ []
ended t x = grind arith

of_mark : (t : List ℕ) (x : Char) → is_end t x.c ≡ true → AreOfMark t x (end_events (kept_of t) x)
of_mark t x e = grind (arith, kept_keeps, trim_trims, unfinished_at, ended)

of_mark_only : (t : List ℕ) (x : Char) (events : List NoteEvent) → AreOfMark t x events → events ≡ end_events (kept_of t) x
of_mark_only t x events h =
    let same : h.kept ≡ kept_of t = kept_is t h.kept h.keeps in
    h.all ∙ (ap (λ (fs : List Finding). map Found fs ++ Ended (end_by_mark x.c) (bytes_in h.whole) ∷ []) (unfinished_only h.kept x h.last h.unfinished ∙ ap (λ (k : List ℕ). findings_of (end_events k x)) same)
    ∙ (ap (λ (k : List ℕ). map Found (findings_of (end_events (kept_of t) x)) ++ Ended (end_by_mark x.c) (bytes_in k) ∷ []) (trims_is nabc refl h.kept h.whole h.trims ∙ ap (trim nabc) same)
    ∙ sym (ended t x)))

-- ---- both ways

pub at_mark : (t : List ℕ) (x : Char) → has_end t ≡ false → is_end t x.c ≡ true → events_at t x ≡ end_events (kept_of t) x
at_mark t x o e = cc

pub more : (t : List ℕ) (c : ℕ) (b : Bool) → has_end t ≡ false → is_end t c ≡ b → has_end (t ++ c ∷ []) ≡ b
more t c b o e = end_more t c ∙ (ap (λ (a : Bool). a || is_end t c) o ∙ e)

-- after the end nothing
over : (t : List ℕ) (xs : List Char) → has_end t ≡ true → nabc_events_after t xs ≡ silence xs
over t [] o = ap (λ (b : Bool). cond b [] (Ended (Cut (record { line = 0; column = 0 })) (bytes_in (kept_of t)) ∷ []) ∷ []) o
over t (x ∷ xs) o = grind (arith, end_more, over (t ++ x.c ∷ []) xs (end_more t x.c ∙ ap (λ (a : Bool). a || is_end t x.c) o))

pub cut_is : (t : List ℕ) → has_end t ≡ false → cut_events t ≡ Ended (Cut (record { line = 0; column = 0 })) (bytes_in (kept_of t)) ∷ []
cut_is t o = ap (λ (b : Bool). cond b [] (Ended (Cut (record { line = 0; column = 0 })) (bytes_in (kept_of t)) ∷ [])) o

events_by_relations : (t : List ℕ) (xs : List Char) → has_end t ≡ false → AreEventsAfter t xs (nabc_events_after t xs)
events_by_relations t [] o = (cut_events t, record { kept = kept_of t; keeps = kept_keeps t; all = cut_is t o }, refl)
events_by_relations t (x ∷ xs) o = go (is_end t x.c) refl (λ p. events_by_relations (t ++ x.c ∷ []) xs p)
  where
    go : (b : Bool) → is_end t x.c ≡ b → (has_end (t ++ x.c ∷ []) ≡ false → AreEventsAfter (t ++ x.c ∷ []) xs (nabc_events_after (t ++ x.c ∷ []) xs)) → AreEventsAfter t (x ∷ xs) (nabc_events_after t (x ∷ xs))
    go false e F = inr (events_at t x, nabc_events_after (t ++ x.c ∷ []) xs, of_character t x o e, F (more t x.c false o e), refl)
    go true e F = inl (
      end_events (kept_of t) x,
      of_mark t x e,
      ap (λ (es : List NoteEvent). es ∷ nabc_events_after (t ++ x.c ∷ []) xs) (at_mark t x o e)
          ∙ ap (λ (l : List (List NoteEvent)). end_events (kept_of t) x ∷ l) (over (t ++ x.c ∷ []) xs (more t x.c true o e)),
    )

relations_give_events : (t : List ℕ) (xs : List Char) (lists : List (List NoteEvent)) → has_end t ≡ false → AreEventsAfter t xs lists → lists ≡ nabc_events_after t xs
relations_give_events t [] lists o h = grind (arith, kept_is, cut_is)
relations_give_events t (x ∷ xs) lists o (inl (events, m, e)) =
    e ∙ (ap (λ (es : List NoteEvent). es ∷ silence xs) (of_mark_only t x events m ∙ sym (at_mark t x o m.mark))
    ∙ ap (λ (l : List (List NoteEvent)). events_at t x ∷ l) (sym (over (t ++ x.c ∷ []) xs (more t x.c true o m.mark))))
relations_give_events t (x ∷ xs) lists o (inr (events, later, m, l, e)) =
    e ∙ (ap (λ (es : List NoteEvent). es ∷ later) (of_character_only t x events o m)
    ∙ ap (λ (r : List (List NoteEvent)). events_at t x ∷ r) (relations_give_events (t ++ x.c ∷ []) xs later (more t x.c false o m.no_end) l))

pub emitted_by_relations : (xs : List Char) (lists : List (List NoteEvent)) → lists ≡ nabc_events xs → AreNabcEvents xs lists
emitted_by_relations xs lists e = subst (AreNabcEvents xs) (sym e) (events_by_relations [] xs refl)

pub relations_emit : (xs : List Char) (lists : List (List NoteEvent)) → AreNabcEvents xs lists → lists ≡ nabc_events xs
relations_emit xs lists h = relations_give_events [] xs lists refl h
