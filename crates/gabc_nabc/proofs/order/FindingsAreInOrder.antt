-- The findings are in the order of their places.
use Rattle.std.proofs.Common.{◌≡◌, ℕ, ◌<◌, ◌≤◌, List, [], ◌∷◌, ◌++◌, Bool, cond, refl, sym, subst, arith, ◌⊎◌, inl, inr}
use Rattle.gabc_notes.proofs.machine.LoopOverBody.{findings_append}
use Rattle.gabc_places.specs.declared.code.Code.{Code}
use Rattle.gabc_places.specs.declared.code.Code.TheVariants.{E3, E6, W7}
use Rattle.gabc_places.specs.declared.code.Finding.{Finding}
use Rattle.gabc_places.specs.declared.place.Char.{Char}
use Rattle.gabc_places.specs.declared.place.Place.{Place}
use Rattle.gabc_places.specs.Findings.{ComeAfter, AreInOrder}
use Rattle.gabc_places.specs.StageLaw.{concat_of}
use Rattle.gabc_places.specs.Place.{next_place, placed_characters_from}
use Rattle.gabc_patterns.specs.Derivative.{is_snippet, is_viable}
use Rattle.gabc_patterns.specs.Function.{trim}
use Rattle.gabc_notes.specs.declared.stage.NoteEvent.TheVariants.{Kept, Ended}
use Rattle.gabc_notes.specs.declared.stage.NoteEvent.{NoteEvent}
use Rattle.gabc_nabc.specs.Table.{nabc}
use Rattle.gabc_nabc.specs.Events.{is_character, is_end, has_end, kept_of, first_of, is_missing, bytes_in, events_at, cut_events, nabc_events_after, nabc_events}
use Rattle.gabc_notes.specs.Events.{finding_event, end_by_mark}
use Rattle.gabc_notes.specs.SnippetRead.{findings_of}
use Rattle.gabc_nabc.specs.SnippetRead.{AreAtMostOne}

-- what is emitted of a character has at most one finding, at its place
pub one_at_most : (t : List ℕ) (x : Char) → AreAtMostOne x.place (findings_of (events_at t x))
one_at_most t x = by (has_end t)
  where
    ended : (b : Bool) → AreAtMostOne x.place (findings_of (cond b [] (finding_event x.place E6 ∷ []) ++ Ended (end_by_mark x.c) (bytes_in (trim nabc (kept_of t))) ∷ []))
    ended b = grind arith

    warned : (b : Bool) → AreAtMostOne x.place (findings_of (Kept x ∷ cond b (finding_event x.place W7 ∷ []) []))
    warned b = grind arith

    viable : (b : Bool) → AreAtMostOne x.place (findings_of (cond b (Kept x ∷ cond (is_missing (first_of (kept_of t)) x.c) (finding_event x.place W7 ∷ []) []) (finding_event x.place E3 ∷ [])))
    viable b = grind (arith, warned)

    character : (b : Bool) → AreAtMostOne x.place (findings_of (cond b (cond (is_viable nabc (kept_of t ++ x.c ∷ [])) (Kept x ∷ cond (is_missing (first_of (kept_of t)) x.c) (finding_event x.place W7 ∷ []) []) (finding_event x.place E3 ∷ [])) []))
    character b = grind (arith, viable)

    end : (b : Bool) → AreAtMostOne x.place (findings_of (cond b (cond (is_snippet nabc (kept_of t)) [] (finding_event x.place E6 ∷ []) ++ Ended (end_by_mark x.c) (bytes_in (trim nabc (kept_of t))) ∷ [])
        (cond (is_character t x.c) (cond (is_viable nabc (kept_of t ++ x.c ∷ [])) (Kept x ∷ cond (is_missing (first_of (kept_of t)) x.c) (finding_event x.place W7 ∷ []) []) (finding_event x.place E3 ∷ [])) [])))
    end b = grind (arith, ended, character)

    by : (b : Bool) → AreAtMostOne x.place (findings_of (cond b [] (cond (is_end t x.c) (cond (is_snippet nabc (kept_of t)) [] (finding_event x.place E6 ∷ []) ++ Ended (end_by_mark x.c) (bytes_in (trim nabc (kept_of t))) ∷ [])
        (cond (is_character t x.c) (cond (is_viable nabc (kept_of t ++ x.c ∷ [])) (Kept x ∷ cond (is_missing (first_of (kept_of t)) x.c) (finding_event x.place W7 ∷ []) []) (finding_event x.place E3 ∷ [])) []))))
    by b = grind (arith, end)

-- the finding stands at that place or after it
abbrev From : Place → Finding → Type 0
From p f = (p.line < f.place.line) ⊎ ((p.line ≡ f.place.line) × (p.column ≤ f.place.column))

-- in order, the first of them at that place or after it
abbrev InOrderFrom : Place → List Finding → Type 0
InOrderFrom p [] = Unit {0}
InOrderFrom p (f ∷ fs) = From p f × ComeAfter f fs

-- so findings from the next place on are findings from this one on
from_next : (p : Place) (c : ℕ) (fs : List Finding) → InOrderFrom (next_place p c) fs → InOrderFrom p fs
from_next p c fs h = grind arith

-- and a finding at this place stands before them
before_next : (p : Place) (c : ℕ) (code : Code) (fs : List Finding) → InOrderFrom (next_place p c) fs → ComeAfter (record { place = p; code = code }) fs
before_next p c code fs h = grind arith

pub cut_quiet : (t : List ℕ) → findings_of (concat_of (cut_events t ∷ [])) ≡ []
cut_quiet t = grind arith

in_order_from : (cs : List ℕ) (t : List ℕ) (p : Place) → InOrderFrom p (findings_of (concat_of (nabc_events_after t (placed_characters_from p cs))))
in_order_from [] t p = subst (InOrderFrom p) (sym (cut_quiet t)) tt
in_order_from (c ∷ cs) t p =
    let x : Char = record { c = c; place = p } in
    let later : List NoteEvent = concat_of (nabc_events_after (t ++ c ∷ []) (placed_characters_from (next_place p c) cs)) in
    subst (InOrderFrom p) (sym (findings_append (events_at t x) later)) (go (findings_of (events_at t x)) (one_at_most t x) (in_order_from cs (t ++ c ∷ []) (next_place p c)))
  where
    go : (fs : List Finding) → AreAtMostOne p fs → InOrderFrom (next_place p c) (findings_of (concat_of (nabc_events_after (t ++ c ∷ []) (placed_characters_from (next_place p c) cs))))
        → InOrderFrom p (fs ++ findings_of (concat_of (nabc_events_after (t ++ c ∷ []) (placed_characters_from (next_place p c) cs))))
    go fs (inl e) h = rw e (from_next p c (findings_of (concat_of (nabc_events_after (t ++ c ∷ []) (placed_characters_from (next_place p c) cs)))) h)
    go fs (inr (code, e)) h = rw e (inr (refl, omega arith), before_next p c code (findings_of (concat_of (nabc_events_after (t ++ c ∷ []) (placed_characters_from (next_place p c) cs)))) h)

plain_order : (p : Place) (fs : List Finding) → InOrderFrom p fs → AreInOrder fs
plain_order p fs h = grind arith

-- the findings of a text are in order
pub in_order : (at : Place) (t : List ℕ) → AreInOrder (findings_of (concat_of (nabc_events (placed_characters_from at t))))
in_order at t = plain_order at (findings_of (concat_of (nabc_events (placed_characters_from at t)))) (in_order_from t [] at)
