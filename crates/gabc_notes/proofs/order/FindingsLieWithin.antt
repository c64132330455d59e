-- The places between which findings lie, and the marks at which ends are emitted.
use Rattle.std.proofs.Common.{◌≡◌, ℕ, ◌+◌, suc, List, [], ◌∷◌, ◌++◌, Bool, true, false, cond, not, ◌&&◌, ◌||◌, ◌==◌, inl, inr, refl, sym, ap, subst, length, take, arith}
use Rattle.std.proofs.lemmas.Bool.{and_parts}
use Rattle.gabc_places.proofs.PlacesInOrder.{lie_wider, up_to_past, lie_append, before_up_to, up_to_self, up_to_then, before_next}
use Rattle.gabc_places.specs.declared.code.Code.TheVariants.{E1, E6, W8, W10}
use Rattle.gabc_places.specs.declared.place.Char.{Char}
use Rattle.gabc_places.specs.declared.place.Place.{Place}
use Rattle.gabc_places.specs.Findings.{IsUpTo, LieBetween}
use Rattle.gabc_places.specs.StageLaw.{concat_of}
use Rattle.gabc_places.specs.Place.{next_place, place_past, placed_characters_from}
use Rattle.gabc_patterns.specs.Derivative.{is_snippet}
use Rattle.gabc_patterns.specs.Function.{trim}
use Rattle.gabc_notes.specs.Table.{gabc}
use Rattle.gabc_notes.specs.Events.{Point, in_raw, kept, is_comment, is_end, is_over, is_fused, is_unpaired, is_missing, opener, item_at, macro_of, bytes_of, finding_event, end_by_mark, warnings, at_end, events_at, cut_events, note_events, note_events_after}
use Rattle.gabc_notes.specs.SnippetRead.{findings_of, ends_of}
use Rattle.gabc_notes.specs.Ends.{IsMarkOf, EndWithMark, EndAtMost, AreCutAtMost}
use Rattle.gabc_notes.specs.declared.stage.NoteEvent.{NoteEvent}
use Rattle.gabc_notes.specs.declared.stage.NoteEvent.TheVariants.{Kept, Ended}
use Rattle.gabc_notes.proofs.order.FindingsAreInOrder.{stand, FactsHow, facts_how, missing_inside}
use Rattle.gabc_notes.proofs.grammar.LawsOfEventsByPoint.{opened, nothing_over}
use Rattle.gabc_notes.proofs.machine.LoopOverBody.{findings_append, is_emitted, goes}
use Rattle.gabc_notes.proofs.machine.OneCharacterMore.{point}

-- ---- bounds

-- each of the characters stands at p or later, and no later than q
abbrev StandBetween : Place → Place → List Char → Type 0
StandBetween p q [] = Unit {0}
StandBetween p q (x ∷ xs) = (IsUpTo p x.place × IsUpTo x.place q) × StandBetween p q xs

stand_widen : (p q r : Place) (xs : List Char) → IsUpTo q r → StandBetween p q xs → StandBetween p r xs
stand_widen p q r [] l h = tt
stand_widen p q r (x ∷ xs) l h = ((h.0.0, up_to_then x.place q r h.0.1 l), stand_widen p q r xs l h.1)

mark_stands : (p q : Place) (line before : List Char) (mark : Char) → StandBetween p q (line ++ mark ∷ before) → IsUpTo p mark.place × IsUpTo mark.place q
mark_stands p q [] before mark h = h.0
mark_stands p q (y ∷ line) before mark h = mark_stands p q line before mark h.1

-- inside raw, so does the bracket that is open
opener_stands : (p q : Place) (back : List Char) → StandBetween p q back → in_raw (kept back) ≡ true → IsUpTo p (opener back) × IsUpTo (opener back) q
opener_stands p q back h r =
    let o = opened back r in
    subst (λ (a : Place). IsUpTo p a × IsUpTo a q) o.place (mark_stands p q o.line o.before o.mark (subst (StandBetween p q) o.cut h))

-- ---- a character

end_within : (at : Place) (back : List Char) (x : Char) → IsUpTo at x.place → LieBetween at x.place (findings_of (at_end (point back x)))
end_within at back x l = grind arith

warned_within : (at : Place) (macros : ℕ) (back : List Char) (x : Char) → IsUpTo at x.place
    → (is_missing macros (macro_of (item_at (point back x))) ≡ true → IsUpTo at (opener back) × IsUpTo (opener back) x.place)
    → LieBetween at x.place (findings_of (warnings macros (point back x)))
warned_within at macros back x l o = go (is_unpaired (point back x)) (is_missing macros (macro_of (item_at (point back x)))) refl
  where
    go : (u m : Bool) → is_missing macros (macro_of (item_at (point back x))) ≡ m
        → LieBetween at x.place (findings_of (cond u (finding_event x.place W10 ∷ []) [] ++ cond m (finding_event (opener back) W8 ∷ []) []))
    go u m e = grind arith

facts_within : (at : Place) (split : Bool) (macros : ℕ) (back : List Char) (x : Char) → IsUpTo at x.place → StandBetween at x.place back
    → LieBetween at x.place (findings_of (events_at split macros (point back x)))
facts_within at split macros back x l h = start (is_over split back) refl
  where
    events : (lists : List NoteEvent) → events_at split macros (point back x) ≡ lists → LieBetween at x.place (findings_of lists) → LieBetween at x.place (findings_of (events_at split macros (point back x)))
    events lists e k = subst (λ (os : List NoteEvent). LieBetween at x.place (findings_of os)) (sym e) k

    going : is_over split back ≡ false → is_end split (point back x) ≡ false → FactsHow split macros back x → LieBetween at x.place (findings_of (events_at split macros (point back x)))
    going o n (inl k) = events [] k.1 tt
    going o n (inr (inl k)) = events (Kept x ∷ warnings macros (point back x)) k.2
        (warned_within at macros back x l (λ m. opener_stands at x.place back h (missing_inside split macros back x (stand split back o) k.0 n k.1 m)))
    going o n (inr (inr k)) = events (finding_event x.place E1 ∷ []) k.2 ((l, up_to_self x.place), tt)

    start : (o : Bool) → is_over split back ≡ o → LieBetween at x.place (findings_of (events_at split macros (point back x)))
    start true o = events [] (nothing_over split macros (point back x) o) tt
    start false o = elim (is_emitted split macros back x o) [
      | inl n ↦ going o n (facts_how split macros back x o n)
      | inr e ↦ events (at_end (point back x)) e.1 (end_within at back x l)
    ]

-- ---- the characters of a prefix and the one after it

cut_quiet : (split : Bool) (back : List Char) → findings_of (cut_events split back ++ []) ≡ []
cut_quiet split back = grind arith

through : (at : Place) (split : Bool) (macros : ℕ) (prefix rest : List ℕ) (back : List Char) (p : Place) → IsUpTo at p → StandBetween at p back
    → LieBetween at (place_past p prefix) (findings_of (concat_of (take (length prefix + 1) (note_events_after split macros back (placed_characters_from p (prefix ++ rest))))))
through at split macros [] [] back p l h = subst (LieBetween at p) (sym (cut_quiet split back)) tt
through at split macros [] (c ∷ rest) back p l h =
    let x : Char = record { c = c; place = p } in
    subst (LieBetween at p) (sym (findings_append (events_at split macros (point back x)) []))
    (lie_append at p (findings_of (events_at split macros (point back x))) [] (facts_within at split macros back x l h) tt)
through at split macros (c ∷ prefix) rest back p l h =
    let x : Char = record { c = c; place = p } in
    let next = before_up_to p (next_place p c) (before_next p c) in
    let later = note_events_after split macros (x ∷ back) (placed_characters_from (next_place p c) (prefix ++ rest)) in
    let n : length (c ∷ prefix) + 1 ≡ suc (length prefix + 1) = omega arith in
    subst (λ (k : ℕ). LieBetween at (place_past (next_place p c) prefix) (findings_of (concat_of (take k (events_at split macros (point back x) ∷ later))))) (sym n)
    (subst (LieBetween at (place_past (next_place p c) prefix)) (sym (findings_append (events_at split macros (point back x)) (concat_of (take (length prefix + 1) later))))
    (lie_append at (place_past (next_place p c) prefix) (findings_of (events_at split macros (point back x))) (findings_of (concat_of (take (length prefix + 1) later)))
    (lie_wider at p (place_past (next_place p c) prefix) (findings_of (events_at split macros (point back x))) (up_to_past p (c ∷ prefix)) (facts_within at split macros back x l h))
    (through at split macros prefix rest (x ∷ back) (next_place p c) (up_to_then at p (next_place p c) l next) ((l, next), stand_widen at p (next_place p c) back next h))))

pub all_within : (at : Place) (split : Bool) (macros : ℕ) (prefix rest : List ℕ)
    → LieBetween at (place_past at prefix) (findings_of (concat_of (take (length prefix + 1) (note_events split macros (placed_characters_from at (prefix ++ rest))))))
unfolding note_events
all_within at split macros prefix rest = through at split macros prefix rest [] at (up_to_self at) tt

-- ---- marks

-- the end of a snippet is its mark
mark_is : (split : Bool) (c : ℕ) → ((c == 41) || (split && (c == 124))) ≡ true → IsMarkOf split (end_by_mark c) c
mark_is split c h = grind arith

end_marked : (split : Bool) (back : List Char) (x : Char) → is_end split (point back x) ≡ true → EndWithMark split x.c (at_end (point back x))
end_marked split back x e = go (is_snippet gabc (kept back)) (is_fused back)
  where
    mark : IsMarkOf split (end_by_mark x.c) x.c
    mark = mark_is split x.c (and_parts (not (in_raw (kept back))) ((x.c == 41) || (split && (x.c == 124))) (and_parts (not (is_comment (point back x))) _ e).1).1

    go : (a b : Bool) → EndWithMark split x.c (cond a [] (finding_event x.place E6 ∷ []) ++ (cond b (finding_event x.place W10 ∷ []) [] ++ Ended (end_by_mark x.c) (bytes_of (trim gabc (kept back))) ∷ []))
    go true true = record { before = finding_event x.place W10 ∷ []; how = end_by_mark x.c; bytes = bytes_of (trim gabc (kept back)); cut = refl; endless = refl; mark = mark }
    go true false = record { before = []; how = end_by_mark x.c; bytes = bytes_of (trim gabc (kept back)); cut = refl; endless = refl; mark = mark }
    go false true = record { before = finding_event x.place E6 ∷ finding_event x.place W10 ∷ []; how = end_by_mark x.c; bytes = bytes_of (trim gabc (kept back)); cut = refl; endless = refl; mark = mark }
    go false false = record { before = finding_event x.place E6 ∷ []; how = end_by_mark x.c; bytes = bytes_of (trim gabc (kept back)); cut = refl; endless = refl; mark = mark }

pub ends_at_mark : (split : Bool) (macros : ℕ) (p : Point) → EndAtMost split p.here.c (events_at split macros p)
ends_at_mark split macros p = start (is_over split p.back) refl
  where
    start : (o : Bool) → is_over split p.back ≡ o → EndAtMost split p.here.c (events_at split macros p)
    start true o = inl (ap ends_of (nothing_over split macros p o))
    start false o = elim (is_emitted split macros p.back p.here o) [
      | inl n ↦ inl (goes split macros p.back p.here o n).ends
      | inr e ↦ inr (subst (EndWithMark split p.here.c) (sym e.1) (end_marked split p.back p.here e.0))
    ]

pub cut_at_most : (split : Bool) (back : List Char) → AreCutAtMost (cut_events split back)
cut_at_most split back = grind arith
