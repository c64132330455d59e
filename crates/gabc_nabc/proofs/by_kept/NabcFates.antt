-- What becomes of a character of an NABC snippet, by what is kept before it, is what is emitted of it.
use Rattle.std.proofs.Common.{◌≡◌, ℕ, List, [], ◌∷◌, ◌++◌, Bool, true, false, cond, not, ◌&&◌, ◌||◌, ◌==◌, refl, sym, ap, ◌∙◌, arith, Some, None}
use Rattle.std.proofs.lemmas.Bool.Decides.{nat_tests}
use Rattle.gabc_places.specs.declared.code.Code.{Code}
use Rattle.gabc_places.specs.declared.code.Code.TheVariants.{E3, E6, W7}
use Rattle.gabc_places.specs.declared.place.Char.{Char}
use Rattle.gabc_places.specs.StageLaw.{silence}
use Rattle.gabc_patterns.specs.Derivative.{is_snippet as snippet_by_steps, is_viable as viable_by_steps}
use Rattle.gabc_patterns.specs.Function.{trim}
use Rattle.gabc_patterns.specs.Pattern.{is_in}
use Rattle.gabc_notes.specs.Events.{finding_event, end_by_mark}
use Rattle.gabc_notes.specs.declared.stage.NoteEnd.TheVariants.{Cut}
use Rattle.gabc_notes.specs.declared.stage.NoteEvent.{NoteEvent}
use Rattle.gabc_notes.specs.declared.stage.NoteEvent.TheVariants.{Kept, Ended}
use Rattle.gabc_nabc.specs.Table.{nabc}
use Rattle.gabc_nabc.specs.Names.{is_known}
use Rattle.gabc_nabc.specs.Events.{in_comment, is_character, is_end, has_end, kept_of, is_code, begins_code, joins, takes_code, last_of, before_last, first_after, first_of, is_missing, bytes_in, end_events, character_events, events_at, nabc_events_after, nabc_events}
use Rattle.gabc_nabc.specs.witness.DescriptorMachine.{comment_in}
use Rattle.gabc_nabc.proofs.machine.TextWithACharacterMore.{comment_more, end_more, kept_more, kept_same}
use Rattle.gabc_nabc.proofs.grammar.LawsOfEvents.{kinds_are_one}
use Rattle.gabc_places.specs.Fate.{Fate, Keep, Comment, Ends, LeaveOut}
use Rattle.gabc_nabc.specs.KeptNabc.{fate_in_nabc, found_of_code, found_in_nabc, found_at_end}
use Rattle.gabc_notes.specs.witness.NotesByKept.{all_found, kept_by, opens, ends}
use Rattle.gabc_nabc.specs.witness.NabcByKept.{emitted_by, events_past}
use Rattle.gabc_nabc.proofs.by_kept.NabcViable.{viable_same, snippet_same}
use Rattle.gabc_patterns.proofs.WholeFront.{front_is_trim}

-- the fate by the tests
abbrev fate_of : Bool → Bool → Bool → Bool → Fate
fate_of percent mark blank viable = cond percent Comment (cond mark Ends (cond blank (LeaveOut None) (cond viable Keep (LeaveOut (Some E3)))))

abbrev is_mark : ℕ → Bool
is_mark c = (c == 41) || (c == 124)

abbrev is_blank : ℕ → Bool
is_blank c = is_in c (32 ∷ 9 ∷ 10 ∷ [])

swap_eq : (a b : ℕ) → (a == b) ≡ (b == a)
swap_eq a b = grind (arith, nat_tests)

character_is : (t : List ℕ) (c : ℕ) → in_comment t ≡ false → is_character t c ≡ not ((c == 37) || is_blank c)
character_is t c n = ap (λ (b : Bool). not b && not (is_in c (37 ∷ 32 ∷ 9 ∷ 10 ∷ []))) n ∙ ap (λ (b : Bool). not (b || is_blank c)) (swap_eq 37 c)

end_is : (t : List ℕ) (c : ℕ) → in_comment t ≡ false → is_end t c ≡ is_mark c
end_is t c n = ap (λ (b : Bool). not b && is_mark c) n

-- a `%` is no mark and no blank
apart_percent : (c : ℕ) → (c == 37) ≡ true → (is_mark c ≡ false) × (is_blank c ≡ false)
apart_percent c e = grind (arith, nat_tests)

fate_is : (kept : List ℕ) (c : ℕ) → fate_in_nabc kept c ≡ fate_of (c == 37) (is_mark c) (is_blank c) (viable_by_steps nabc (kept ++ c ∷ []))
fate_is kept c = ap (fate_of (c == 37) (is_mark c) (is_blank c)) (viable_same (kept ++ c ∷ []))

-- what is found with a character that is kept is W7 of a code without a name
code_is : (before : List ℕ) (a c : ℕ) → found_of_code before (a ∷ []) c ≡ cond (is_missing (first_after before (a ∷ [])) c) (W7 ∷ []) []
code_is before a c =
    ap (λ (s : Bool). cond ((s || joins before) && (is_code a c && not (is_known a c))) (W7 ∷ []) []) (snippet_same before)
    ∙ go (takes_code before) (begins_code a) refl
  where
    go : (t b : Bool) → begins_code a ≡ b → cond (t && (is_code a c && not (is_known a c))) (W7 ∷ []) [] ≡ cond (is_missing (cond (t && b) (Some a) None) c) (W7 ∷ []) []
    go false b e = refl
    go true true e = refl
    go true false e = rw e refl

found_is : (kept : List ℕ) (c : ℕ) → found_in_nabc kept c ≡ cond (is_missing (first_of kept) c) (W7 ∷ []) []
found_is kept c = by (last_of kept)
  where
    by : (t : List ℕ) → found_of_code (before_last kept) t c ≡ cond (is_missing (first_after (before_last kept) t) c) (W7 ∷ []) []
    by [] = refl
    by (a ∷ []) = code_is (before_last kept) a c
    by (a ∷ b ∷ t) = refl

found_one : (b : Bool) (x : Char) → all_found (cond b (W7 ∷ []) []) x.place x.place ≡ cond b (finding_event x.place W7 ∷ []) []
found_one true x = refl
found_one false x = refl

end_found : (b : Bool) (x : Char) → all_found (cond b [] (E6 ∷ [])) x.place x.place ≡ cond b [] (finding_event x.place E6 ∷ [])
end_found true x = refl
end_found false x = refl

end_is_emitted : (kept : List ℕ) (x : Char) → end_events kept x ≡ emitted_by Ends kept x
end_is_emitted kept x =
    ap (λ (f : List NoteEvent). f ++ Ended (end_by_mark x.c) (bytes_in (trim nabc kept)) ∷ []) (sym (ap (λ (b : Bool). all_found (cond b [] (E6 ∷ [])) x.place x.place) (snippet_same kept) ∙ end_found (snippet_by_steps nabc kept) x))
    ∙ ap (λ (w : List ℕ). all_found (found_at_end kept) x.place x.place ++ Ended (end_by_mark x.c) (bytes_in w) ∷ []) (sym (front_is_trim nabc refl kinds_are_one kept))

character_is_emitted : (kept : List ℕ) (x : Char)
    → character_events kept x ≡ emitted_by (cond (viable_by_steps nabc (kept ++ x.c ∷ [])) Keep (LeaveOut (Some E3))) kept x
character_is_emitted kept x = go (viable_by_steps nabc (kept ++ x.c ∷ [])) refl
  where
    go : (v : Bool) → viable_by_steps nabc (kept ++ x.c ∷ []) ≡ v
        → cond v (Kept x ∷ cond (is_missing (first_of kept) x.c) (finding_event x.place W7 ∷ []) []) (finding_event x.place E3 ∷ []) ≡ emitted_by (cond v Keep (LeaveOut (Some E3))) kept x
    go true e = ap (λ (f : List NoteEvent). Kept x ∷ f) (sym (ap (λ (f : List Code). all_found f x.place x.place) (found_is kept x.c) ∙ found_one (is_missing (first_of kept) x.c) x))
    go false e = refl

-- what is emitted of a character
pub emitted_is : (t : List ℕ) (x : Char) → has_end t ≡ false → in_comment t ≡ false → events_at t x ≡ emitted_by (fate_in_nabc (kept_of t) x.c) (kept_of t) x
emitted_is t x o n =
    ap (λ (b : Bool). cond b [] (cond (is_end t x.c) (end_events (kept_of t) x) (cond (is_character t x.c) (character_events (kept_of t) x) []))) o
    ∙ (ap (λ (b : Bool). cond b (end_events (kept_of t) x) (cond (is_character t x.c) (character_events (kept_of t) x) [])) (end_is t x.c n)
    ∙ (ap (λ (b : Bool). cond (is_mark x.c) (end_events (kept_of t) x) (cond b (character_events (kept_of t) x) [])) (character_is t x.c n)
    ∙ (go (x.c == 37) (is_mark x.c) (is_blank x.c) refl refl refl
    ∙ ap (λ (f : Fate). emitted_by f (kept_of t) x) (sym (fate_is (kept_of t) x.c)))))
  where
    go : (p m b : Bool) → (x.c == 37) ≡ p → is_mark x.c ≡ m → is_blank x.c ≡ b
        → cond m (end_events (kept_of t) x) (cond (not (p || b)) (character_events (kept_of t) x) []) ≡ emitted_by (fate_of p m b (viable_by_steps nabc (kept_of t ++ x.c ∷ []))) (kept_of t) x
    go true true b e f g = absurd (let h = (apart_percent x.c e).0 in cc)
    go true false b e f g = refl
    go false true b e f g = end_is_emitted (kept_of t) x
    go false false true e f g = refl
    go false false false e f g = character_is_emitted (kept_of t) x

-- what is kept with it
pub kept_with_it : (t : List ℕ) (c : ℕ) → in_comment t ≡ false → is_mark c ≡ false → kept_of (t ++ c ∷ []) ≡ kept_by (fate_in_nabc (kept_of t) c) (kept_of t) c
kept_with_it t c n m = go (c == 37) (is_blank c) refl refl ∙ ap (λ (f : Fate). kept_by f (kept_of t) c) (sym (fate_is (kept_of t) c ∙ ap (λ (b : Bool). fate_of (c == 37) b (is_blank c) (viable_by_steps nabc (kept_of t ++ c ∷ []))) m))
  where
    test : (v : Bool) → cond v (kept_of t ++ c ∷ []) (kept_of t) ≡ kept_by (cond v Keep (LeaveOut (Some E3))) (kept_of t) c
    test true = refl
    test false = refl

    go : (p b : Bool) → (c == 37) ≡ p → is_blank c ≡ b → kept_of (t ++ c ∷ []) ≡ kept_by (fate_of p false b (viable_by_steps nabc (kept_of t ++ c ∷ []))) (kept_of t) c
    go true b e f = kept_same t c (character_is t c n ∙ rw e refl)
    go false true e f = kept_same t c (character_is t c n ∙ rw (e, f) refl)
    go false false e f = kept_more t c (character_is t c n ∙ rw (e, f) refl) ∙ test (viable_by_steps nabc (kept_of t ++ c ∷ []))

pub opens_with_it : (t : List ℕ) (c : ℕ) → in_comment t ≡ false → in_comment (t ++ c ∷ []) ≡ opens (fate_in_nabc (kept_of t) c)
opens_with_it t c n = comment_more t c ∙ (ap (λ (b : Bool). comment_in b c) n ∙ (go (c == 37) (is_mark c) (is_blank c) (viable_by_steps nabc (kept_of t ++ c ∷ [])) refl ∙ ap opens (sym (fate_is (kept_of t) c))))
  where
    go : (p m b v : Bool) → (c == 37) ≡ p → comment_in false c ≡ opens (fate_of p m b v)
    go p m b v e = grind (arith, nat_tests)

pub ends_with_it : (t : List ℕ) (c : ℕ) → in_comment t ≡ false → is_end t c ≡ ends (fate_in_nabc (kept_of t) c)
ends_with_it t c n = end_is t c n ∙ (go (c == 37) (is_mark c) (is_blank c) (viable_by_steps nabc (kept_of t ++ c ∷ [])) refl refl ∙ ap ends (sym (fate_is (kept_of t) c)))
  where
    go : (p m b v : Bool) → (c == 37) ≡ p → is_mark c ≡ m → m ≡ ends (fate_of p m b v)
    go true m b v e f = sym f ∙ (apart_percent c e).0
    go false true b v e f = refl
    go false false true v e f = refl
    go false false false true e f = refl
    go false false false false e f = refl

-- ---- a whole snippet

line_end : (c : ℕ) → comment_in true c ≡ not (c == 10)
line_end c = grind (arith, nat_tests)

over : (t : List ℕ) (xs : List Char) → has_end t ≡ true → nabc_events_after t xs ≡ silence xs
over t [] o = ap (λ (b : Bool). cond b [] (Ended (Cut (record { line = 0; column = 0 })) (bytes_in (kept_of t)) ∷ []) ∷ []) o
over t (x ∷ xs) o = grind (arith, end_more, over (t ++ x.c ∷ []) xs (end_more t x.c ∙ ap (λ (a : Bool). a || is_end t x.c) o))

pub events_are : (xs : List Char) (t : List ℕ) → has_end t ≡ false → nabc_events_after t xs ≡ events_past (kept_of t) (in_comment t) xs
events_are [] t o = ap (λ (b : Bool). cond b [] (Ended (Cut (record { line = 0; column = 0 })) (bytes_in (kept_of t)) ∷ []) ∷ []) o
events_are (x ∷ xs) t o = go (in_comment t) refl (λ p. events_are xs (t ++ x.c ∷ []) p)
  where
    u : List ℕ
    u = t ++ x.c ∷ []

    later : (b : Bool) → in_comment t ≡ false → is_end t x.c ≡ b → (has_end u ≡ false → nabc_events_after u xs ≡ events_past (kept_of u) (in_comment u) xs)
        → nabc_events_after u xs ≡ cond b (silence xs) (events_past (kept_by (fate_in_nabc (kept_of t) x.c) (kept_of t) x.c) (opens (fate_in_nabc (kept_of t) x.c)) xs)
    later true n e F = over u xs (end_more t x.c ∙ (ap (λ (b : Bool). has_end t || b) e ∙ ap (λ (b : Bool). b || true) o))
    later false n e F =
        F (end_more t x.c ∙ (ap (λ (b : Bool). has_end t || b) e ∙ ap (λ (b : Bool). b || false) o))
        ∙ (ap (λ (k : List ℕ). events_past k (in_comment u) xs) (kept_with_it t x.c n (sym (end_is t x.c n) ∙ e))
        ∙ ap (λ (b : Bool). events_past (kept_by (fate_in_nabc (kept_of t) x.c) (kept_of t) x.c) b xs) (opens_with_it t x.c n))

    go : (b : Bool) → in_comment t ≡ b → (has_end u ≡ false → nabc_events_after u xs ≡ events_past (kept_of u) (in_comment u) xs)
        → events_at t x ∷ nabc_events_after u xs ≡ events_past (kept_of t) b (x ∷ xs)
    go true n F =
        let no : is_end t x.c ≡ false = ap (λ (b : Bool). not b && is_mark x.c) n in
        let none : events_at t x ≡ [] = rw (o, n) refl in
        let same : kept_of u ≡ kept_of t = kept_same t x.c (rw n refl) in
        let opened : in_comment u ≡ not (x.c == 10) = comment_more t x.c ∙ (ap (λ (b : Bool). comment_in b x.c) n ∙ line_end x.c) in
        ap (λ (l : List NoteEvent). l ∷ nabc_events_after u xs) none
        ∙ ap (λ (l : List (List NoteEvent)). [] ∷ l)
        (F (end_more t x.c ∙ (ap (λ (b : Bool). has_end t || b) no ∙ ap (λ (b : Bool). b || false) o))
        ∙ (ap (λ (k : List ℕ). events_past k (in_comment u) xs) same ∙ ap (λ (b : Bool). events_past (kept_of t) b xs) opened))
    go false n F =
        ap (λ (l : List NoteEvent). l ∷ nabc_events_after u xs) (emitted_is t x o n)
        ∙ ap (λ (l : List (List NoteEvent)). emitted_by (fate_in_nabc (kept_of t) x.c) (kept_of t) x ∷ l)
        (later (ends (fate_in_nabc (kept_of t) x.c)) n (ends_with_it t x.c n) F)

pub all_events_are : (xs : List Char) → nabc_events xs ≡ events_past [] false xs
all_events_are xs = events_are xs [] refl

pub kept_at_no_end : (t : List ℕ) (c : ℕ) → in_comment t ≡ false → is_end t c ≡ false → kept_of (t ++ c ∷ []) ≡ kept_by (fate_in_nabc (kept_of t) c) (kept_of t) c
kept_at_no_end t c n e = kept_with_it t c n (sym (end_is t c n) ∙ e)
