-- What becomes of a character of a snippet, by what is kept before it, is what is emitted of it.
use Rattle.std.proofs.Common.{◌≡◌, ℕ, List, [], ◌∷◌, ◌++◌, Bool, true, false, cond, not, ◌&&◌, ◌||◌, ◌==◌, refl, sym, ap, ◌∙◌, subst, arith, eqb-true, Option, Some, None}
use Rattle.std.proofs.lemmas.Bool.Decides.{nat_tests}
use Rattle.std.proofs.Math.Bool.{or-true}
use Rattle.gabc_places.specs.declared.code.Code.{Code}
use Rattle.gabc_places.specs.declared.code.Code.TheVariants.{E1, E6, W10}
use Rattle.gabc_places.specs.declared.place.Char.{Char}
use Rattle.gabc_places.specs.declared.place.Place.{Place}
use Rattle.gabc_places.specs.StageLaw.{silence}
use Rattle.gabc_patterns.specs.Derivative.{is_alive, is_viable as viable_by_steps}
use Rattle.gabc_patterns.specs.Function.{trim}
use Rattle.gabc_patterns.proofs.AutomatonsByTests.{reading_of}
use Rattle.gabc_notes.specs.Table.{gabc}
use Rattle.gabc_notes.specs.Events.{in_raw as raw_by_steps, with_comments, ends_in_comment, kept, kept_with, is_kept, is_comment, is_fused, opener, finding_event, end_by_mark, bytes_of, is_end, is_over, warnings, at_end, events_at, note_events_after}
use Rattle.gabc_notes.specs.machine.ItemMachine.{raw_state}
use Rattle.gabc_notes.specs.declared.state.ItemState.{ItemState}
use Rattle.gabc_notes.specs.declared.state.ItemState.TheVariants.{Start}
use Rattle.gabc_notes.specs.declared.stage.NoteEnd.TheVariants.{Cut}
use Rattle.gabc_notes.specs.declared.stage.NoteEvent.{NoteEvent}
use Rattle.gabc_notes.specs.declared.stage.NoteEvent.TheVariants.{Kept, Ended}
use Rattle.gabc_notes.proofs.machine.MachineReadsTable.{machine, snippets_read}
use Rattle.gabc_notes.proofs.machine.OneCharacterMore.{point, kept_more, kept_same, opener_more}
use Rattle.gabc_notes.proofs.grammar.LawsOfKeptTexts.{kinds_are_one}
use Rattle.gabc_notes.proofs.grammar.InsideRawIsAnOpenBracket.{on, walk_from, walk_append, is_raw, walked, raw_emitted, raw_stays}
use Rattle.gabc_notes.proofs.grammar.SnippetIsReadAgain.{plain_outside}
use Rattle.gabc_patterns.specs.Reads.{whole_front}
use Rattle.gabc_places.specs.Fate.{Fate, Keep, Comment, Ends, LeaveOut}
use Rattle.gabc_notes.specs.KeptNotes.{is_snippet, is_viable, in_raw, fate_in_notes, found_in_notes, items_back, is_fused as fused_by}
use Rattle.gabc_notes.specs.witness.NotesByKept.{all_found, emitted_by, kept_by, inner_by, opens, ends, events_past}
use Rattle.gabc_notes.proofs.by_kept.NotesViable.{viable_same, snippet_same, raw_same}
use Rattle.gabc_patterns.proofs.WholeFront.{front_is_trim}

-- ---- inside raw each character goes on

is_some_state : Option ItemState → Bool
is_some_state None = false
is_some_state (Some s) = true

raw_closes : (s : ItemState) → raw_state s ≡ true → is_some_state (on s 93) ≡ true
unfolding is_some_state
raw_closes s e = grind arith

raw_takes : (s : ItemState) (c : ℕ) → raw_state s ≡ true → is_some_state (on s c) ≡ true
unfolding is_some_state
raw_takes s c e = go (c == 93) refl
  where
    go : (b : Bool) → c == 93 ≡ b → is_some_state (on s c) ≡ true
    go true f = subst (λ (d : ℕ). is_some_state (on s d) ≡ true) (sym (eqb-true c 93 f)) (raw_closes s e)
    go false f = ap is_some_state (raw_stays s c e f)

alive_walk : (o : Option ItemState) → is_some_state o ≡ true → is_alive (reading_of gabc machine o) ≡ true
unfolding is_some_state
alive_walk None e = absurd (cc)
alive_walk (Some s) e = snippets_read.alive s

pub raw_goes_on : (t : List ℕ) (c : ℕ) → raw_by_steps t ≡ true → viable_by_steps gabc (t ++ c ∷ []) ≡ true
raw_goes_on t c h =
    ap is_alive (walked (t ++ c ∷ [])) ∙ (ap (λ (o : Option ItemState). is_alive (reading_of gabc machine o)) (walk_append (Some Start) t (c ∷ []))
    ∙ go (walk_from (Some Start) t) (sym (raw_emitted t) ∙ h))
  where
    go : (o : Option ItemState) → is_raw o ≡ true → is_alive (reading_of gabc machine (walk_from o (c ∷ []))) ≡ true
    go None e = absurd (cc)
    go (Some s) e = alive_walk (on s c) (raw_takes s c e)

-- ---- the fate by tests

abbrev is_mark : Bool → ℕ → Bool
is_mark split c = (c == 41) || (split && (c == 124))

abbrev fate_of : Bool → Bool → Bool → Bool → Fate
fate_of raw percent mark viable = cond raw Keep (cond percent Comment (cond mark Ends (cond viable Keep (LeaveOut (Some E1)))))

fate_is : (split : Bool) (k : List ℕ) (c : ℕ) → fate_in_notes split k c ≡ fate_of (raw_by_steps k) (c == 37) (is_mark split c) (viable_by_steps gabc (k ++ c ∷ []))
fate_is split k c =
    ap (λ (b : Bool). fate_of b (c == 37) (is_mark split c) (is_viable (k ++ c ∷ []))) (raw_same k)
    ∙ ap (fate_of (raw_by_steps k) (c == 37) (is_mark split c)) (viable_same (k ++ c ∷ []))

-- no comment is open, or it ends here
abbrev IsOutside : List Char → ℕ → Type 0
IsOutside back c = (ends_in_comment (with_comments back) && not (c == 10)) ≡ false

comment_is : (back : List Char) (x : Char) → IsOutside back x.c → is_comment (point back x) ≡ not (raw_by_steps (kept back)) && (x.c == 37)
comment_is back x o = by (ends_in_comment (with_comments back)) (raw_by_steps (kept back)) o
  where
    by : (a r : Bool) → (a && not (x.c == 10)) ≡ false → (not (x.c == 10) && (a || (not r && (x.c == 37)))) ≡ not r && (x.c == 37)
    by a r e = grind (arith, nat_tests)

inside_comment : (back : List Char) (x : Char) → (ends_in_comment (with_comments back) && not (x.c == 10)) ≡ true → is_comment (point back x) ≡ true
inside_comment back x o = by (ends_in_comment (with_comments back)) (raw_by_steps (kept back)) o
  where
    by : (a r : Bool) → (a && not (x.c == 10)) ≡ true → (not (x.c == 10) && (a || (not r && (x.c == 37)))) ≡ true
    by a r e = grind arith

apart : (split : Bool) (c : ℕ) → (c == 37) ≡ true → is_mark split c ≡ false
apart split c e = grind (arith, nat_tests)

pub end_is : (split : Bool) (back : List Char) (x : Char) → IsOutside back x.c → is_end split (point back x) ≡ ends (fate_in_notes split (kept back) x.c)
end_is split back x o =
    ap (λ (b : Bool). not b && (not (raw_by_steps (kept back)) && is_mark split x.c)) (comment_is back x o)
    ∙ (by (raw_by_steps (kept back)) (x.c == 37) (is_mark split x.c) (viable_by_steps gabc (kept back ++ x.c ∷ [])) (apart split x.c) ∙ ap ends (sym (fate_is split (kept back) x.c)))
  where
    by : (r p m v : Bool) → (p ≡ true → m ≡ false) → (not (not r && p) && (not r && m)) ≡ ends (fate_of r p m v)
    by r p m v F = grind arith

pub opens_is : (split : Bool) (back : List Char) (x : Char) → IsOutside back x.c → is_comment (point back x) ≡ opens (fate_in_notes split (kept back) x.c)
opens_is split back x o = comment_is back x o ∙ (by (raw_by_steps (kept back)) (x.c == 37) (is_mark split x.c) (viable_by_steps gabc (kept back ++ x.c ∷ [])) ∙ ap opens (sym (fate_is split (kept back) x.c)))
  where
    by : (r p m v : Bool) → (not r && p) ≡ opens (fate_of r p m v)
    by r p m v = grind arith

-- a mark outside raw is not kept
mark_not_kept : (split : Bool) (k : List ℕ) (c : ℕ) → raw_by_steps k ≡ false → is_mark split c ≡ true → viable_by_steps gabc (k ++ c ∷ []) ≡ false
mark_not_kept split k c r m = go (viable_by_steps gabc (k ++ c ∷ [])) refl
  where
    go : (v : Bool) → viable_by_steps gabc (k ++ c ∷ []) ≡ v → v ≡ false
    go false e = refl
    go true e = let h = plain_outside k c e r in let a = h.no_bracket in let b = h.no_bar in absurd (clash split (c == 41) (c == 124) m a b)
      where
        clash : (s a b : Bool) → a || (s && b) ≡ true → a ≡ false → b ≡ false → ⊥
        clash s a b e f g = grind arith

-- of the fates one keeps the character
abbrev fates_keep : Fate → Bool
fates_keep Keep = true
fates_keep _ = false

keeps_is : (split : Bool) (back : List Char) (x : Char) → IsOutside back x.c → is_kept (point back x) ≡ fates_keep (fate_in_notes split (kept back) x.c)
keeps_is split back x o =
    ap (λ (b : Bool). not b && viable_by_steps gabc (kept back ++ x.c ∷ [])) (comment_is back x o)
    ∙ (by (raw_by_steps (kept back)) (x.c == 37) (is_mark split x.c) (viable_by_steps gabc (kept back ++ x.c ∷ [])) (raw_goes_on (kept back) x.c) (mark_not_kept split (kept back) x.c) ∙ ap fates_keep (sym (fate_is split (kept back) x.c)))
  where
    by : (r p m v : Bool) → (r ≡ true → v ≡ true) → (r ≡ false → m ≡ true → v ≡ false) → (not (not r && p) && v) ≡ fates_keep (fate_of r p m v)
    by r p m v F G = grind arith

pub kept_is : (split : Bool) (back : List Char) (x : Char) → IsOutside back x.c → kept (x ∷ back) ≡ kept_by (fate_in_notes split (kept back) x.c) (kept back) x.c
kept_is split back x o = go (is_comment (point back x)) refl (is_kept (point back x)) refl (fate_in_notes split (kept back) x.c) (keeps_is split back x o)
  where
    after : (b v : Bool) → b ≡ false → is_comment (point back x) ≡ b → (not b && viable_by_steps gabc (kept_with (point back x))) ≡ v → kept (x ∷ back) ≡ cond v (kept_with (point back x)) (kept back)
    after b v n e f = kept_more back x (e ∙ n) ∙ ap (λ (w : Bool). cond w (kept_with (point back x)) (kept back)) (ap (λ (a : Bool). not a && viable_by_steps gabc (kept_with (point back x))) (sym n) ∙ f)

    by : (f : Fate) (v : Bool) → v ≡ fates_keep f → cond v (kept_with (point back x)) (kept back) ≡ kept_by f (kept back) x.c
    by f v e = grind arith

    go : (b : Bool) → is_comment (point back x) ≡ b → (v : Bool) → is_kept (point back x) ≡ v → (f : Fate) → is_kept (point back x) ≡ fates_keep f → kept (x ∷ back) ≡ kept_by f (kept back) x.c
    go true e v g f h = kept_same back x e ∙ by f false (sym (ap (λ (a : Bool). not a && viable_by_steps gabc (kept_with (point back x))) e) ∙ h)
    go false e v g f h = after false v refl e (sym (ap (λ (a : Bool). not a && viable_by_steps gabc (kept_with (point back x))) e) ∙ g) ∙ by f v (sym g ∙ h)

inner_is : (split : Bool) (back : List Char) (x : Char) → IsOutside back x.c → opener (x ∷ back) ≡ inner_by (fate_in_notes split (kept back) x.c) (kept back) (opener back) x.place
inner_is split back x o =
    opener_more back x ∙ (ap (λ (b : Bool). cond (b && not (raw_by_steps (kept back))) x.place (opener back)) (keeps_is split back x o)
    ∙ (ap (λ (b : Bool). cond (fates_keep (fate_in_notes split (kept back) x.c) && not b) x.place (opener back)) (sym (raw_same (kept back)))
    ∙ by (fate_in_notes split (kept back) x.c) (in_raw (kept back)) refl))
  where
    by : (f : Fate) (r : Bool) → in_raw (kept back) ≡ r → cond (fates_keep f && not r) x.place (opener back) ≡ inner_by f (kept back) (opener back) x.place
    by Keep true e = ap (λ (b : Bool). cond b (opener back) x.place) (sym e)
    by Keep false e = ap (λ (b : Bool). cond b (opener back) x.place) (sym e)
    by Comment r e = refl
    by Ends r e = refl
    by (LeaveOut code) r e = refl

-- ---- what is emitted

-- what is found with a character that is kept, and whether an `@[` is open, is said by items
abbrev pub IsFoundAlike : ℕ → Type 0
IsFoundAlike macros = (back : List Char) (x : Char) → is_kept (point back x) ≡ true → warnings macros (point back x) ≡ all_found (found_in_notes macros (kept_with (point back x))) (opener back) x.place

abbrev pub IsFusedAlike : Type 0
IsFusedAlike = (back : List Char) → is_fused back ≡ fused_by (items_back (kept back))

module _ (macros : ℕ) (found_alike : IsFoundAlike macros) (fused_alike : IsFusedAlike) where
  end_emitted : (back : List Char) (x : Char) → at_end (point back x) ≡ emitted_by macros Ends (kept back) (opener back) x
  end_emitted back x =
      ap (λ (b : Bool). cond b [] (finding_event x.place E6 ∷ []) ++ (cond (is_fused back) (finding_event x.place W10 ∷ []) [] ++ Ended (end_by_mark x.c) (bytes_of (trim gabc (kept back))) ∷ [])) (sym (snippet_same (kept back)))
      ∙ (ap (λ (b : Bool). cond (is_snippet (kept back)) [] (finding_event x.place E6 ∷ []) ++ (cond b (finding_event x.place W10 ∷ []) [] ++ Ended (end_by_mark x.c) (bytes_of (trim gabc (kept back))) ∷ [])) (fused_alike back)
      ∙ (ap (λ (w : List ℕ). cond (is_snippet (kept back)) [] (finding_event x.place E6 ∷ []) ++ (cond (fused_by (items_back (kept back))) (finding_event x.place W10 ∷ []) [] ++ Ended (end_by_mark x.c) (bytes_of w) ∷ [])) (sym (front_is_trim gabc refl kinds_are_one (kept back)))
      ∙ by (is_snippet (kept back)) (fused_by (items_back (kept back))) (Ended (end_by_mark x.c) (bytes_of (whole_front gabc (kept back))) ∷ [])))
    where
      by : (a b : Bool) (l : List NoteEvent) → cond a [] (finding_event x.place E6 ∷ []) ++ (cond b (finding_event x.place W10 ∷ []) [] ++ l) ≡ all_found (cond a [] (E6 ∷ []) ++ cond b (W10 ∷ []) []) (opener back) x.place ++ l
      by a b l = grind arith

  emitted_is : (split : Bool) (back : List Char) (x : Char) → IsOutside back x.c → is_over split back ≡ false
      → events_at split macros (point back x) ≡ emitted_by macros (fate_in_notes split (kept back) x.c) (kept back) (opener back) x
  emitted_is split back x o n =
      ap (λ (b : Bool). cond b [] (cond (is_end split (point back x)) (at_end (point back x)) (cond (is_comment (point back x)) [] (cond (is_kept (point back x)) (Kept x ∷ warnings macros (point back x)) (finding_event x.place E1 ∷ []))))) n
      ∙ go (fate_in_notes split (kept back) x.c) (fate_is split (kept back) x.c) (is_end split (point back x)) (end_is split back x o) (is_comment (point back x)) (opens_is split back x o) (is_kept (point back x)) (keeps_is split back x o) refl
    where
      go : (f : Fate) → f ≡ fate_of (raw_by_steps (kept back)) (x.c == 37) (is_mark split x.c) (viable_by_steps gabc (kept back ++ x.c ∷ []))
          → (e : Bool) → e ≡ ends f → (c : Bool) → c ≡ opens f → (k : Bool) → k ≡ fates_keep f → is_kept (point back x) ≡ k
          → cond e (at_end (point back x)) (cond c [] (cond k (Kept x ∷ warnings macros (point back x)) (finding_event x.place E1 ∷ []))) ≡ emitted_by macros f (kept back) (opener back) x
      go Keep same e f c g k h i = rw (f, g, h) (ap (λ (l : List NoteEvent). Kept x ∷ l) (found_alike back x (i ∙ h)))
      go Comment same e f c g k h i = rw (f, g) refl
      go Ends same e f c g k h i = rw f (end_emitted back x)
      go (LeaveOut None) same e f c g k h i = absurd (none (raw_by_steps (kept back)) (x.c == 37) (is_mark split x.c) (viable_by_steps gabc (kept back ++ x.c ∷ [])) same)
        where
          none : (r p m v : Bool) → LeaveOut None ≡ fate_of r p m v → ⊥
          none r p m v e = grind arith
      go (LeaveOut (Some code)) same e f c g k h i = rw (f, g, h) (ap (λ (d : Code). finding_event x.place d ∷ []) (one (raw_by_steps (kept back)) (x.c == 37) (is_mark split x.c) (viable_by_steps gabc (kept back ++ x.c ∷ [])) same))
        where
          one : (r p m v : Bool) → LeaveOut (Some code) ≡ fate_of r p m v → E1 ≡ code
          one r p m v e = grind arith

  -- ---- a whole snippet

  over : (split : Bool) (back xs : List Char) → is_over split back ≡ true → note_events_after split macros back xs ≡ silence xs
  over split back [] o = ap (λ (b : Bool). cond b [] (Ended (Cut (cond (raw_by_steps (kept back)) (opener back) (record { line = 0; column = 0 }))) (bytes_of (kept back)) ∷ []) ∷ []) o
  over split back (x ∷ xs) o = grind (arith, over split (x ∷ back) xs (ap (λ (b : Bool). is_end split (point back x) || b) o ∙ or-true (is_end split (point back x))))

  pub events_are : (split : Bool) (xs back : List Char) → is_over split back ≡ false
      → note_events_after split macros back xs ≡ events_past split macros (kept back) (opener back) (ends_in_comment (with_comments back)) xs
  events_are split [] back o =
      ap (λ (b : Bool). cond b [] (Ended (Cut (cond (raw_by_steps (kept back)) (opener back) (record { line = 0; column = 0 }))) (bytes_of (kept back)) ∷ []) ∷ []) o
      ∙ ap (λ (b : Bool). (Ended (Cut (cond b (opener back) (record { line = 0; column = 0 }))) (bytes_of (kept back)) ∷ []) ∷ []) (sym (raw_same (kept back)))
  events_are split (x ∷ xs) back o = go (ends_in_comment (with_comments back) && not (x.c == 10)) refl (λ p. events_are split xs (x ∷ back) p)
    where
      later : (b : Bool) → is_end split (point back x) ≡ b → IsOutside back x.c → (is_over split (x ∷ back) ≡ false → note_events_after split macros (x ∷ back) xs ≡ events_past split macros (kept (x ∷ back)) (opener (x ∷ back)) (is_comment (point back x)) xs)
          → note_events_after split macros (x ∷ back) xs
          ≡ cond b (silence xs) (events_past split macros (kept_by (fate_in_notes split (kept back) x.c) (kept back) x.c) (inner_by (fate_in_notes split (kept back) x.c) (kept back) (opener back) x.place) (opens (fate_in_notes split (kept back) x.c)) xs)
      later true e i F = over split (x ∷ back) xs (ap (λ (b : Bool). b || is_over split back) e)
      later false e i F =
          F (ap (λ (b : Bool). b || is_over split back) e ∙ o)
          ∙ (ap (λ (k : List ℕ). events_past split macros k (opener (x ∷ back)) (is_comment (point back x)) xs) (kept_is split back x i)
          ∙ (ap (λ (p : Place). events_past split macros (kept_by (fate_in_notes split (kept back) x.c) (kept back) x.c) p (is_comment (point back x)) xs) (inner_is split back x i)
          ∙ ap (λ (b : Bool). events_past split macros (kept_by (fate_in_notes split (kept back) x.c) (kept back) x.c) (inner_by (fate_in_notes split (kept back) x.c) (kept back) (opener back) x.place) b xs) (opens_is split back x i)))

      go : (b : Bool) → (ends_in_comment (with_comments back) && not (x.c == 10)) ≡ b
          → (is_over split (x ∷ back) ≡ false → note_events_after split macros (x ∷ back) xs ≡ events_past split macros (kept (x ∷ back)) (opener (x ∷ back)) (is_comment (point back x)) xs)
          → events_at split macros (point back x) ∷ note_events_after split macros (x ∷ back) xs
          ≡ cond b ([] ∷ events_past split macros (kept back) (opener back) true xs)
          (emitted_by macros (fate_in_notes split (kept back) x.c) (kept back) (opener back) x
          ∷ cond (ends (fate_in_notes split (kept back) x.c)) (silence xs) (events_past split macros (kept_by (fate_in_notes split (kept back) x.c) (kept back) x.c) (inner_by (fate_in_notes split (kept back) x.c) (kept back) (opener back) x.place) (opens (fate_in_notes split (kept back) x.c)) xs))
      go true e F =
          let c : is_comment (point back x) ≡ true = inside_comment back x e in
          let no : is_end split (point back x) ≡ false = ap (λ (b : Bool). not b && (not (raw_by_steps (kept back)) && is_mark split x.c)) c in
          let none : events_at split macros (point back x) ≡ [] = rw (o, no, c) refl in
          let place : opener (x ∷ back) ≡ opener back = opener_more back x ∙ ap (λ (b : Bool). cond ((not b && viable_by_steps gabc (kept_with (point back x))) && not (raw_by_steps (kept back))) x.place (opener back)) c in
          ap (λ (l : List NoteEvent). l ∷ note_events_after split macros (x ∷ back) xs) none
          ∙ ap (λ (l : List (List NoteEvent)). [] ∷ l)
          (F (ap (λ (b : Bool). b || is_over split back) no ∙ o)
          ∙ (ap (λ (k : List ℕ). events_past split macros k (opener (x ∷ back)) (is_comment (point back x)) xs) (kept_same back x c)
          ∙ (ap (λ (p : Place). events_past split macros (kept back) p (is_comment (point back x)) xs) place
          ∙ ap (λ (b : Bool). events_past split macros (kept back) (opener back) b xs) c)))
      go false e F =
          ap (λ (l : List NoteEvent). l ∷ note_events_after split macros (x ∷ back) xs) (emitted_is split back x e o)
          ∙ ap (λ (l : List (List NoteEvent)). emitted_by macros (fate_in_notes split (kept back) x.c) (kept back) (opener back) x ∷ l)
          (later (ends (fate_in_notes split (kept back) x.c)) (end_is split back x e) e F)
