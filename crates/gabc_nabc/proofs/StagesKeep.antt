-- A stage keeps the text that it has kept.
use Rattle.std.proofs.Common.{◌≡◌, ◌==◌, ◌&&◌, ◌||◌, not, ℕ, List, [], ◌∷◌, ◌++◌, Bool, true, false, Option, is_some, length, drop, map, refl, sym, ap, ◌∙◌, subst, inl, inr, append-nil, append_assoc, if◌then◌else◌, arith}
use Rattle.std.proofs.Math.Seq.{drop-append_seam}
use Rattle.std.proofs.lemmas.Bool.{true≢false}
use Rattle.std.proofs.lemmas.List.{same_from_push}
use Rattle.gabc_places.specs.BoundedList.{BoundedList, extended_by}
use Rattle.gabc_places.specs.declared.code.Code.TheVariants.{E3, W7}
use Rattle.gabc_places.specs.declared.place.Char.{Char}
use Rattle.gabc_places.specs.declared.place.Place.{Place}
use Rattle.gabc_patterns.specs.Pattern.{is_in}
use Rattle.gabc_patterns.specs.Derivative.{is_viable}
use Rattle.gabc_patterns.proofs.LongestPrefixIsOne.{split_push}
use Rattle.gabc_notes.specs.Events.{finding_event}
use Rattle.gabc_notes.specs.witness.Keeps.{set_down}
use Rattle.gabc_notes.specs.SnippetRead.{kept_of as kept_in, ends_of}
use Rattle.gabc_notes.specs.declared.stage.NoteEnd.TheVariants.{Cut}
use Rattle.gabc_notes.specs.declared.stage.NoteEvent.{NoteEvent}
use Rattle.gabc_notes.specs.declared.stage.NoteEvent.TheVariants.{Kept, Ended}
use Rattle.gabc_nabc.specs.Table.{nabc}
use Rattle.gabc_nabc.specs.Events.{in_comment, has_end, kept_of, is_missing, first_of, bytes_in, end_events, character_events, events_at, nabc_events_after, nabc_events}
use Rattle.gabc_nabc.specs.witness.Keeps.{comment_of, is_end_after, kept_after, IsKeptAgain, IsKeptWhole, with_comment, Keeps, GoesOn, EndsAfter, KeepsOn}
use Rattle.gabc_nabc.specs.witness.DescriptorMachine.{comment_in, stage_events_at, stage_after, stage_moved_on, role_at, facts_at, next_at, events_left}
use Rattle.gabc_nabc.specs.declared.stage.NabcRole.{NabcRole}
use Rattle.gabc_nabc.specs.declared.stage.NabcRole.TheVariants.{Silent, Ends, Keep, LeaveOut}
use Rattle.gabc_nabc.specs.declared.stage.NabcStage.{NabcStage}
use Rattle.gabc_nabc.specs.declared.state.DescriptorState.{DescriptorState}
use Rattle.gabc_nabc.proofs.machine.TextWithACharacterMore.{comment_more, end_more, kept_more, kept_same}

-- ---- what is emitted after a text, by its kept text and whether a comment is open

-- what is emitted of a character
abbrev events_by : Bool → List ℕ → Char → List NoteEvent
events_by m k x = if is_end_after m x.c then end_events k x else (if not m && not (is_in x.c (37 ∷ 32 ∷ 9 ∷ 10 ∷ [])) then character_events k x else [])

kept_next : (t : List ℕ) (c : ℕ) → kept_of (t ++ c ∷ []) ≡ kept_after (kept_of t) (in_comment t) c
kept_next t c = grind (arith, kept_more, kept_same)

-- two texts are alike in what matters
record AreAlike (t u : List ℕ) : Type 0 where
  pub ends : has_end t ≡ has_end u
  pub comment : in_comment t ≡ in_comment u
  pub kept : kept_of t ≡ kept_of u

same_after : (xs : List Char) (t u : List ℕ) → AreAlike t u → nabc_events_after t xs ≡ nabc_events_after u xs
same_after [] t u h = cc
same_after (x ∷ xs) t u h =
    ap (λ (events : List NoteEvent). events ∷ nabc_events_after (t ++ x.c ∷ []) xs)
    (ap (λ (b : Bool). if b then [] else events_by (in_comment t) (kept_of t) x) h.ends
    ∙ ap (λ (b : Bool). if has_end u then [] else events_by b (kept_of t) x) h.comment
    ∙ ap (λ (k : List ℕ). if has_end u then [] else events_by (in_comment u) k x) h.kept)
    ∙ ap (λ (lists : List (List NoteEvent)). events_at u x ∷ lists) (same_after xs (t ++ x.c ∷ []) (u ++ x.c ∷ []) next)
  where
    next : AreAlike (t ++ x.c ∷ []) (u ++ x.c ∷ [])
    next = grind (arith, end_more, comment_more, kept_next)

-- ---- a text that is kept whole

-- the text has no end, k is kept of it, and m says whether a comment is open
record TextIs (k : List ℕ) (m : Bool) (t : List ℕ) : Type 0 where
  pub no_end : has_end t ≡ false
  pub comment : in_comment t ≡ m
  pub kept : kept_of t ≡ k

text_on : (k : List ℕ) (m : Bool) (t : List ℕ) (c : ℕ) → TextIs k m t → is_end_after m c ≡ false → TextIs (kept_after k m c) (comment_in m c) (t ++ c ∷ [])
text_on k m t c h e = grind (arith, end_more, comment_more, kept_next)

text_whole : (t k : List ℕ) → TextIs t false t → ((before more : List ℕ) (c : ℕ) → t ++ k ≡ before ++ c ∷ more → IsKeptAgain before c) → TextIs (t ++ k) false (t ++ k)
text_whole t [] h w = subst (λ (u : List ℕ). TextIs u false u) (sym (append-nil t)) h
text_whole t (c ∷ k) h w =
    let again = w t k c refl in
    let one = text_on t false t c h again.goes_on in
    let next : TextIs (t ++ c ∷ []) false (t ++ c ∷ []) = record { no_end = one.no_end; comment = one.comment ∙ again.no_comment; kept = one.kept ∙ again.kept } in
    subst (λ (u : List ℕ). TextIs u false u) (append_assoc t (c ∷ []) k)
    (text_whole (t ++ c ∷ []) k next (λ before more d e. w before more d (sym (append_assoc t (c ∷ []) k) ∙ e)))

-- the text that a stage stands after
text_with : (k : List ℕ) (m : Bool) → IsKeptWhole k → TextIs k m (with_comment k m)
text_with k false w = text_whole [] k (record { no_end = refl; comment = refl; kept = refl }) w
text_with k true w = text_on k false k 37 (text_whole [] k (record { no_end = refl; comment = refl; kept = refl }) w) refl

whole_more : (k : List ℕ) (c : ℕ) → IsKeptWhole k → IsKeptAgain k c → IsKeptWhole (k ++ c ∷ [])
whole_more k c w again before more d e =
    elim (split_push k (before ++ d ∷ []) more c (e ∙ sym (append_assoc before (d ∷ []) more))) [
      | inl f ↦ (let y = same_from_push before k d c f in subst (λ (t : List ℕ). IsKeptAgain t d) (sym y.0) (subst (IsKeptAgain k) (sym y.1) again))
      | inr y ↦ w before y.0 d (y.1 ∙ append_assoc before (d ∷ []) y.0)
    ]

-- a character that is no comment's
no_percent : (c : ℕ) → is_in c (37 ∷ 32 ∷ 9 ∷ 10 ∷ []) ≡ false → comment_in false c ≡ false
no_percent c e = grind arith

whole_on : (k : List ℕ) (m : Bool) (c : ℕ) → IsKeptWhole k → is_end_after m c ≡ false → IsKeptWhole (kept_after k m c)
whole_on k true c w e = w
whole_on k false c w e = by (is_in c (37 ∷ 32 ∷ 9 ∷ 10 ∷ [])) (is_viable nabc (k ++ c ∷ [])) refl refl
  where
    by : (a v : Bool) → is_in c (37 ∷ 32 ∷ 9 ∷ 10 ∷ []) ≡ a → is_viable nabc (k ++ c ∷ []) ≡ v → IsKeptWhole (if not a then (if v then k ++ c ∷ [] else k) else k)
    by true v f g = w
    by false false f g = w
    by false true f g = whole_more k c w (record { no_comment = no_percent c f; goes_on = e; kept = rw (f, g) refl })

-- ---- what is emitted, by what is kept and what ends

module _ (m : Bool) (k : List ℕ) (x : Char) where
  -- by whether it is a character of the snippet, whether the text with it is viable, and whether it ends a code without a name
  abbrev going_by : Bool → Bool → Bool → List NoteEvent
  going_by a v w = if a then (if v then Kept x ∷ (if w then finding_event x.place W7 ∷ [] else []) else finding_event x.place E3 ∷ []) else []

  abbrev Goes : List NoteEvent → List ℕ → Type 0
  Goes events kept = (ends_of events ≡ []) × (k ++ kept_in events ≡ kept)

  going : is_end_after m x.c ≡ false → Goes (events_by m k x) (kept_after k m x.c)
  going e =
      subst (λ (b : Bool). Goes (if b then end_events k x else (if not m && not (is_in x.c (37 ∷ 32 ∷ 9 ∷ 10 ∷ [])) then character_events k x else [])) (kept_after k m x.c)) (sym e)
      (by (not m && not (is_in x.c (37 ∷ 32 ∷ 9 ∷ 10 ∷ []))) (is_viable nabc (k ++ x.c ∷ [])) (is_missing (first_of k) x.c))
    where
      by : (a v w : Bool) → Goes (going_by a v w) (if a then (if v then k ++ x.c ∷ [] else k) else k)
      by a v w = grind (arith, append-nil)

  ending : is_end_after m x.c ≡ true → EndsAfter k x.c (events_by m k x)
  ending e = grind arith

-- ---- what a character does to a stage

not_ends : (a m b v : Bool) → (if a then Silent else (if m then Ends else (if b then Silent else (if v then Keep else LeaveOut)))) ≡ Ends → (not a && m) ≡ true
not_ends a m b v e = grind arith

comment_after : (s : NabcStage) (c : ℕ) → s.ended ≡ false → is_end_after (comment_of s) c ≡ false → comment_of (stage_after s c) ≡ comment_in (comment_of s) c
comment_after s c on e =
    ap (λ (b : Bool). comment_of (if b then s else stage_moved_on s (role_at s c) (facts_at s c) (next_at s c) c)) on
    ∙ by (role_at s c) (next_at s c) (λ f. absurd (true≢false (sym (not_ends s.comment ((c == 41) || (c == 124)) (is_in c (37 ∷ 32 ∷ 9 ∷ 10 ∷ [])) (is_some (next_at s c)) f) ∙ e)))
  where
    by : (r : NabcRole) (o : Option DescriptorState) → (r ≡ Ends → ⊥) → comment_of (stage_moved_on s r (facts_at s c) o c) ≡ comment_in s.comment c
    by r o n = grind arith

module _ (s : NabcStage) (x : Char) (k : List ℕ) (h : Keeps s k) where
  text : TextIs k (comment_of s) (with_comment k (comment_of s))
  text = text_with k (comment_of s) h.whole

  on : s.ended ≡ false
  on = by s.ended (h.emits [] ∙ ap (λ (b : Bool). (if b then [] else Ended (Cut (record { line = 0; column = 0 })) (bytes_in (kept_of (with_comment k (comment_of s)))) ∷ []) ∷ []) text.no_end)
    where
      by : (b : Bool) → (if b then [] else Ended (Cut (record { line = 0; column = 0 })) s.kept ∷ []) ∷ [] ≡ (Ended (Cut (record { line = 0; column = 0 })) (bytes_in (kept_of (with_comment k (comment_of s)))) ∷ []) ∷ [] → b ≡ false
      by b e = grind arith

  events_are : stage_events_at s x ≡ events_by (comment_of s) k x
  events_are =
      let both : stage_events_at s x ∷ events_left (stage_after s x.c) [] ≡ events_at (with_comment k (comment_of s)) x ∷ nabc_events_after (with_comment k (comment_of s) ++ x.c ∷ []) [] = h.emits (x ∷ []) in
      let same : stage_events_at s x ≡ events_at (with_comment k (comment_of s)) x = cc both in
      same
      ∙ ap (λ (b : Bool). if b then [] else events_by (in_comment (with_comment k (comment_of s))) (kept_of (with_comment k (comment_of s))) x) text.no_end
      ∙ ap (λ (b : Bool). events_by b (kept_of (with_comment k (comment_of s))) x) text.comment
      ∙ ap (λ (u : List ℕ). events_by (comment_of s) u x) text.kept

  goes : is_end_after (comment_of s) x.c ≡ false → GoesOn k s x (stage_events_at s x) (stage_after s x.c)
  goes e = record {
    no_end = ap ends_of events_are ∙ (going (comment_of s) k x e).0;
    kept = kept;
    keeps = subst (Keeps (stage_after s x.c)) (sym kept) (record { whole = whole; emits = emits });
    comment = comment;
  }
    where
      kept : k ++ kept_in (stage_events_at s x) ≡ kept_after k (comment_of s) x.c
      kept = ap (λ (events : List NoteEvent). k ++ kept_in events) events_are ∙ (going (comment_of s) k x e).1

      comment : comment_of (stage_after s x.c) ≡ comment_in (comment_of s) x.c
      comment = comment_after s x.c on e

      whole : IsKeptWhole (kept_after k (comment_of s) x.c)
      whole = whole_on k (comment_of s) x.c h.whole e

      emits : (xs : List Char) → events_left (stage_after s x.c) xs ≡ nabc_events_after (with_comment (kept_after k (comment_of s) x.c) (comment_of (stage_after s x.c))) xs
      emits xs =
          let both : stage_events_at s x ∷ events_left (stage_after s x.c) xs ≡ events_at (with_comment k (comment_of s)) x ∷ nabc_events_after (with_comment k (comment_of s) ++ x.c ∷ []) xs = h.emits (x ∷ xs) in
          let rest : events_left (stage_after s x.c) xs ≡ nabc_events_after (with_comment k (comment_of s) ++ x.c ∷ []) xs = cc both in
          let one = text_on k (comment_of s) (with_comment k (comment_of s)) x.c text e in
          let other = text_with (kept_after k (comment_of s) x.c) (comment_of (stage_after s x.c)) whole in
          rest
          ∙ same_after xs (with_comment k (comment_of s) ++ x.c ∷ []) (with_comment (kept_after k (comment_of s) x.c) (comment_of (stage_after s x.c)))
          (record { ends = one.no_end ∙ sym other.no_end; comment = one.comment ∙ sym (other.comment ∙ comment); kept = one.kept ∙ sym other.kept })

pub push_keeps : (s : NabcStage) (x : Char) → KeepsOn s x (stage_events_at s x) (stage_after s x.c)
push_keeps s x = record {
  goes = λ k h e. goes s x k h e;
  ends = λ k h e. subst (EndsAfter k x.c) (sym (events_are s x k h)) (ending (comment_of s) k x e);
}

-- the same of other values that are those
pub push_as : (s : NabcStage) (x : Char) (events : List NoteEvent) (next : NabcStage) → stage_events_at s x ≡ events → stage_after s x.c ≡ next → KeepsOn s x events next
push_as s x events next e n = subst (KeepsOn s x events) n (subst (λ (o : List NoteEvent). KeepsOn s x o (stage_after s x.c)) e (push_keeps s x))

pub push_keeps_in : (s next : NabcStage) (x : Char) (old new : BoundedList NoteEvent) → next ≡ stage_after s x.c → new ≡ extended_by old (stage_events_at s x)
    → KeepsOn s x (drop (length old.items) new.items) next
push_keeps_in s next x old new n o = grind (arith, push_as, drop-append_seam)

-- a fresh stage
pub fresh_keeps : (s : NabcStage) → comment_of s ≡ false → ((xs : List Char) → events_left s xs ≡ nabc_events xs) → Keeps s []
fresh_keeps s m emits = record {
  whole = λ before more c e. absurd (nothing before more c e);
  emits = λ xs. emits xs ∙ ap (λ (b : Bool). nabc_events_after (with_comment [] b) xs) (sym m);
}
  where
    nothing : (before more : List ℕ) (c : ℕ) → [] ≡ before ++ c ∷ more → ⊥
    nothing [] more c e = cc
    nothing (b ∷ before) more c e = cc

-- ---- a stage restored

past_emits : (at : Place) (t k : List ℕ) (rest xs : List Char)
    → drop (length (map (λ (c : ℕ). record { c = c; place = at }) k ++ rest)) (nabc_events_after t ((map (λ (c : ℕ). record { c = c; place = at }) k ++ rest) ++ xs)) ≡ drop (length rest) (nabc_events_after (t ++ k) (rest ++ xs))
past_emits at t [] rest xs = ap (λ (u : List ℕ). drop (length rest) (nabc_events_after u (rest ++ xs))) (sym (append-nil t))
past_emits at t (c ∷ k) rest xs = past_emits at (t ++ c ∷ []) k rest xs ∙ ap (λ (u : List ℕ). drop (length rest) (nabc_events_after u (rest ++ xs))) (append_assoc t (c ∷ []) k)

pub gives_back : (s : NabcStage) (k : List ℕ) (at : Place) → Keeps s k → (xs : List Char)
    → drop (length (set_down at k (comment_of s))) (nabc_events (set_down at k (comment_of s) ++ xs)) ≡ events_left s xs
gives_back s k at h xs = by (comment_of s) ∙ sym (h.emits xs)
  where
    by : (m : Bool) → drop (length (set_down at k m)) (nabc_events (set_down at k m ++ xs)) ≡ nabc_events_after (with_comment k m) xs
    by true = past_emits at [] k (record { c = 37; place = at } ∷ []) xs
    by false = past_emits at [] k [] xs

pub keeps_agree : (s r : NabcStage) (k : List ℕ) → Keeps s k → Keeps r k → comment_of s ≡ comment_of r → (xs : List Char) → events_left s xs ≡ events_left r xs
keeps_agree s r k h g m xs = h.emits xs ∙ ap (λ (b : Bool). nabc_events_after (with_comment k b) xs) m ∙ sym (g.emits xs)
