-- A kept text gives the stage back.
use Rattle.std.proofs.Common.{arith, ◌≡◌, ◌==◌, ◌&&◌, ◌||◌, not, ℕ, List, [], ◌∷◌, ◌++◌, Bool, true, false, Option, Some, None, is_some, length, drop, map, refl, sym, ap, ◌∙◌, subst, append-nil, append_assoc, if◌then◌else◌}
use Rattle.std.proofs.lemmas.List.{drop-drop, length-append}
use Rattle.gabc_places.specs.declared.place.Char.{Char}
use Rattle.gabc_places.specs.declared.place.Place.{Place}
use Rattle.gabc_patterns.specs.Derivative.{is_viable}
use Rattle.gabc_notes.specs.Table.{gabc}
use Rattle.gabc_notes.specs.Events.{in_raw, note_events}
use Rattle.gabc_notes.specs.witness.ItemMachine.{events_left}
use Rattle.gabc_notes.specs.witness.Keeps.{Keeps, is_comment_after, is_end_after, kept_after, opener_after, GoesOn, set_down, OpensAt, IsKeptAgain}
use Rattle.gabc_notes.specs.SnippetRead.{kept_of}
use Rattle.gabc_notes.specs.StageReports.{opener_of, comment_of}
use Rattle.gabc_notes.specs.machine.StageAfter.{role_of, stage_after_one, events_of_push, at_nowhere, aside, fresh_stage, stage_past, AreKept}
use Rattle.gabc_notes.specs.declared.stage.CharRole.TheVariants.{Keep}
use Rattle.gabc_notes.specs.declared.stage.NoteStage.{NoteStage}
use Rattle.gabc_notes.proofs.machine.FreshStageEmitsEventsByPoint.{fresh_says}
use Rattle.gabc_notes.proofs.machine.StageEmitsItsEvents.{push_law}
use Rattle.gabc_notes.proofs.resuming.StagesAgree.{told_suffices}
use Rattle.gabc_notes.proofs.resuming.StagesKeep.{After, text_after, fresh_after, keeps_after, role_says, opener_is, kept_aside, past_more, push_keeps, fresh_keeps}

-- ---- two stages after one text

pub keeps_agree : (split : Bool) (macros : ℕ) (s r : NoteStage) (k : List ℕ) → Keeps split macros s k → Keeps split macros r k
    → opener_of s ≡ opener_of r → comment_of s ≡ comment_of r → (xs : List Char) → events_left s xs ≡ events_left r xs
keeps_agree split macros s r k h g o m xs = grind (arith, told_suffices)

pub told_inside_raw : (split : Bool) (macros : ℕ) (s : NoteStage) (k : List ℕ) → Keeps split macros s k → is_some (opener_of s) ≡ in_raw k
told_inside_raw split macros s k h = ap (λ (o : Option Place). is_some o) (opener_is split macros s k (keeps_after split macros s k h)) ∙ by (in_raw k)
  where
    by : (b : Bool) → is_some (if b then Some s.before.place else None) ≡ b
    by b = grind arith

-- ---- a kept text is kept again

kept_again_by : (split : Bool) (macros : ℕ) (t : List ℕ) (c : ℕ) → AreKept (fresh_stage split macros) t → role_of (stage_past (fresh_stage split macros) t) c ≡ Keep → IsKeptAgain split t c
kept_again_by split macros t c a e = record {
  no_comment = says.0;
  goes_on = ap (λ (b : Bool). not b && (not (in_raw t) && ((c == 41) || (split && (c == 124))))) says.0 ∙ says.1;
  kept = ap (λ (b : Bool). if not b && is_viable gabc (t ++ c ∷ []) then t ++ c ∷ [] else t) says.0 ∙ ap (λ (b : Bool). if b then t ++ c ∷ [] else t) says.2;
}
  where
    b : After split macros (stage_past (fresh_stage split macros) t) t
    b = text_after split macros (fresh_stage split macros) [] t (fresh_after split macros) a

    says : (is_comment_after t false c ≡ false) × ((not (in_raw t) && ((c == 41) || (split && (c == 124)))) ≡ false) × (is_viable gabc (t ++ c ∷ []) ≡ true)
    says =
        role_says split macros (aside (stage_past (fresh_stage split macros) t)) t
        (record { goes_on = b.goes_on; splits = b.splits; defines = b.defines; stands = b.stands; bytes = b.bytes; whole = b.whole }) c Keep
        (kept_aside (stage_past (fresh_stage split macros) t) c e)

are_before : (s : NoteStage) (k : List ℕ) (c : ℕ) (more : List ℕ) → AreKept s (k ++ c ∷ more) → AreKept s k × (role_of (stage_past s k) c ≡ Keep)
are_before s [] c more a = (tt, a.0)
are_before s (d ∷ k) c more a = (let y = are_before (stage_after_one s (at_nowhere d)) k c more a.1 in ((a.0, y.0), y.1))

pub kept_again : (split : Bool) (macros : ℕ) (s : NoteStage) (k more : List ℕ) (c : ℕ) → Keeps split macros s (k ++ c ∷ more) → IsKeptAgain split k c
kept_again split macros s k more c h = (let y = are_before (fresh_stage split macros) k c more h.whole in kept_again_by split macros k c y.0 y.1)

-- ---- a stage restored

pub emits_on : (s : NoteStage) (x : Char) (xs : List Char) → s.ended ≡ false → events_left s (x ∷ xs) ≡ events_of_push s x ∷ events_left (stage_after_one s x) xs
emits_on s x xs on = grind (arith, push_law)

opens_on : (a : Bool) (before after : Option Place) (at : Place) → ((p : Place) → before ≡ Some p → p ≡ at) → after ≡ opener_after a before at → (p : Place) → after ≡ Some p → p ≡ at
opens_on a before after at h e p f = grind arith

module _ (split : Bool) (macros : ℕ) (at : Place) where
  abbrev placed : List ℕ → List Char
  placed k = map (λ (c : ℕ). record { c = c; place = at }) k

  -- a stage that stands after the text of s, with this text more
  record Reread (s : NoteStage) (k : List ℕ) (down : List Char) (m : Bool) : Type 0 where
    pub stage : NoteStage
    pub keeps : Keeps split macros stage k
    pub opens : OpensAt at stage
    pub comment : comment_of stage ≡ m
    pub emits : (xs : List Char) → drop (length down) (events_left s (down ++ xs)) ≡ events_left stage xs

  reread : (s : NoteStage) (t k : List ℕ) → Keeps split macros s t → OpensAt at s → comment_of s ≡ false → AreKept (fresh_stage split macros) t
      → AreKept (stage_past (fresh_stage split macros) t) k → Reread s (t ++ k) (placed k) false
  reread s t [] h o m a b = record { stage = s; keeps = subst (Keeps split macros s) (sym (append-nil t)) h; opens = o; comment = m; emits = λ xs. refl }
  reread s t (c ∷ k) h o m a b =
      let x : Char = record { c = c; place = at } in
      let again = kept_again_by split macros t c a b.0 in
      let goes = (push_keeps s x).goes split macros t h (ap (λ (v : Bool). is_end_after split t v c) m ∙ again.goes_on) in
      let text : t ++ kept_of (events_of_push s x) ≡ t ++ c ∷ [] = goes.kept ∙ ap (λ (v : Bool). kept_after t v c) m ∙ again.kept in
      let keeps : Keeps split macros (stage_after_one s x) (t ++ c ∷ []) = subst (Keeps split macros (stage_after_one s x)) text goes.keeps in
      let r = reread (stage_after_one s x) (t ++ c ∷ []) k keeps (opens_on _ (opener_of s) (opener_of (stage_after_one s x)) at o goes.opener)
      (goes.comment ∙ ap (λ (v : Bool). is_comment_after t v c) m ∙ again.no_comment) keeps.whole
      (subst (λ (n : NoteStage). AreKept n k) (sym (past_more (fresh_stage split macros) t c)) b.1) in
      record {
        stage = r.stage;
        keeps = subst (Keeps split macros r.stage) (append_assoc t (c ∷ []) k) r.keeps;
        opens = r.opens;
        comment = r.comment;
        emits = λ xs. ap (drop (length (placed (c ∷ k)))) (emits_on s x (placed k ++ xs) h.goes_on) ∙ r.emits xs;
      }

  -- and with a comment, if one is open
  with_comment : (s : NoteStage) (k : List ℕ) (down : List Char) (m : Bool) → (m ≡ true → in_raw k ≡ false) → Reread s k down false
      → Reread s k (down ++ (if m then record { c = 37; place = at } ∷ [] else [])) m
  with_comment s k down false outside r = record { stage = r.stage; keeps = r.keeps; opens = r.opens; comment = r.comment; emits = λ xs. ap (λ (d : List Char). drop (length d) (events_left s (d ++ xs))) (append-nil down) ∙ r.emits xs }
  with_comment s k down true outside r = record {
    stage = stage_after_one r.stage x;
    keeps = subst (Keeps split macros (stage_after_one r.stage x)) text goes.keeps;
    opens = opens_on _ (opener_of r.stage) (opener_of (stage_after_one r.stage x)) at r.opens goes.opener;
    comment = goes.comment ∙ comments;
    emits = λ xs.
        ap (λ (ys : List Char). drop (length (down ++ x ∷ [])) (events_left s ys)) (append_assoc down (x ∷ []) xs)
        ∙ ap (λ (n : ℕ). drop n (events_left s (down ++ x ∷ xs))) (length-append down (x ∷ []))
        ∙ sym (drop-drop 1 (length down) (events_left s (down ++ x ∷ xs)))
        ∙ ap (drop 1) (r.emits (x ∷ xs) ∙ emits_on r.stage x xs r.keeps.goes_on);
  }
    where
      x : Char
      x = record { c = 37; place = at }

      comments : is_comment_after k (comment_of r.stage) 37 ≡ true
      comments = rw (r.comment, outside refl) refl

      goes : GoesOn split macros k r.stage x (events_of_push r.stage x) (stage_after_one r.stage x)
      goes = (push_keeps r.stage x).goes split macros k r.keeps (ap (λ (v : Bool). not v && (not (in_raw k) && ((37 == 41) || (split && (37 == 124))))) comments)

      text : k ++ kept_of (events_of_push r.stage x) ≡ k
      text = goes.kept ∙ ap (λ (v : Bool). if not v && is_viable gabc (k ++ 37 ∷ []) then k ++ 37 ∷ [] else k) comments

  opened_at : (s : NoteStage) (k : List ℕ) → Keeps split macros s k → OpensAt at s → opener_of s ≡ (if in_raw k then Some at else None)
  opened_at s k h o = opener_is split macros s k (keeps_after split macros s k h) ∙ by (in_raw k) (opener_is split macros s k (keeps_after split macros s k h))
    where
      by : (b : Bool) → opener_of s ≡ (if b then Some s.before.place else None) → (if b then Some s.before.place else None) ≡ (if b then Some at else None)
      by true e = ap (λ (p : Place). Some p) (o s.before.place e)
      by false e = refl

  pub gives_back : (s : NoteStage) (k : List ℕ) → Keeps split macros s k → OpensAt at s → (xs : List Char)
      → drop (length (set_down at k (comment_of s))) (note_events split macros (set_down at k (comment_of s) ++ xs)) ≡ events_left s xs
  gives_back s k h o xs =
      let fresh = fresh_stage split macros in
      let r = with_comment fresh k (placed k) (comment_of s) h.outside (reread fresh [] k (fresh_keeps split macros) (λ p e. absurd (cc)) refl tt h.whole) in
      ap (drop (length (set_down at k (comment_of s)))) (sym (fresh_says split macros (set_down at k (comment_of s) ++ xs)))
      ∙ r.emits xs
      ∙ keeps_agree split macros r.stage s k r.keeps h (opened_at r.stage k r.keeps r.opens ∙ sym (opened_at s k h o)) r.comment xs
