-- A stage keeps the text that it has kept.
use Rattle.std.proofs.Common.{◌≡◌, ◌==◌, ◌&&◌, ◌||◌, not, ℕ, List, [], ◌∷◌, ◌++◌, Bool, true, false, cond, Option, Some, None, is_some, option_to_list, refl, sym, ap, ◌∙◌, subst, append-nil, append_assoc, if◌then◌else◌, arith}
use Rattle.std.proofs.lemmas.Bool.{true≢false}
use Rattle.gabc_places.specs.declared.code.Code.TheVariants.{E6, W8, W10}
use Rattle.gabc_places.specs.declared.place.Char.{Char}
use Rattle.gabc_places.specs.declared.place.Place.{Place}
use Rattle.gabc_patterns.specs.Derivative.{is_alive, is_snippet, is_viable}
use Rattle.gabc_patterns.specs.Function.{trim}
use Rattle.gabc_patterns.proofs.AutomatonsByTests.{reading_of}
use Rattle.gabc_patterns.proofs.StatesAfterTexts.{Stands, stands_first, stands_next, whole_is}
use Rattle.gabc_patterns.proofs.StatesFollowExamples.{viable_next}
use Rattle.gabc_notes.specs.Table.{gabc}
use Rattle.gabc_notes.specs.Events.{in_raw, bytes_of, finding_event, is_missing, end_by_mark}
use Rattle.gabc_notes.specs.witness.ItemMachine.{example}
use Rattle.gabc_notes.specs.witness.Keeps.{Keeps, is_comment_after, is_end_after, kept_after, opener_after, GoesOn, EndsAfter, KeepsOn}
use Rattle.gabc_notes.specs.SnippetRead.{kept_of, ends_of}
use Rattle.gabc_notes.specs.witness.StageEvents.{role_in, warning_in, events_in, event_list, count_plus}
use Rattle.gabc_notes.specs.StageReports.{opener_of, comment_of}
use Rattle.gabc_notes.specs.machine.ItemMachine.{raw_state, facts_by_states, stage_after}
use Rattle.gabc_notes.specs.machine.StageAfter.{next_of, facts_of, role_of, stage_after_one, events_of_push, at_nowhere, aside, fresh_stage, stage_past, AreKept}
use Rattle.gabc_notes.specs.declared.stage.CharRole.{CharRole}
use Rattle.gabc_notes.specs.declared.stage.CharRole.TheVariants.{Silent, Comment, Ends, Keep, LeaveOut}
use Rattle.gabc_notes.specs.declared.stage.NoteEnd.{NoteEnd}
use Rattle.gabc_notes.specs.declared.stage.NoteEvent.{NoteEvent}
use Rattle.gabc_notes.specs.declared.stage.NoteEvent.TheVariants as event
use Rattle.gabc_notes.specs.declared.stage.NoteStage.{NoteStage}
use Rattle.gabc_notes.specs.declared.state.ItemState.{ItemState}
use Rattle.gabc_notes.proofs.machine.EventsDependOnState.{raw_at, raw_by}
use Rattle.gabc_notes.proofs.machine.MachineReadsTable.{machine, snippets_read}
use Rattle.gabc_notes.proofs.machine.OneCharacterMore.{bytes_more, trim_more, RoleIs, role_is, no_percent, no_feed}
use Rattle.gabc_notes.proofs.machine.StageEmitsItsEvents.{raw_is, not_kept}

-- ---- a stage by the text that it kept

pub record After (split : Bool) (macros : ℕ) (s : NoteStage) (k : List ℕ) : Type 0 where
  pub goes_on : s.ended ≡ false
  pub splits : s.split ≡ split
  pub defines : s.macros ≡ macros
  pub stands : Stands gabc machine s.state k
  pub bytes : s.before.kept ≡ bytes_of k
  pub whole : s.before.whole ≡ bytes_of (trim gabc k)

-- the state after one that is kept
kept_state : (s : NoteStage) (c : ℕ) → role_of s c ≡ Keep → (z : ItemState) × (next_of s c ≡ Some z)
kept_state s c e = by (next_of s c) refl
  where
    by : (o : Option ItemState) → next_of s c ≡ o → (z : ItemState) × (next_of s c ≡ Some z)
    by None n = absurd (not_kept s.split s.before.comment s.state s.name c (ap (λ (o : Option ItemState). role_in s.split s.before.comment (facts_by_states s.state o s.name) c) (sym n) ∙ e))
    by (Some z) n = (z, n)

pub kept_one : (split : Bool) (macros : ℕ) (s : NoteStage) (k : List ℕ) (x : Char) (z : ItemState) → After split macros s k → next_of s x.c ≡ Some z
    → After split macros (stage_after s Keep (facts_by_states s.state (Some z) s.name) (Some z) x) (k ++ x.c ∷ [])
kept_one split macros s k x z h n = record {
  goes_on = h.goes_on;
  splits = h.splits;
  defines = h.defines;
  stands = there;
  bytes = more;
  whole = sym (ap (λ (w : Bool). if w then count_plus s.before.kept x.c else s.before.whole) (whole_is gabc machine snippets_read z (k ++ x.c ∷ []) there))
      ∙ by (is_snippet gabc (k ++ x.c ∷ [])) ∙ ap bytes_of (sym (trim_more [] [] k x.c));
}
  where
    there : Stands gabc machine z (k ++ x.c ∷ [])
    there = stands_next gabc machine snippets_read s.state z k x.c h.stands n

    more : count_plus s.before.kept x.c ≡ bytes_of (k ++ x.c ∷ [])
    more = ap (λ (n : ℕ). count_plus n x.c) h.bytes ∙ sym (bytes_more k x.c)

    by : (w : Bool) → (if w then count_plus s.before.kept x.c else s.before.whole) ≡ bytes_of (if w then k ++ x.c ∷ [] else trim gabc k)
    by w = grind (arith, more)

-- a character that is kept, as the stage after it
kept_step : (s : NoteStage) (x : Char) (z : ItemState) → s.ended ≡ false → role_of s x.c ≡ Keep → next_of s x.c ≡ Some z
    → stage_after_one s x ≡ stage_after s Keep (facts_by_states s.state (Some z) s.name) (Some z) x
kept_step s x z on keep n = cc

pub text_after : (split : Bool) (macros : ℕ) (s : NoteStage) (t k : List ℕ) → After split macros s t → AreKept s k → After split macros (stage_past s k) (t ++ k)
text_after split macros s t [] h a = subst (After split macros s) (sym (append-nil t)) h
text_after split macros s t (c ∷ k) h a =
    subst (After split macros (stage_past (stage_after_one s (at_nowhere c)) k)) (append_assoc t (c ∷ []) k)
    (text_after split macros (stage_after_one s (at_nowhere c)) (t ++ c ∷ []) k next a.1)
  where
    next : After split macros (stage_after_one s (at_nowhere c)) (t ++ c ∷ [])
    next =
        let y = kept_state s c a.0 in
        subst (λ (r : NoteStage). After split macros r (t ++ c ∷ [])) (sym (kept_step s (at_nowhere c) y.0 h.goes_on a.0 y.1)) (kept_one split macros s t (at_nowhere c) y.0 h y.1)

pub fresh_after : (split : Bool) (macros : ℕ) → After split macros (fresh_stage split macros) []
fresh_after split macros = record { goes_on = refl; splits = refl; defines = refl; stands = stands_first gabc machine snippets_read; bytes = refl; whole = refl }

pub keeps_after : (split : Bool) (macros : ℕ) (s : NoteStage) (k : List ℕ) → Keeps split macros s k → After split macros s k
keeps_after split macros s k h =
    let b = subst (λ (r : NoteStage). After split macros r k) (sym h.alike) (text_after split macros (fresh_stage split macros) [] k (fresh_after split macros) h.whole) in
    record { goes_on = h.goes_on; splits = b.splits; defines = b.defines; stands = b.stands; bytes = b.bytes; whole = b.whole }

-- ---- what becomes of a character, by that text

module _ (split : Bool) (macros : ℕ) (s : NoteStage) (k : List ℕ) (h : After split macros s k) where
  pub raw_after_text : raw_state s.state ≡ in_raw k
  raw_after_text = sym (raw_by k ∙ ap raw_at (sym h.stands.reads) ∙ raw_is s.state)

  pub viable_after : (c : ℕ) → is_some (next_of s c) ≡ is_viable gabc (k ++ c ∷ [])
  viable_after c = by (next_of s c) ∙ sym (viable_next gabc machine snippets_read s.state k c h.stands)
    where
      by : (o : Option ItemState) → is_some o ≡ is_alive (reading_of gabc machine o)
      by o = grind arith

  abbrev role_by : Bool → Bool → Bool → Bool → ℕ → CharRole
  role_by split comment raw viable c =
      cond (comment && not (c == 10)) Silent (cond (not raw && ((c == 41) || (split && (c == 124)))) Ends (cond (not raw && (c == 37)) Comment (cond viable Keep LeaveOut)))

  role_is_by : (c : ℕ) → role_of s c ≡ role_by split s.before.comment (in_raw k) (is_viable gabc (k ++ c ∷ [])) c
  role_is_by c =
      by (next_of s c)
      ∙ ap (λ (b : Bool). role_by b s.before.comment (raw_state s.state) (is_some (next_of s c)) c) h.splits
      ∙ ap (λ (r : Bool). role_by split s.before.comment r (is_some (next_of s c)) c) raw_after_text
      ∙ ap (λ (v : Bool). role_by split s.before.comment (in_raw k) v c) (viable_after c)
    where
      by : (o : Option ItemState) → role_in s.split s.before.comment (facts_by_states s.state o s.name) c ≡ role_by s.split s.before.comment (raw_state s.state) (is_some o) c
      by o = grind arith

  pub role_says : (c : ℕ) (r : CharRole) → role_of s c ≡ r
      → RoleIs r s.before.comment (is_comment_after k s.before.comment c) (not (in_raw k) && ((c == 41) || (split && (c == 124)))) (is_viable gabc (k ++ c ∷ []))
  role_says c r e =
      subst (λ (q : CharRole). RoleIs q s.before.comment (is_comment_after k s.before.comment c) (not (in_raw k) && ((c == 41) || (split && (c == 124)))) (is_viable gabc (k ++ c ∷ [])))
      (sym (role_is_by c) ∙ e)
      (role_is s.before.comment (not (c == 10)) (not (in_raw k) && ((c == 41) || (split && (c == 124)))) (not (in_raw k) && (c == 37)) (is_viable gabc (k ++ c ∷ []))
      (no_percent (in_raw k) split c) (no_feed (in_raw k) c))

  -- the bracket that is open
  pub opener_is : opener_of s ≡ (if in_raw k then Some s.before.place else None)
  opener_is = ap (λ (b : Bool). if b then Some s.before.place else None) (raw_by (example s.state) ∙ raw_is s.state ∙ raw_after_text)

-- ---- what is emitted of a character

abbrev IsQuiet : List NoteEvent → Type 0
IsQuiet events = (kept_of events ≡ []) × (ends_of events ≡ [])

module _ (s : NoteStage) (x : Char) where
  warned : IsQuiet (option_to_list (warning_in s.macros s.before (facts_of s x.c) x) ++ [])
  warned =
      by (facts_of s x.c).raw ((facts_of s x.c).attribute && is_missing s.macros (facts_of s x.c).digit) (((x.c == 91) && (not (facts_of s x.c).raw_after && s.before.fused)) || ((x.c == 93) && not s.before.fused))
    where
      by : (a b d : Bool) → IsQuiet (option_to_list (if a then (if b then Some (finding_event s.before.place W8) else None) else (if d then Some (finding_event x.place W10) else None)) ++ [])
      by a b d = grind arith

  abbrev pub emitted : CharRole → List NoteEvent
  emitted r = event_list (events_in r s.macros s.before (facts_of s x.c) x)

  pub events_are : (r : CharRole) → s.ended ≡ false → role_of s x.c ≡ r → events_of_push s x ≡ emitted r
  events_are r on e = ap (λ (b : Bool). if b then [] else emitted (role_of s x.c)) on ∙ ap emitted e

  abbrev ends_with : CharRole → List (NoteEnd × ℕ)
  ends_with Ends = (end_by_mark x.c, s.before.whole) ∷ []
  ends_with _ = []

  ends_are : (r : CharRole) → ends_of (emitted r) ≡ ends_with r
  ends_are Keep = warned.1
  ends_are LeaveOut = refl
  ends_are Silent = refl
  ends_are Comment = refl
  ends_are Ends = by (facts_of s x.c).whole s.before.fused
    where
      by : (a b : Bool) → ends_of (option_to_list (if a then None else Some (finding_event x.place E6)) ++ (option_to_list (if b then Some (finding_event x.place W10) else None) ++ option_to_list (Some (event.Ended (end_by_mark x.c) s.before.whole)))) ≡ (end_by_mark x.c, s.before.whole) ∷ []
      by a b = grind arith

  none_kept : kept_of (emitted Ends) ≡ []
  none_kept = by (facts_of s x.c).whole s.before.fused
    where
      by : (a b : Bool) → kept_of (option_to_list (if a then None else Some (finding_event x.place E6)) ++ (option_to_list (if b then Some (finding_event x.place W10) else None) ++ option_to_list (Some (event.Ended (end_by_mark x.c) s.before.whole)))) ≡ []
      by a b = grind arith

-- ---- one character more is kept

pub past_more : (s : NoteStage) (k : List ℕ) (c : ℕ) → stage_past s (k ++ c ∷ []) ≡ stage_after_one (stage_past s k) (at_nowhere c)
past_more s [] c = refl
past_more s (d ∷ k) c = past_more (stage_after_one s (at_nowhere d)) k c

are_more : (s : NoteStage) (k : List ℕ) (c : ℕ) → AreKept s k → role_of (stage_past s k) c ≡ Keep → AreKept s (k ++ c ∷ [])
are_more s [] c a e = (e, tt)
are_more s (d ∷ k) c a e = (a.0, are_more (stage_after_one s (at_nowhere d)) k c a.1 e)

-- what is kept is kept where no comment is open
pub kept_aside : (s : NoteStage) (c : ℕ) → role_of s c ≡ Keep → role_of (aside s) c ≡ Keep
kept_aside s c e = grind arith

-- the stage after it is the same, places and comments aside
aside_kept : (s : NoteStage) (x : Char) (z : ItemState)
    → aside (stage_after s Keep (facts_by_states s.state (Some z) s.name) (Some z) x) ≡ stage_after (aside s) Keep (facts_by_states s.state (Some z) s.name) (Some z) (at_nowhere x.c)
aside_kept s x z = grind arith

-- ---- what a character does

module _ (split : Bool) (macros : ℕ) (s : NoteStage) (x : Char) (k : List ℕ) (h : Keeps split macros s k) where
  b : After split macros s k
  b = keeps_after split macros s k h

  abbrev marks : Bool
  marks = not (in_raw k) && ((x.c == 41) || (split && (x.c == 124)))

  -- of one that is not kept
  stays : (m : Bool) (events : List NoteEvent) → is_comment_after k (comment_of s) x.c ≡ m → IsQuiet events → kept_after k (comment_of s) x.c ≡ k
      → GoesOn split macros k s x events (record s { before = record s.before { comment = m } })
  stays m events c quiet same = grind (arith, raw_by, raw_after_text, b, opener_is, append-nil)

  -- of one that is kept
  keeps_one : (z : ItemState) → role_of s x.c ≡ Keep → next_of s x.c ≡ Some z
      → GoesOn split macros k s x (emitted s x Keep) (stage_after s Keep (facts_by_states s.state (Some z) s.name) (Some z) x)
  keeps_one z e n = record {
    no_end = ends_are s x Keep;
    kept = text ∙ sym (ap (λ (a : Bool). if not a && is_viable gabc (k ++ x.c ∷ []) then k ++ x.c ∷ [] else k) says.0 ∙ ap (λ (v : Bool). if v then k ++ x.c ∷ [] else k) says.2);
    keeps = subst (Keeps split macros after) (sym text) (record {
      goes_on = h.goes_on;
      outside = λ f. absurd (true≢false (sym f));
      alike = aside_kept s x z ∙ sym (kept_step (aside s) (at_nowhere x.c) z h.goes_on plain n) ∙ ap (λ (r : NoteStage). stage_after_one r (at_nowhere x.c)) h.alike ∙ sym (past_more fresh k x.c);
      whole = are_more fresh k x.c h.whole (ap (λ (r : NoteStage). role_of r x.c) (sym h.alike) ∙ plain);
    });
    comment = sym says.0;
    opener = opener_is split macros after (k ++ x.c ∷ []) (kept_one split macros s k x z b n)
        ∙ ap (λ (r : Bool). if in_raw (k ++ x.c ∷ []) then Some (if r then s.before.place else x.place) else None) (raw_after_text split macros s k b)
        ∙ by (in_raw (k ++ x.c ∷ [])) (in_raw k)
        ∙ ap (λ (t : List ℕ). opener_after (in_raw t) (if in_raw k then Some s.before.place else None) x.place) (sym text)
        ∙ ap (λ (o : Option Place). opener_after (in_raw (k ++ kept_of (emitted s x Keep))) o x.place) (sym (opener_is split macros s k b));
  }
    where
      fresh : NoteStage
      fresh = fresh_stage split macros

      after : NoteStage
      after = stage_after s Keep (facts_by_states s.state (Some z) s.name) (Some z) x

      says : (is_comment_after k (comment_of s) x.c ≡ false) × (marks ≡ false) × (is_viable gabc (k ++ x.c ∷ []) ≡ true)
      says = role_says split macros s k b x.c Keep e

      text : k ++ kept_of (emitted s x Keep) ≡ k ++ x.c ∷ []
      text = ap (λ (t : List ℕ). k ++ x.c ∷ t) (warned s x).0

      plain : role_of (aside s) x.c ≡ Keep
      plain = kept_aside s x.c e

      by : (a r : Bool) → (if a then Some (if r then s.before.place else x.place) else None) ≡ opener_after a (if r then Some s.before.place else None) x.place
      by a r = grind arith

  goes : is_end_after split k (comment_of s) x.c ≡ false → GoesOn split macros k s x (events_of_push s x) (stage_after_one s x)
  goes ongoing = by (role_of s x.c) refl
    where
      same_text : is_comment_after k (comment_of s) x.c ≡ true → kept_after k (comment_of s) x.c ≡ k
      same_text c = ap (λ (a : Bool). if not a && is_viable gabc (k ++ x.c ∷ []) then k ++ x.c ∷ [] else k) c

      at : (r : CharRole) (events : List NoteEvent) (after : NoteStage) → role_of s x.c ≡ r → emitted s x r ≡ events → stage_after s r (facts_of s x.c) (next_of s x.c) x ≡ after
          → GoesOn split macros k s x events after → GoesOn split macros k s x (events_of_push s x) (stage_after_one s x)
      at r events after e f g i = grind arith

      by : (r : CharRole) → role_of s x.c ≡ r → GoesOn split macros k s x (events_of_push s x) (stage_after_one s x)
      by Silent e = (let R = role_says split macros s k b x.c Silent e in
          at Silent [] (record s { before = record s.before { comment = true } }) e refl (ap (λ (m : Bool). record s { before = record s.before { comment = m } }) R.1)
          (stays true [] R.0 (refl, refl) (same_text R.0)))
      by Comment e = (let R : is_comment_after k (comment_of s) x.c ≡ true = role_says split macros s k b x.c Comment e in
          at Comment [] (record s { before = record s.before { comment = true } }) e refl refl (stays true [] R (refl, refl) (same_text R)))
      by LeaveOut e = (let R = role_says split macros s k b x.c LeaveOut e in
          at LeaveOut (emitted s x LeaveOut) (record s { before = record s.before { comment = false } }) e refl refl
          (stays false (emitted s x LeaveOut) R.0 (refl, refl)
          (ap (λ (a : Bool). if not a && is_viable gabc (k ++ x.c ∷ []) then k ++ x.c ∷ [] else k) R.0 ∙ ap (λ (v : Bool). if v then k ++ x.c ∷ [] else k) R.2)))
      by Keep e = (let y = kept_state s x.c e in
          at Keep (emitted s x Keep) (stage_after s Keep (facts_by_states s.state (Some y.0) s.name) (Some y.0) x) e refl
          (ap (λ (o : Option ItemState). stage_after s Keep (facts_by_states s.state o s.name) o x) y.1) (keeps_one y.0 e y.1))
      by Ends e = (let R = role_says split macros s k b x.c Ends e in
          absurd (true≢false (sym (ap (λ (a : Bool). not a && marks) R.0 ∙ R.1) ∙ ongoing)))

  ends : is_end_after split k (comment_of s) x.c ≡ true → EndsAfter k x.c (events_of_push s x)
  ends over = by (role_of s x.c) refl
    where
      never : is_comment_after k (comment_of s) x.c ≡ true → EndsAfter k x.c (events_of_push s x)
      never c = absurd (true≢false (sym over ∙ ap (λ (a : Bool). not a && marks) c))

      no_mark : marks ≡ false → is_comment_after k (comment_of s) x.c ≡ false → EndsAfter k x.c (events_of_push s x)
      no_mark m c = absurd (true≢false (sym over ∙ ap (λ (a : Bool). not a && marks) c ∙ m))

      by : (r : CharRole) → role_of s x.c ≡ r → EndsAfter k x.c (events_of_push s x)
      by Silent e = never (role_says split macros s k b x.c Silent e).0
      by Comment e = never (role_says split macros s k b x.c Comment e)
      by LeaveOut e = (let R = role_says split macros s k b x.c LeaveOut e in no_mark R.1 R.0)
      by Keep e = (let R = role_says split macros s k b x.c Keep e in no_mark R.1 R.0)
      by Ends e = subst (EndsAfter k x.c) (sym (events_are s x Ends h.goes_on e)) (record {
        end = ends_are s x Ends ∙ ap (λ (n : ℕ). (end_by_mark x.c, n) ∷ []) b.whole;
        none_kept = none_kept s x;
      })

-- what a push does
pub push_keeps : (s : NoteStage) (x : Char) → KeepsOn s x (events_of_push s x) (stage_after_one s x)
push_keeps s x = record { goes = λ split macros k h. goes split macros s x k h; ends = λ split macros k h. ends split macros s x k h }

pub fresh_keeps : (split : Bool) (macros : ℕ) → Keeps split macros (fresh_stage split macros) []
fresh_keeps split macros = record { goes_on = refl; outside = λ e. absurd (true≢false (sym e)); alike = refl; whole = tt }
