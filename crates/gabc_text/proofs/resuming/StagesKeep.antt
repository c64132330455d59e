-- A stage keeps the text that it has kept.
use Rattle.std.proofs.lemmas.Bool.{eqb-true, false≢true}
use Rattle.std.proofs.Common.{◌≡◌, ◌==◌, ◌&&◌, ℕ, List, [], ◌∷◌, ◌++◌, Bool, true, false, cond, Option, Some, None, option_to_list, refl, sym, ap, ◌∙◌, subst, append-nil, append_assoc, if◌then◌else◌}
use Rattle.gabc_places.specs.declared.place.Place.{Place}
use Rattle.gabc_text.specs.declared.token_state.TokenState.{TokenState}
use Rattle.gabc_text.specs.declared.token_state.TokenState.TheVariants.{Comment}
use Rattle.gabc_text.specs.declared.text_event.TextEvent.{TextEvent}
use Rattle.gabc_text.specs.declared.text_event.TextEvent.TheVariants as out
use Rattle.gabc_text.specs.declared.text_event.TextEnd.TheVariants as text_ending
use Rattle.gabc_text.specs.declared.stage.TextStage.{TextStage}
use Rattle.gabc_text.specs.BuiltText.{kept_in}
use Rattle.gabc_text.specs.witness.EventsLeft.{events_left}
use Rattle.gabc_text.specs.witness.Keeps.{IsKeptOf, said, end_text, EndsInNotes, stage_after, Keeps, said_of, is_open_after_text, begins_comment, kept_with, ends_after_it, said_at_end, comment_with, GoesOn, EndsAfter, KeepsOn}
use Rattle.gabc_text.specs.StageReports.{opener_of, is_in_comment}
use Rattle.gabc_text.specs.witness.StageReports.{next_of, moved_to, opened_at, place_told, told}
use Rattle.gabc_text.specs.machine.StageReports.{is_open, is_comment, opener_in, comment_in}
use Rattle.gabc_text.specs.TextStage.{fresh_stage}
use Rattle.gabc_text.specs.machine.RawPart.{stage_past, events_of_pushes}
use Rattle.gabc_text.specs.machine.Resuming.{nowhere, placed, outside, IsAlike, kept_at, kept_past}
use Rattle.gabc_text.specs.machine.TokenState.{is_plain, keep}
use Rattle.gabc_text.specs.declared.text_facts.TextFacts.{TextFacts}
use Rattle.std.specs.List.{All}
use Rattle.std.proofs.lemmas.List.Elements.{All-nil}
use Rattle.std.proofs.Common.{◌⊎◌}
use Rattle.gabc_text.specs.machine.TextStage.{settle_stage, events_of_settling, events_of_settled_push, push_stage, events_of_push}
use Rattle.gabc_places.specs.Place.{saturating_next_place}
use Rattle.gabc_text.proofs.machine.EventsLeftAreThoseAhead.{rest_is}
use Rattle.gabc_text.proofs.machine.EventsStepByStep.{stepwise}
use Rattle.std.proofs.Math.Bool.{and-false}
use Rattle.std.proofs.Common.{not, ◌≤◌, length, suc, is_some, arith}
use Rattle.gabc_text.proofs.resuming.PlacesAside.{said_append, push_placed, push_same}
use Rattle.gabc_text.proofs.resuming.KeptCharactersSuffice.{StepAlike, step_alike, stays_outside}
use Rattle.gabc_text.proofs.resuming.ReachedStages.{push_reached, fresh_reached, moved_reached, opened_reached, goes_on}
use Rattle.gabc_text.proofs.NothingAfterTheEnd.{opener_told, comment_told}
use Rattle.gabc_text.proofs.resuming.EndedAndFreshStagesHaveNothingOpen.{opener_moved, comment_moved}
use Rattle.gabc_text.proofs.resuming.ReportDeterminesOutput.{told_suffices}
use Rattle.gabc_text.proofs.resuming.EndsAndKept.{kept_said, done_is, kept_is, read_kept, none_kept_at_end, notes_at_end, EndsAt, ended_at}
use Rattle.gabc_text.proofs.resuming.WhatStagesTell.{next_goes, opener_goes, comment_goes}

-- ---- one character more

pub past_more : (s : TextStage) (k : List ℕ) (d : ℕ) → stage_past s (k ++ d ∷ []) ≡ push_stage (stage_past s k) d
past_more s [] d = refl
past_more s (c ∷ k) d = past_more (push_stage s c) k d

kept_more : (s : TextStage) (k : List ℕ) (d : ℕ) → kept_past s (k ++ d ∷ []) ≡ kept_past s k ++ option_to_list (kept_at (stage_past s k) d)
kept_more s [] d = append-nil (option_to_list (kept_at s d))
kept_more s (c ∷ k) d = simp (option_to_list, append_assoc, kept_more (push_stage s c) k d)

events_more : (s : TextStage) (k : List ℕ) (d : ℕ) → events_of_pushes s (k ++ d ∷ []) ≡ events_of_pushes s k ++ events_of_push (stage_past s k) d
events_more s [] d = append-nil (events_of_push s d)
events_more s (c ∷ k) d = simp (append_assoc, events_more (push_stage s c) k d)

pub alike_done : (s r : TextStage) → IsAlike s r → r.ended ≡ s.ended
alike_done s r a = ap (λ (x : TextStage). x.ended) a.same

-- ---- what follows from a kept text

pub said_is : (k : List ℕ) → said_of k ≡ said (events_of_pushes (fresh_stage nowhere) k)
unfolding said_of
said_is k = refl

open_is : (k : List ℕ) → is_open_after_text k ≡ is_open (stage_after k).state
unfolding is_open_after_text
open_is k = refl

pub begins_is : (k : List ℕ) → begins_comment k ≡ is_plain (stage_after k).state
unfolding begins_comment
begins_is k = refl

pub kept_with_is : (k : List ℕ) (c : ℕ) → kept_with k c ≡ kept_in (events_of_push (stage_after k) c)
unfolding kept_with
kept_with_is k c = refl

pub ends_are : (k : List ℕ) → ends_after_it k ≡ (push_stage (stage_after k) 40).ended
unfolding ends_after_it
ends_are k = refl

pub last_is : (k : List ℕ) → said_at_end k ≡ said (events_of_push (stage_after k) 40)
unfolding said_at_end
last_is k = refl

pub fresh_keeps : (at : Place) → Keeps (fresh_stage at) []
fresh_keeps at = record { goes_on = refl; reached = fresh_reached at; alike = record { place = nowhere; next = nowhere; same = refl }; whole = refl }

module _ (s : TextStage) (c : ℕ) (k : List ℕ) (keeps : Keeps s k) where
  -- with absurd (true≢false comment) open, it stands where the fresh one does, but for places
  placed_alike : comment_in s ≡ false → stage_after k ≡ placed keeps.alike.place keeps.alike.next s
  placed_alike e = keeps.alike.same ∙ ap (λ (m : TokenState). placed keeps.alike.place keeps.alike.next (record s { state = m })) (stays_outside s.state e)

  kept_here : comment_in s ≡ false → kept_in (events_of_push s c) ≡ kept_with k c
  kept_here e =
      sym (kept_said (events_of_push s c))
      ∙ ap kept_in (sym (push_same keeps.alike.place keeps.alike.next s c))
      ∙ kept_said (events_of_push (placed keeps.alike.place keeps.alike.next s) c)
      ∙ ap (λ (x : TextStage). kept_in (events_of_push x c)) (sym (placed_alike e))
      ∙ sym (kept_with_is k c)

  ends_same : comment_in s ≡ false → c ≡ 40 → ends_after_it k ≡ (push_stage s c).ended
  ends_same e f = grind (arith, ends_are, placed_alike, push_placed)

  end_here : (d : Bool) → (push_stage s c).ended ≡ d → d ≡ (not (comment_in s) && (c == 40 && ends_after_it k))
  end_here d f = grind (arith, ended_at, goes_on, ends_same, eqb-true)

  comment_here : (push_stage s c).ended ≡ false → comment_in (push_stage s c) ≡ comment_with k (comment_in s) c
  comment_here goes = grind (arith, comment_goes, goes_on, begins_is, placed_alike)

  opener_here : (push_stage s c).ended ≡ false → (p : Place) → opener_of (push_stage s c) ≡ Some p → (opener_of s ≡ Some p) ⊎ (next_of s ≡ p)
  opener_here goes p e = by (opener_goes s c keeps.goes_on keeps.reached p (sym (opener_told (push_stage s c) goes) ∙ e))
    where
      by : (opener_in s ≡ Some p) ⊎ (next_of s ≡ p) → (opener_of s ≡ Some p) ⊎ (next_of s ≡ p)
      by h = grind (arith, opener_told, goes_on)

  comment_now : (push_stage s c).ended ≡ false → is_in_comment (push_stage s c) ≡ comment_with k (is_in_comment s) c
  comment_now goes = comment_told (push_stage s c) goes ∙ comment_here goes ∙ ap (λ (b : Bool). comment_with k b c) (sym (comment_told s keeps.goes_on))

  goes_after : end_text (events_of_push s c) ≡ false → GoesOn s k c (events_of_push s c) (push_stage s c)
  goes_after e = by (kept_at s c) (kept_is s c keeps.goes_on goes) (step_alike s (stage_after k) c keeps.reached keeps.goes_on goes keeps.alike)
    where
      goes : (push_stage s c).ended ≡ false
      goes = done_is s c keeps.goes_on ∙ e

      by : (o : Option ℕ) → kept_in (events_of_push s c) ≡ option_to_list o → StepAlike s c (stage_after k) o → GoesOn s k c (events_of_push s c) (push_stage s c)
      by None f h = record {
        keeps = subst (Keeps (push_stage s c)) (sym (ap (λ (t : List ℕ). k ++ t) f ∙ append-nil k)) (record { goes_on = goes; reached = push_reached s c keeps.reached; alike = h.0; whole = keeps.whole });
        said = ap (λ (t : List ℕ). said_of (k ++ t)) f ∙ ap said_of (append-nil k) ∙ sym (ap (λ (os : List TextEvent). said_of k ++ os) h.1 ∙ append-nil (said_of k));
        opener = opener_here goes;
        comment = comment_now goes;
        next = next_goes s c keeps.goes_on goes;
      }
      by (Some d) f h = record {
        keeps = subst (λ (t : List ℕ). Keeps (push_stage s c) (k ++ t)) (sym f) (record {
          goes_on = goes;
          reached = push_reached s c keeps.reached;
          alike = subst (IsAlike (push_stage s c)) (sym (past_more (fresh_stage nowhere) k d)) h.0;
          whole = kept_more (fresh_stage nowhere) k d ∙ ap (λ (t : List ℕ). t ++ option_to_list (kept_at (stage_after k) d)) keeps.whole ∙ ap (λ (t : List ℕ). k ++ t) kept_same;
        });
        said = ap (λ (t : List ℕ). said_of (k ++ t)) f
            ∙ said_is (k ++ d ∷ [])
            ∙ ap said (events_more (fresh_stage nowhere) k d)
            ∙ said_append (events_of_pushes (fresh_stage nowhere) k) (events_of_push (stage_after k) d)
            ∙ ap (λ (os : List TextEvent). said (events_of_pushes (fresh_stage nowhere) k) ++ os) (sym h.1)
            ∙ ap (λ (os : List TextEvent). os ++ said (events_of_push s c)) (sym (said_is k));
        opener = opener_here goes;
        comment = comment_now goes;
        next = next_goes s c keeps.goes_on goes;
      }
        where
          later_goes : (stage_after k).ended ≡ false
          later_goes = alike_done s (stage_after k) keeps.alike ∙ keeps.goes_on

          after_goes : (push_stage (stage_after k) d).ended ≡ false
          after_goes = alike_done (push_stage s c) (push_stage (stage_after k) d) h.0 ∙ goes

          kept_same : option_to_list (kept_at (stage_after k) d) ≡ d ∷ []
          kept_same =
              sym (kept_is (stage_after k) d later_goes after_goes)
              ∙ sym (kept_said (events_of_push (stage_after k) d))
              ∙ ap kept_in (sym h.1)
              ∙ kept_said (events_of_push s c)
              ∙ f

  ended_after : end_text (events_of_push s c) ≡ true → EndsAfter k (events_of_push s c) (push_stage s c)
  ended_after e = record {
    kept = none_kept_at_end s c keeps.goes_on over;
    said = said_last;
    notes = subst EndsInNotes said_last (notes_at_end s c keeps.goes_on over);
    over = over;
  }
    where
      over : (push_stage s c).ended ≡ true
      over = done_is s c keeps.goes_on ∙ e

      at : EndsAt s c
      at = ended_at s c keeps.goes_on over

      said_last : said (events_of_push s c) ≡ said_at_end k
      said_last =
          ap (λ (x : ℕ). said (events_of_push s x)) at.mark
          ∙ sym (push_same keeps.alike.place keeps.alike.next s 40)
          ∙ ap (λ (x : TextStage). said (events_of_push x 40)) (sym (placed_alike at.no_comment))
          ∙ sym (last_is k)

keep_only : (facts : TextFacts) (m : TokenState) (c : ℕ) → All (IsKeptOf c) (option_to_list (keep facts m c))
keep_only facts m c = grind arith

only_kept : (s : TextStage) (c : ℕ) → s.ended ≡ false → All (IsKeptOf c) (kept_in (events_of_push s c))
only_kept s c on = by (push_stage s c).ended refl
  where
    by : (d : Bool) → (push_stage s c).ended ≡ d → All (IsKeptOf c) (kept_in (events_of_push s c))
    by true e = subst (All (IsKeptOf c)) (sym (none_kept_at_end s c on e)) (All-nil (IsKeptOf c))
    by false e = subst (All (IsKeptOf c)) (sym (kept_is s c on e)) (keep_only (settle_stage s c).facts (settle_stage s c).state c)

-- what a push does
pub push_keeps : (s next : TextStage) (c : ℕ) (events : List TextEvent) → next ≡ push_stage s c → events ≡ events_of_push s c → KeepsOn s c events next
push_keeps s next c events e f = rw (e, f) (record {
  end = λ k h. sym (done_is s c h.goes_on) ∙ end_here s c k h (push_stage s c).ended refl ∙ ap (λ (b : Bool). not b && (c == 40 && ends_after_it k)) (sym (comment_told s h.goes_on));
  kept = λ k h e. kept_here s c k h (sym (comment_told s h.goes_on) ∙ e);
  goes = λ k h. goes_after s c k h;
  ends = λ k h. ended_after s c k h;
  only = λ k h. only_kept s c h.goes_on;
})

pub moved_keeps : (at : Place) (s : TextStage) (k : List ℕ) → Keeps s k → Keeps (moved_to at s) k
moved_keeps at s k h = record { goes_on = h.goes_on; reached = moved_reached at s h.reached; alike = record { place = h.alike.place; next = h.alike.next; same = h.alike.same }; whole = h.whole }

pub opened_keeps : (at : Place) (s : TextStage) (k : List ℕ) → Keeps s k → Keeps (opened_at at s) k
opened_keeps at s k h = record { goes_on = h.goes_on; reached = opened_reached at s h.reached; alike = record { place = h.alike.place; next = h.alike.next; same = h.alike.same }; whole = h.whole }

-- ---- what is open

pub state_alike : (s : TextStage) (k : List ℕ) → Keeps s k → (stage_after k).state ≡ outside s.state
state_alike s k h = ap (λ (x : TextStage). x.state) h.alike.same

pub opener_open : (s : TextStage) (k : List ℕ) → Keeps s k → is_some (opener_of s) ≡ is_open_after_text k
opener_open s k h = grind (arith, is_some, opener_told, goes_on, open_is, state_alike)

pub comment_is : (m : TokenState) → is_comment m ≡ true → m ≡ Comment
comment_is m e = grind arith

pub comment_open : (s : TextStage) (k : List ℕ) → Keeps s k → is_in_comment s ≡ true → begins_comment k ≡ true
comment_open s k h e = begins_is k ∙ ap is_plain (state_alike s k h ∙ ap outside (comment_is s.state (sym (comment_told s h.goes_on) ∙ e)))

pub comment_alone : (k : List ℕ) → begins_comment k ≡ true → is_open_after_text k ≡ false
comment_alone k e = grind (arith, open_is, begins_is)

-- ---- a kept character is kept again

length_past : (s : TextStage) (t : List ℕ) → length (kept_past s t) ≤ length t
length_past s [] = omega arith
length_past s (c ∷ t) = grind (arith, option_to_list, length_past (push_stage s c) t)

first_kept : (s : TextStage) (c : ℕ) (t : List ℕ) → kept_past s (c ∷ t) ≡ c ∷ t → (kept_at s c ≡ Some c) × (kept_past (push_stage s c) t ≡ t)
first_kept s c t = by (kept_at s c)
  where
    by : (o : Option ℕ) → option_to_list o ++ kept_past (push_stage s c) t ≡ c ∷ t → (o ≡ Some c) × (kept_past (push_stage s c) t ≡ t)
    by None e = absurd (let h : length (kept_past (push_stage s c) t) ≡ suc (length t) = ap length e in omega (arith, h, length_past (push_stage s c) t))
    by (Some d) e = (cc, cc)

past_joined : (s : TextStage) (t u : List ℕ) → stage_past s (t ++ u) ≡ stage_past (stage_past s t) u
past_joined s [] u = refl
past_joined s (c ∷ t) u = past_joined (push_stage s c) t u

kept_each : (s : TextStage) (a b : List ℕ) (c : ℕ) → kept_past s (a ++ c ∷ b) ≡ a ++ c ∷ b → kept_at (stage_past s a) c ≡ Some c
kept_each s [] b c e = (first_kept s c b e).0
kept_each s (x ∷ a) b c e = kept_each (push_stage s x) a b c (first_kept s x (a ++ c ∷ b) e).1

pub kept_again : (s : TextStage) (a b : List ℕ) (c : ℕ) → Keeps s (a ++ c ∷ b) → kept_with a c ≡ c ∷ []
kept_again s a b c h = grind (arith, kept_with_is, kept_is, goes_on, option_to_list, kept_each, past_joined, alike_done)

pub comment_not_kept : (k : List ℕ) → begins_comment k ≡ true → kept_with k 37 ≡ []
comment_not_kept k e = grind (arith, kept_with_is, begins_is, read_kept)

pub end_not_kept : (k : List ℕ) → ends_after_it k ≡ true → kept_with k 40 ≡ []
end_not_kept k e = kept_with_is k 40 ∙ by (stage_after k).ended refl
  where
    by : (d : Bool) → (stage_after k).ended ≡ d → kept_in (events_of_push (stage_after k) 40) ≡ []
    by true f = ap (λ (x : Bool). kept_in (cond x [] (events_of_settling (stage_after k) 40 ++ events_of_settled_push (settle_stage (stage_after k) 40) 40))) f
    by false f = none_kept_at_end (stage_after k) 40 f (sym (ends_are k) ∙ e)

-- ---- stages that keep and report the same

state_same : (m n : TokenState) → outside m ≡ outside n → is_comment m ≡ is_comment n → m ≡ n
state_same m n e f = grind arith

-- what is reported of places
place_same : (m : TokenState) (p q n : Place) → (is_plain m ≡ true → p ≡ n) → (is_plain m ≡ true → q ≡ n) → (if is_open m then Some p else None) ≡ (if is_open m then Some q else None)
    → place_told m p n ≡ place_told m q n
place_same m p q n a b e = grind arith

-- a stage by the one alike
abbrev with_places : TokenState → TextStage → Place → Place → TextStage
with_places m x at next = record x { state = m; progress = record x.progress { place = place_told m at next; next = next } }

told_is : (s x : TextStage) → IsAlike s x → told s ≡ with_places s.state x s.progress.place s.progress.next
told_is s x a = ap (λ (y : TextStage). with_places s.state y s.progress.place s.progress.next) (sym a.same)

keeps_agree : (s r : TextStage) (k : List ℕ) → Keeps s k → Keeps r k → opener_of s ≡ opener_of r → is_in_comment s ≡ is_in_comment r → next_of s ≡ next_of r → told s ≡ told r
keeps_agree s r k hs hr opener comment next = grind (arith, told_is, place_same, opener_told, goes_on, state_same, comment_told)

pub kept_suffices : (s r : TextStage) (k : List ℕ) → Keeps s k → Keeps r k → opener_of s ≡ opener_of r → is_in_comment s ≡ is_in_comment r → next_of s ≡ next_of r → (t : List ℕ) → events_left s t ≡ events_left r t
kept_suffices s r k hs hr opener comment next t = told_suffices s r t (keeps_agree s r k hs hr opener comment next)

-- ---- a comment in front of a text

-- a comment is open before the first character of a text, where the next character stands here
abbrev comment_before : Place → TextStage
comment_before at = record (fresh_stage at) { state = Comment }

before_keeps : (at : Place) → Keeps (comment_before at) []
before_keeps at = record { goes_on = refl; reached = record { between = λ e. absurd (false≢true e); start = λ e. refl; blank = λ e. absurd (false≢true e); starts = λ e. absurd (false≢true e) }; alike = record { place = nowhere; next = nowhere; same = refl }; whole = refl }

module _ (s : TextStage) (keeps : Keeps s []) (comment : is_in_comment s ≡ true) where
  -- nothing is open in it but the comment
  opens_nothing : (at : Place) → opener_of s ≡ opener_of (comment_before at)
  opens_nothing at = grind (arith, opener_told, goes_on, comment_is, comment_told)

  is_alike : (at : Place) → is_in_comment s ≡ is_in_comment (comment_before at)
  is_alike at = comment ∙ sym (comment_told (comment_before at) refl)

  as_before : (at : Place) (t : List ℕ) → events_left (moved_to at s) t ≡ events_left (comment_before at) t
  as_before at t = kept_suffices (moved_to at s) (comment_before at) [] (moved_keeps at s [] keeps) (before_keeps at) (opener_moved s at ∙ opens_nothing at) (comment_moved s at ∙ is_alike at) refl t

  as_it_is : (t : List ℕ) → events_left s t ≡ events_left (comment_before (next_of s)) t
  as_it_is t = kept_suffices s (comment_before (next_of s)) [] keeps (before_keeps (next_of s)) (opens_nothing (next_of s)) (is_alike (next_of s)) refl t

  -- the LF that ends it is the first character of a text that begins here
  pub comment_then_text : (t : List ℕ) → events_left s (10 ∷ t) ≡ events_left (fresh_stage (next_of s)) (10 ∷ t)
  comment_then_text t = as_it_is (10 ∷ t) ∙ rest_is (comment_before (next_of s)) (10 ∷ t) ∙ sym (rest_is (fresh_stage (next_of s)) (10 ∷ t))

  -- the end of the input ends it with the text
  pub comment_last : events_left s [] ≡ (out.Ended text_ending.Finished ∷ []) ∷ []
  comment_last = as_it_is [] ∙ rest_is (comment_before (next_of s)) []

  -- another character is part of it
  pub comment_on : (c : ℕ) (t : List ℕ) → (c == 10) ≡ false → events_left s (c ∷ t) ≡ [] ∷ events_left (moved_to (saturating_next_place (next_of s) c) s) t
  comment_on c t e =
      as_it_is (c ∷ t)
      ∙ rest_is (comment_before (next_of s)) (c ∷ t)
      ∙ step
      ∙ ap (λ (lists : List (List TextEvent)). [] ∷ lists)
      (sym (rest_is after_it t) ∙ told_suffices after_it (comment_before (saturating_next_place (next_of s) c)) t refl ∙ sym (as_before (saturating_next_place (next_of s) c) t))
    where
      after_it : TextStage
      after_it = record (comment_before (next_of s)) { progress = record (comment_before (next_of s)).progress { next = saturating_next_place (next_of s) c } }

      step : stepwise (comment_before (next_of s)) (c ∷ t) ≡ [] ∷ stepwise after_it t
      step = rw (e, and-false (c == 40)) refl
