-- A stage takes each character, and its opener may stand anywhere.
use Rattle.std.proofs.Common.{◌≡◌, ◌==◌, ◌&&◌, ◌≤◌, ℕ, List, [], ◌∷◌, length, Bool, true, false, Option, Some, is_some, option_map, option_to_list, refl, sym, ap, ◌∙◌, subst, arith}
use Rattle.std.proofs.lemmas.Bool.{eqb-true, not-true}
use Rattle.gabc_places.specs.declared.place.Place.{Place}
use Rattle.gabc_text.specs.declared.token_state.TokenState.{TokenState}
use Rattle.gabc_text.specs.declared.token_state.TokenState.TheVariants.{Comment}
use Rattle.gabc_text.specs.declared.text_event.TextEvent.{TextEvent}
use Rattle.gabc_text.specs.declared.stage.TextStage.{TextStage}
use Rattle.gabc_text.specs.BuiltText.{kept_in}
use Rattle.gabc_text.specs.StageReports.{opener_of, is_in_comment}
use Rattle.gabc_text.specs.witness.StageReports.{opened_at}
use Rattle.gabc_text.specs.witness.Keeps.{Keeps, OpensThere, Takes, begins_comment, comment_with, kept_with, GoesOn}
use Rattle.gabc_text.specs.machine.Resuming.{kept_at, outside}
use Rattle.gabc_text.specs.machine.TokenState.{is_plain}
use Rattle.gabc_text.specs.machine.TextStage.{push_stage, events_of_push}
use Rattle.gabc_text.proofs.machine.EventsLeftAreThoseAhead.{rest_is}
use Rattle.gabc_text.proofs.resuming.EndsAndKept.{done_is, ended_at, kept_is, none_kept_at_end}
use Rattle.gabc_text.proofs.resuming.KeptCharactersSuffice.{comment_kept}
use Rattle.gabc_text.proofs.NothingAfterTheEnd.{comment_told}
use Rattle.gabc_text.proofs.resuming.EndedAndFreshStagesHaveNothingOpen.{opener_opened, comment_opened}
use Rattle.gabc_text.proofs.resuming.StagesKeep.{begins_is, comment_is, comment_not_kept, kept_with_is, push_keeps, opened_keeps}

-- ---- what is kept of a character

few : (o : Option ℕ) → length (option_to_list o) ≤ 1
few o = grind arith

one_kept : (s : TextStage) (c : ℕ) → s.ended ≡ false → length (kept_in (events_of_push s c)) ≤ 1
one_kept s c on = by (push_stage s c).ended refl
  where
    by : (d : Bool) → (push_stage s c).ended ≡ d → length (kept_in (events_of_push s c)) ≤ 1
    by true e = subst (λ (k : List ℕ). length k ≤ 1) (sym (none_kept_at_end s c on e)) (omega arith)
    by false e = subst (λ (k : List ℕ). length k ≤ 1) (sym (kept_is s c on e)) (few (kept_at s c))

never_comment : (m : TokenState) → outside m ≡ Comment → ⊥
never_comment m e = grind arith

-- another character than a `(` ends no text
goes_past : (r : TextStage) (c : ℕ) → r.ended ≡ false → (c ≡ 40 → ⊥) → (push_stage r c).ended ≡ false
goes_past r c on apart = by (push_stage r c).ended refl
  where
    by : (d : Bool) → (push_stage r c).ended ≡ d → d ≡ false
    by d e = grind (arith, ended_at)

percent_between : (r : TextStage) (c : ℕ) → c ≡ 37 → r.ended ≡ false → (r.state ≡ Comment → ⊥) → kept_in (events_of_push r c) ≡ [] → is_plain r.state ≡ true
percent_between r c is on apart none = grind arith

module _ (s : TextStage) (k : List ℕ) (keeps : Keeps s k) where
  percent_begins : (c : ℕ) → c ≡ 37 → kept_with k c ≡ [] → begins_comment k ≡ true
  percent_begins c is none = grind (arith, begins_is, percent_between, never_comment, kept_with_is)

  module _ (c : ℕ) where
    abbrev after : TextStage
    after = push_stage s c

    abbrev events : List TextEvent
    events = events_of_push s c

    goes : (push_stage s c).ended ≡ false → GoesOn s k c (events_of_push s c) (push_stage s c)
    goes e = (push_keeps s (push_stage s c) c (events_of_push s c) refl refl).goes k keeps (sym (done_is s c keeps.goes_on) ∙ e)

    kept_now : is_in_comment s ≡ false → kept_in (events_of_push s c) ≡ kept_with k c
    kept_now e = (push_keeps s (push_stage s c) c (events_of_push s c) refl refl).kept k keeps e

    -- where a comment is open after it, nothing is kept of it
    none_kept : is_in_comment (push_stage s c) ≡ true → kept_in (events_of_push s c) ≡ []
    none_kept opened = by (push_stage s c).ended refl
      where
        inside : (b : Bool) → is_in_comment s ≡ b → comment_with k b c ≡ true → (push_stage s c).ended ≡ false → kept_in (events_of_push s c) ≡ []
        inside true e f g = kept_is s c keeps.goes_on g ∙ ap option_to_list (comment_kept s c (comment_is s.state (sym (comment_told s keeps.goes_on) ∙ e)) (not-true (c == 10) f))
        inside false e f g = kept_now e ∙ begun (c == 37) refl f
          where
            begun : (b : Bool) → (c == 37) ≡ b → (b && begins_comment k) ≡ true → kept_with k c ≡ []
            begun b h i = grind (arith, eqb-true, comment_not_kept)

        by : (d : Bool) → (push_stage s c).ended ≡ d → kept_in (events_of_push s c) ≡ []
        by true e = none_kept_at_end s c keeps.goes_on e
        by false e = inside (is_in_comment s) refl (sym (goes e).comment ∙ opened) e

    -- a `%` that is not kept opens a comment
    percent_opens : c ≡ 37 → kept_in (events_of_push s c) ≡ [] → is_in_comment (push_stage s c) ≡ true
    percent_opens is none = grind (arith, goes, goes_past, percent_begins, kept_now)

pub takes : (s : TextStage) (c : ℕ) → Takes s c
takes s c = record {
  events = events_of_push s c;
  after = push_stage s c;
  emits = λ t. rest_is s (c ∷ t) ∙ ap (λ (lists : List (List TextEvent)). events_of_push s c ∷ lists) (sym (rest_is (push_stage s c) t));
  keeps = push_keeps s (push_stage s c) c (events_of_push s c) refl refl;
  one = λ k h. one_kept s c h.goes_on;
  none = λ k h. none_kept s k h c;
  percent = λ k h. percent_opens s k h c;
}

-- ---- where its opener stands

pub opens_there : (s : TextStage) (k : List ℕ) (at : Place) → Keeps s k → is_some (opener_of s) ≡ true → OpensThere s k at
opens_there s k at h opened = record {
  stage = opened_at at s;
  keeps = opened_keeps at s k h;
  opener = opener_opened s at ∙ by (opener_of s) opened;
  comment = comment_opened s at;
}
  where
    by : (o : Option Place) → is_some o ≡ true → option_map (λ _. at) o ≡ Some at
    by o e = grind arith
