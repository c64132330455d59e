-- A stage that has ended reports no opener and no comment, and the place at which it stood. One that
-- goes on has counted the character.
use Rattle.std.proofs.Common.{arith, ◌≡◌, ◌==◌, ◌&&◌, ◌||◌, ℕ, List, Bool, true, false, cond, Option, Some, None, refl, ap, sym, ◌∙◌, subst}
use Rattle.std.specs.List.{list_any}
use Rattle.gabc_places.specs.Place.{saturating_next_place}
use Rattle.gabc_text.specs.End.{is_end}
use Rattle.gabc_text.specs.declared.text_event.TextEvent.{TextEvent}
use Rattle.gabc_text.specs.declared.stage.TextStage.{TextStage}
use Rattle.gabc_text.specs.declared.token.TokenKind.{TokenKind}
use Rattle.gabc_text.specs.declared.token_state.Step.{Step}
use Rattle.gabc_text.specs.StageReports.{EndedInPlace}
use Rattle.gabc_text.specs.declared.token.TagEffect.TheVariants.{Other}
use Rattle.gabc_text.specs.machine.TextStage.{token_stage, settle_stage, settle_stage_by, end_stage, stage_past_char, stage_after_step, read_stage, settled_push_stage, push_stage, events_of_push, finish_stage, finish_stage_by}
use Rattle.gabc_text.specs.witness.StageReports.{next_of}
use Rattle.gabc_text.proofs.resuming.EndsAndKept.{done_is}
use Rattle.gabc_text.proofs.resuming.ReachedStages.{goes_on}
use Rattle.gabc_text.proofs.resuming.EndedAndFreshStagesHaveNothingOpen.{opener_over, comment_over}
use Rattle.gabc_text.proofs.resuming.WhatStagesTell.{next_goes}
use Rattle.gabc_text.specs.machine.TokenState.{settled_kind, next_step, kind_at_end, is_plain}

-- a stage that ends
ends_there : (t u : TextStage) → u.progress.next ≡ t.progress.next → EndedInPlace t (end_stage u)
ends_there t u n = record { opener = opener_over (end_stage u) refl; comment = comment_over (end_stage u) refl; next = n }

-- a token that ends leaves a stage running, and where it stood
settled_runs : (t : TextStage) (o : Option TokenKind) → ((settle_stage_by t o).ended ≡ t.ended) × ((settle_stage_by t o).progress.next ≡ t.progress.next)
settled_runs t o = grind arith

-- so does a step
step_runs : (t : TextStage) (s : Step) → (stage_after_step t s).ended ≡ t.ended
step_runs t s = grind arith

-- at a character, after the token that ended before it
settled_ends : (t u next : TextStage) (c : ℕ) → u.ended ≡ false → u.progress.next ≡ t.progress.next → next ≡ settled_push_stage u c → next.ended ≡ true → EndedInPlace t next
settled_ends t u next c runs place is d = go (c == 40 && is_plain u.state) refl
  where
    go : (b : Bool) → (c == 40 && is_plain u.state) ≡ b → EndedInPlace t next
    go true e =
        subst (EndedInPlace t) (sym (is ∙ ap (λ (b : Bool). cond b (end_stage u) (read_stage u c)) e))
        (ends_there t u place)
    go false e =
        let f = ap (λ (s : TextStage). s.ended) (is ∙ ap (λ (b : Bool). cond b (end_stage u) (read_stage u c)) e) in
        let g = step_runs (stage_past_char u c) (next_step u.state c) in
        absurd (cc)

-- at a character
pub push_ended : (t next : TextStage) (c : ℕ) → next ≡ push_stage t c → t.ended ≡ false → next.ended ≡ true → EndedInPlace t next
push_ended t next c n r d =
    let s = settled_runs t (settled_kind t.state c) in
    settled_ends t (settle_stage t c) next c (s.0 ∙ r) s.1 (n ∙ ap (λ (b : Bool). cond b t (settled_push_stage (settle_stage t c) c)) r) d

-- at the end of the characters
pub finish_ended : (t next : TextStage) → next ≡ finish_stage t → t.ended ≡ false → EndedInPlace t next
finish_ended t next n r = subst (EndedInPlace t) (sym (n ∙ ap (λ (b : Bool). cond b t (finish_stage_by t (kind_at_end t.state))) r)) (go (kind_at_end t.state))
  where
    go : (o : Option TokenKind) → EndedInPlace t (finish_stage_by t o)
    go None = ends_there t t refl
    go (Some k) = ends_there t (token_stage t k Other t.progress.next) refl

-- a stage that has ended stays as it is
pub push_stays : (t next : TextStage) (c : ℕ) → next ≡ push_stage t c → t.ended ≡ true → next ≡ t
push_stays t next c n d = n ∙ ap (λ (b : Bool). cond b t (settled_push_stage (settle_stage t c) c)) d

pub finish_stays : (t next : TextStage) → next ≡ finish_stage t → t.ended ≡ true → next ≡ t
finish_stays t next n d = n ∙ ap (λ (b : Bool). cond b t (finish_stage_by t (kind_at_end t.state))) d

-- ---- a stage ends with the event that ends its text

push_ends_by : (t : TextStage) (c : ℕ) (d : Bool) → t.ended ≡ d → (push_stage t c).ended ≡ (d || list_any is_end (events_of_push t c))
push_ends_by t c d e = grind (arith, push_stays, done_is)

pub push_ends : (t next : TextStage) (c : ℕ) (events : List TextEvent) → next ≡ push_stage t c → events ≡ events_of_push t c → next.ended ≡ (t.ended || list_any is_end events)
push_ends t next c events n e = rw (n, e) (push_ends_by t c t.ended refl)

-- ---- the place of the next character, after one that does not end the text

pub push_next : (t next : TextStage) (c : ℕ) → next ≡ push_stage t c → next.ended ≡ false → next_of next ≡ saturating_next_place (next_of t) c
push_next t next c n goes = grind (arith, next_goes, goes_on)
