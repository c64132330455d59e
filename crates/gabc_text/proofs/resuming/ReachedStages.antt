-- What holds of every stage that has read a text.
use Rattle.std.proofs.lemmas.Bool.{false≢true, false_from_ne_true}
use Rattle.std.proofs.Common.{arith, ◌≡◌, ◌||◌, ℕ, List, [], ◌∷◌, Bool, true, false, cond, Option, Some, None, refl, sym, ◌∙◌}
use Rattle.gabc_places.specs.declared.place.Place.{Place}
use Rattle.gabc_text.specs.declared.text_facts.TextFacts.{TextFacts}
use Rattle.gabc_text.specs.declared.token.TokenKind.{TokenKind}
use Rattle.gabc_text.specs.declared.token.TagEffect.{TagEffect}
use Rattle.gabc_text.specs.declared.token.TagEffect.TheVariants as tag
use Rattle.gabc_text.specs.declared.token_state.Step.TheVariants.{Stays}
use Rattle.gabc_text.specs.declared.token_state.TokenState.TheVariants.{Comment}
use Rattle.gabc_text.specs.declared.stage.TextStage.{TextStage}
use Rattle.gabc_text.specs.witness.StageReports.{moved_to, opened_at}
use Rattle.gabc_text.specs.machine.StageReports.{is_comment}
use Rattle.gabc_text.specs.TextStage.{fresh_stage}
use Rattle.gabc_text.specs.machine.RawPart.{stage_past}
use Rattle.gabc_text.specs.machine.Resuming.{IsReached}
use Rattle.gabc_text.specs.machine.TextFacts.{facts_after}
use Rattle.gabc_text.specs.machine.TokenState.{settled_kind, step_at_tag_end, keep, is_plain}
use Rattle.gabc_text.specs.machine.TextStage.{token_stage, settle_stage_by, stage_past_char, stage_after_step, read_stage, settled_push_stage, push_stage}

record AreReached (facts : TextFacts) : Type 0 where
  pub blank : facts.space ≡ true → facts.blank ≡ true
  pub starts : facts.space ≡ true → (facts.word || facts.starts) ≡ true

facts_reached : (facts : TextFacts) (k : TokenKind) (e : TagEffect) → AreReached facts → AreReached (facts_after facts k e)
facts_reached facts k e h = grind arith

token_reached : (s : TextStage) (k : TokenKind) (e : TagEffect) → AreReached s.facts → IsReached (token_stage s k e s.progress.next)
token_reached s k e h = let g = facts_reached s.facts k e h in record { between = λ _. refl; start = λ _. refl; blank = g.blank; starts = g.starts }

-- within a token that is no comment
within : (s : TextStage) → AreReached s.facts → is_plain s.state ≡ false → is_comment s.state ≡ false → IsReached s
within s h p c = grind arith

tag_end_reached : (s : TextStage) (e : TagEffect) → AreReached s.facts → IsReached (stage_after_step s (step_at_tag_end e))
tag_end_reached s e h = grind arith

-- a comment keeps nothing
comment_reached : (s : TextStage) (c : ℕ) → IsReached s → keep s.facts s.state c ≡ None → s.progress.start ≡ s.progress.kept → IsReached (stage_after_step (stage_past_char s c) (Stays Comment))
comment_reached s c reached none start = record { between = λ e. absurd (false≢true e); start = λ _. rw none start; blank = reached.blank; starts = reached.starts }

read_reached : (s : TextStage) (c : ℕ) → IsReached s → IsReached (read_stage s c)
read_reached s c reached = grind (arith, within, comment_reached, token_reached, tag_end_reached)

settled_reached : (s : TextStage) (c : ℕ) → IsReached s → IsReached (settled_push_stage s c)
settled_reached s c reached = grind (arith, read_reached)

pub push_reached : (s : TextStage) (c : ℕ) → IsReached s → IsReached (push_stage s c)
push_reached s c reached = by s.ended (settled_kind s.state c)
  where
    by : (b : Bool) (o : Option TokenKind) → IsReached (cond b s (settled_push_stage (settle_stage_by s o) c))
    by true o = reached
    by false None = settled_reached s c reached
    by false (Some k) = settled_reached (token_stage s k tag.Other s.progress.next) c (token_reached s k tag.Other (record { blank = reached.blank; starts = reached.starts }))

pub fresh_reached : (at : Place) → IsReached (fresh_stage at)
fresh_reached at = record { between = λ _. refl; start = λ _. refl; blank = λ e. absurd (false≢true e); starts = λ e. absurd (false≢true e) }

pub moved_reached : (at : Place) (s : TextStage) → IsReached s → IsReached (moved_to at s)
moved_reached at s reached = grind arith

pub opened_reached : (at : Place) (s : TextStage) → IsReached s → IsReached (opened_at at s)
opened_reached at s reached = grind arith

-- ---- many characters

done_stays : (s : TextStage) (t : List ℕ) → s.ended ≡ true → (stage_past s t).ended ≡ true
done_stays s [] e = e
done_stays s (c ∷ t) e = done_stays (push_stage s c) t (rw e refl)

pub goes_on : (s : TextStage) (t : List ℕ) → (stage_past s t).ended ≡ false → s.ended ≡ false
goes_on s t e = false_from_ne_true s.ended (λ f. false≢true (sym e ∙ done_stays s t f))
