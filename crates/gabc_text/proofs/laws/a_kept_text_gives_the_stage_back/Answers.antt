use Rattle.std.proofs.Common.{◌≡◌, ◌+◌, ◌<◌, ℕ, List, [], ◌∷◌, ◌++◌, length, get_or, take, drop, false, Option, sym, ap, ◌∙◌, subst, arith}
use Rattle.std.proofs.lemmas.List.{take_more, take_all, take-append-drop, drop_more}
use Rattle.gabc_places.specs.BoundedList.{extended_by}
use Rattle.gabc_places.specs.BoundedList.{BoundedList}
use Rattle.gabc_text.specs.declared.text_event.TextEvent.{TextEvent}
use Rattle.gabc_text.specs.declared.stage.TextStage.{TextStage}
use Rattle.gabc_text.specs.witness.Keeps.{Keeps, KeepsOn}
use Rattle.gabc_text.specs.StageReports.{is_in_comment}
use Rattle.gabc_text.specs.witness.StageReports.{next_of}
use Rattle.std.specs.Option.{unwrap_or}
use Rattle.gabc_places.specs.declared.place.Place.{Place}
use Rattle.gabc_text.proofs.resuming.KeptTextGivesStage.{IsBack, reads_on, comment_back, opener_back}
use Rattle.gabc_text.proofs.resuming.StagesKeep.{kept_suffices}
use Rattle.gabc_text.proofs.resuming.EndedAndFreshStagesHaveNothingOpen.{comment_fresh, comment_moved}
use Rattle.gabc_text.proofs.laws.a_kept_text_gives_the_stage_back.Goals as goal
use Rattle.gabc_text.proofs.laws.a_kept_text_gives_the_stage_back.Goals.{then-in_comment, else-in_comment}

-- what a push emits into a room without events
pushed : (s : TextStage) (c : ℕ) (after : TextStage) (old new : BoundedList TextEvent) → old ≡ record { items = []; limit = 8 } → KeepsOn s c (drop (length old.items) new.items) after → KeepsOn s c new.items after
pushed s c after old new e = rw e (λ h. h)

emptied : (old new cleared : BoundedList TextEvent) → old ≡ record { items = []; limit = 8 } → (events : List TextEvent) → new ≡ extended_by old events → cleared ≡ record { items = []; limit = new.limit } → cleared ≡ record { items = []; limit = 8 }
emptied old new cleared e events f g = g ∙ ap (λ (r : BoundedList TextEvent). record { items = []; limit = r.limit }) (f ∙ ap (λ (r : BoundedList TextEvent). extended_by r events) e)

taken : (k : List ℕ) (i c : ℕ) → i < length k → c ≡ get_or k i c → take (i + 1) k ≡ take i k ++ c ∷ []
taken k i c h e = take_more k i c h ∙ ap (λ (x : ℕ). take i k ++ x ∷ []) (sym e)

parted_at : (k : List ℕ) (i c : ℕ) → i < length k → c ≡ get_or k i c → k ≡ take i k ++ c ∷ drop (i + 1) k
parted_at k i c h e = sym (take-append-drop i k) ∙ ap (λ (t : List ℕ). take i k ++ t) (drop_more k i c h ∙ ap (λ (x : ℕ). x ∷ drop (i + 1) k) (sym e))

pub loop-c-init : goal.loop-c-init
loop-c-init c = grind (arith, comment_fresh)

pub push-requires : goal.push-requires
push-requires c = rw c.loop-c.invariant.empty (omega arith)

pub loop-c-preserved : goal.loop-c-preserved
loop-c-preserved c =
    let i = c.loop-c.invariant in
    record {
      back = subst (λ (t : List ℕ). IsBack t false c.push.new.self) (sym (taken c.args.kept.now c.loop-c.c-index c.c-item.result c.loop-c-test.true c.c-item.is))
          (reads_on (take c.loop-c.c-index c.args.kept.now) c.loop-c.again i.back c.args.stage.now c.c-item.result (drop (c.loop-c.c-index + 1) c.args.kept.now) c.push.new.out.items c.push.new.self
          (subst (Keeps c.args.stage.now) (parted_at c.args.kept.now c.loop-c.c-index c.c-item.result c.loop-c-test.true c.c-item.is) c.requires.keeps)
          (pushed c.loop-c.again c.c-item.result c.push.new.self c.loop-c.room c.push.new.out i.empty c.push.ensures.steps.keeps));
      empty = emptied c.loop-c.room c.push.new.out c.clear.new.self i.empty c.push.ensures.events.events c.push.ensures.events.out c.clear.ensures;
    }

pub push-requires-then-in_comment : goal.push-requires-then-in_comment
push-requires-then-in_comment c = rw c.loop-c.invariant.empty (omega arith)

back_after : (c : goal.After-go_to) → IsBack c.args.kept.now (is_in_comment c.args.stage.now) c.if-in_comment.again
back_after c = elim c.if-in_comment.branch [
  | then-in_comment w ↦
      let comment = sym c.in_comment.ensures ∙ w.if-in_comment.true in
      rw (comment, w.again-is) (comment_back c.args.kept.now c.loop-c.again whole c.args.stage.now w.push-then-in_comment.new.out.items w.push-then-in_comment.new.self c.requires.keeps comment
      (pushed c.loop-c.again 37 w.push-then-in_comment.new.self c.loop-c.room w.push-then-in_comment.new.out c.loop-c.invariant.empty w.push-then-in_comment.ensures.steps.keeps))
  | else-in_comment w ↦ rw (sym c.in_comment.ensures ∙ w.if-in_comment.false, w.again-is) whole
]
  where
    whole : IsBack c.args.kept.now false c.loop-c.again
    whole = subst (λ (t : List ℕ). IsBack t false c.loop-c.again) (take_all c.loop-c.c-index c.args.kept.now c.loop-c-test.false) c.loop-c.invariant.back

pub returns-clause-keeps : goal.returns-clause-keeps
returns-clause-keeps c = c.go_to.ensures.keeps c.args.kept.now (c.open_at.ensures.keeps c.args.kept.now (back_after c).keeps)

pub returns-clause-opener : goal.returns-clause-opener
returns-clause-opener c =
    c.go_to.ensures.opener
    ∙ c.open_at.ensures.opener
    ∙ opener_back c.unwrap_or-place.result _ c.args.kept.now c.args.stage.now c.if-in_comment.again c.requires.keeps (back_after c).keeps
    (c.unwrap_or-place.ensures ∙ ap (λ (o : Option Place). unwrap_or o (record { line = 1; column = 1 })) c.opener.ensures)

pub returns-clause-comment : goal.returns-clause-comment
returns-clause-comment c = ap is_in_comment c.go_to.ensures.moved ∙ comment_moved _ _ ∙ c.open_at.ensures.comment ∙ (back_after c).comment_is

pub returns-clause-next : goal.returns-clause-next
returns-clause-next c = ap next_of c.go_to.ensures.moved ∙ c.next.ensures.reports

pub returns-clause-events : goal.returns-clause-events
returns-clause-events c = kept_suffices c.go_to.new.self c.args.stage.now c.args.kept.now (returns-clause-keeps c) c.requires.keeps (returns-clause-opener c) (returns-clause-comment c) (returns-clause-next c)
