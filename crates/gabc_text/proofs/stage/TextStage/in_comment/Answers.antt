use Rattle.std.proofs.Common.{◌≡◌, Bool, true, false, cond, not, sym, ap, ◌∙◌, arith}
use Rattle.gabc_text.specs.declared.token_state.TokenState.{TokenState}
use Rattle.gabc_text.specs.declared.token_state.TokenState.TheVariants.{Comment}
use Rattle.gabc_text.specs.machine.StageReports.{is_comment}
use Rattle.gabc_text.proofs.resuming.EndedAndFreshStagesHaveNothingOpen.{comment_by}
use Rattle.gabc_text.proofs.stage.TextStage.in_comment.Goals as goal

turned : (d : Bool) → cond d false true ≡ not d
turned d = grind arith

never : (d : Bool) → cond d false false ≡ false
never d = grind arith

other : (s : TokenState) → (s ≡ Comment → ⊥) → is_comment s ≡ false
other s e = grind arith

pub returns-in-Comment : goal.returns-in-Comment
returns-in-Comment c =
    let s = c.args.self.now in
    sym (comment_by s ∙ ap (λ (m : TokenState). cond s.ended false (is_comment m)) c.in-Comment.is ∙ turned s.ended ∙ ap (λ (b : Bool). not b) (sym c.is_done.ensures))

pub returns-in_default : goal.returns-in_default
returns-in_default c =
    let s = c.args.self.now in
    sym (comment_by s ∙ ap (λ (b : Bool). cond s.ended false b) (other s.state c.in_default.not-Comment) ∙ never s.ended)
