use Rattle.std.proofs.Common.{length, subst, ◌∙◌, sym}
use Rattle.std.proofs.lemmas.Bool.{eqb-true}
use Rattle.std.proofs.lemmas.List.{nil_from_length}
use Rattle.gabc_score.specs.declared.score_machine.ScorePart.{ScorePart}
use Rattle.gabc_score.specs.machine.ScoreMachine.{IsInBody, IsScoreAt}
use Rattle.gabc_score.proofs.runs.MachineIsBetweenSyllables.{stands_between}
use Rattle.gabc_score.proofs.score_machine.ScoreMachine.is_between.Goals as goal

pub returns : goal.returns
returns c = λ yes.
    let m = c.args.self.now in
    let rests : IsInBody m = subst (λ (p : ScorePart). IsScoreAt p m) c.in-Body.is c.requires.rests in
    stands_between m c.args.at _ c.in-Body.is rests c.in-Some.ensures
    (sym c.reading.ensures ∙ nil_from_length c.reading.result.now (eqb-true (length c.reading.result.now) 0 (sym c.if-not-is_empty.ensures)))
    (c.begins_text.ensures.0 yes)
