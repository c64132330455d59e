use Rattle.std.proofs.Common.{rules, [], refl}
use Rattle.gabc_score.proofs.score_events.FewAndShortAreLent.{lends_none}
use Rattle.gabc_score.proofs.score_events.GivesOutside.{gives_outside}
use Rattle.gabc_score.proofs.score_machine.ScoreMachine.push.Goals as goal

pub returns-in-Over : goal.returns-in-Over
returns-in-Over c = record {
  step =
      rw c.in-Over.is
      (gives_outside [] (λ body. absurd (cc body)) (λ heads. absurd (cc heads))
      (record { lends = lends_none c.args.self.now.limits _ [] refl; limits = refl; part = refl; last = λ other final. absurd (other refl); passes = λ other. absurd (other refl); law = λ xs. refl; emitted = search rules }));
  rests = search rules;
}
