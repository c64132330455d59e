use Rattle.std.proofs.Common.{rules, ◌≡◌, [], ◌∷◌, refl, ap, sym, subst, ◌∙◌, arith}
use Rattle.std.proofs.lemmas.Bool.{false≢true}
use Rattle.gabc_body.specs.ScoreEvents.{Found, Stop, End}
use Rattle.gabc_score.specs.machine.Preceded.{Contexts, after_headers, gathered_after}
use Rattle.gabc_score.specs.ScoreStage.{EndsLine, is_final}
use Rattle.gabc_score.specs.declared.preceding.Preceding.{Preceding}
use Rattle.gabc_score.specs.Before.{no_syllable}
use Rattle.gabc_body.specs.witness.Gatherer.{Gathered}
use Rattle.gabc_score.specs.machine.SlotPair.{SlotPairState, slots_after}
use Rattle.gabc_score.specs.witness.BodyStage.{BodyStageState}
use Rattle.gabc_score.proofs.score_events.PendingSyllableHoldsUnit.{none_held}
use Rattle.gabc_score.proofs.score_events.CountsGoOn.{begins_of_text}
use Rattle.gabc_score.proofs.score_events.WholeSyllables.{none_whole}
use Rattle.gabc_score.proofs.score_events.GatheredStaysWithinLimits.{within_begun}
use Rattle.gabc_score.proofs.score_events.WhatIsRead.{comment_reads}
use Rattle.gabc_score.proofs.score_events.FewAndShortAreLent.{lends_none}
use Rattle.gabc_score.proofs.score_events.GivesOutside.{gives_outside}
use Rattle.gabc_score.proofs.score_machine.ScoreMachine.push_in_heads.Goals as goal

pub returns-in-Found : goal.returns-in-Found
returns-in-Found c = record {
  step =
      rw (c.requires.part, c.in-Found.is)
      (gives_outside (Found c.in-Found.finding ∷ []) (λ body. absurd (cc body)) (λ heads lines macros canonical is. absurd (cc is))
      (record { lends = lends_none c.args.self.now.limits _ (Found c.in-Found.finding ∷ []) refl; limits = refl; part = refl; last = λ other final. absurd (cc final); passes = λ other. refl; law = λ xs. refl; emitted = record { events = c.push.ensures; few = omega arith; lent = refl } }));
  rests = search rules;
}

pub returns-in-Stop : goal.returns-in-Stop
returns-in-Stop c = record {
  step =
      rw (c.requires.part, c.in-Stop.is)
      (gives_outside (Stop c.in-Stop.fault ∷ []) (λ body. absurd (cc body)) (λ heads lines macros canonical is. absurd (cc is))
      (record { lends = lends_none c.args.self.now.limits _ (Stop c.in-Stop.fault ∷ []) refl; limits = refl; part = refl; last = λ other final. refl; passes = λ other. tt; law = λ xs. refl; emitted = record { events = c.push-in-Stop.ensures; few = omega arith; lent = refl } }));
  rests = search rules;
}

pub returns-in-End : goal.returns-in-End
returns-in-End c = record {
  step =
      rw (c.requires.part, c.in-End.is)
      (gives_outside (End ∷ []) (λ body. absurd (cc body)) (λ heads lines macros canonical is. absurd (cc is))
      (record { lends = lends_none c.args.self.now.limits _ (End ∷ []) refl; limits = refl; part = refl; last = λ other final. refl; passes = λ other. tt; law = λ xs. refl; emitted = record { events = c.push-in-End.ensures; few = omega arith; lent = refl } }));
  rests = search rules;
}

pub returns-in-Body : goal.returns-in-Body
returns-in-Body c = record {
  step =
      rw (c.requires.part, c.in-Body.is)
      (gives_outside ([]) (λ body. absurd (cc body)) (λ heads lines macros canonical is. absurd (cc is))
      (record { lends = lends_none c.args.self.now.limits _ ([]) refl; limits = refl; part = refl; last = λ other final. absurd (cc final); passes = λ other. tt; law = λ xs. refl; emitted = search rules }));
  rests = search rules;
}

pub returns-in-Heads : goal.returns-in-Heads
returns-in-Heads c =
    let slots = c.follow.ensures ∙ ap (λ (p : Preceding). slots_after p c.args.self.now.pair) c.after_headers.ensures in
    let gathered = ap (λ (s : SlotPairState). s.gathered) slots ∙ ap (gathered_after (no_syllable c.in-Heads.canonical)) c.requires.rests.nothing in
    let contexts : c.follow.new.self.contexts ≡ after_headers c.in-Heads.canonical = ap (λ (s : SlotPairState). s.contexts) slots in
    let made = ap (λ (g : Gathered). g.made) gathered in
    record {
      step =
          record {
            outputs = [];
            lends = lends_none c.args.self.now.limits _ [] refl;
            limits = refl;
            part = search rules;
            last = λ other final. absurd (false≢true (sym (ap is_final c.in-Heads.is) ∙ final));
            passes = λ other. rw c.in-Heads.is tt;
            line = λ lf. absurd (subst EndsLine c.in-Heads.is lf);
            counts = search rules;
            before_held = search rules;
            next = search rules;
            stands = search rules;
            whole = λ body. rw (c.requires.part, c.in-Heads.is)
                (none_whole c.follow.new.self.contexts c.in-Heads.canonical c.follow.new.self.gathered contexts made);
            told = λ may here was body. begins_of_text c.args.self.now.limits c.args.self.now.next c.args.input c.in-Heads.nabc_lines c.in-Heads.macros c.in-Heads.canonical c.restart.new.self c.follow.new.self.contexts c.in-Heads.is
                c.restart.ensures contexts may _ refl refl refl refl (ap (λ (g : Gathered). g.builder.kept) gathered) made;
            holds = λ was body none. ap (λ (k : Contexts). k.before.syllables) contexts;
            law = search rules;
            emitted = search rules;
            front = λ heads lines macros canonical is. search rules;
          };
      rests = record {
        rests = search rules;
        counts = search rules;
        kept = search rules;
        preceded = search rules;
        after = search rules;
        code = search rules;
        reading = comment_reads c.restart.new.self.nabc_lines c.restart.new.self.macros c.in-Heads.canonical c.args.self.now.limits.syllable c.in-Heads.canonical c.restart.new.self.part c.follow.new.self.contexts c.follow.new.self.gathered
            (ap (λ (s : BodyStageState). s.part) c.restart.ensures) contexts gathered;
        units = none_held c.restart.new.self.nabc_lines c.follow.new.self.contexts.before c.follow.new.self.gathered.made made;
        within = within_begun c.args.self.now.limits c.in-Heads.canonical c.follow.new.self.contexts.before c.follow.new.self.gathered (ap (λ (k : Contexts). k.before) contexts) made;
        front = λ e. record { none_before = ap (λ (k : Contexts). k.before.syllables) contexts; none_made = made };
      };
    }
