use Rattle.std.proofs.Common.{rules, ◌≡◌, ap, ◌∙◌}
use Rattle.gabc_score.specs.machine.Preceded.{Contexts, after_headers, gathered_after}
use Rattle.gabc_score.specs.declared.preceding.Preceding.{Preceding}
use Rattle.gabc_score.specs.Before.{no_syllable}
use Rattle.gabc_body.specs.witness.Gatherer.{Gathered}
use Rattle.gabc_score.specs.machine.SlotPair.{SlotPairState, slots_after}
use Rattle.gabc_score.proofs.score_events.PendingSyllableHoldsUnit.{none_held}
use Rattle.gabc_score.proofs.score_events.GatheredStaysWithinLimits.{within_begun}
use Rattle.gabc_score.proofs.score_events.WhatIsRead.{comment_reads}
use Rattle.gabc_score.proofs.score_machine.ScoreMachine.in_body.Goals as goal

pub returns-clause-rests : goal.returns-clause-rests
returns-clause-rests c =
    let slots = c.follow.ensures ∙ ap (λ (p : Preceding). slots_after p c.in_ok-pair.pair) c.after_headers.ensures in
    let gathered = ap (λ (s : SlotPairState). s.gathered) slots ∙ ap (gathered_after (no_syllable c.args.head)) c.in_ok-pair.ensures.gathered in
    let contexts : c.follow.new.self.contexts ≡ after_headers c.args.head = ap (λ (s : SlotPairState). s.contexts) slots in
    let made = ap (λ (g : Gathered). g.made) gathered in
    record {
      rests = search rules;
      counts = search rules;
      kept = search rules;
      preceded = search rules;
      after = search rules;
      code = search rules;
      reading = comment_reads c.args.body.nabc_lines c.args.body.macros c.args.head c.args.limits.syllable c.args.head c.args.body.part c.follow.new.self.contexts c.follow.new.self.gathered c.requires contexts gathered;
      units = none_held c.args.body.nabc_lines c.follow.new.self.contexts.before c.follow.new.self.gathered.made made;
      within = within_begun c.args.limits c.args.head c.follow.new.self.contexts.before c.follow.new.self.gathered (ap (λ (k : Contexts). k.before) contexts) made;
      front = λ e. record { none_before = ap (λ (k : Contexts). k.before.syllables) contexts; none_made = made };
    }
