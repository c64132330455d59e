use Rattle.std.proofs.Common.{◌≡◌, length, sym, ap, subst, ◌∙◌, arith}
use Rattle.std.specs.List.{All}
use Rattle.std.proofs.lemmas.Bool.{true≢false}
use Rattle.std.proofs.lemmas.List.Elements.{All-nil}
use Rattle.gabc_places.specs.BoundedList.{BoundedList}
use Rattle.gabc_places.specs.declared.code.Finding.{Finding}
use Rattle.gabc_score.specs.Before.{preceding_of, with_each}
use Rattle.gabc_score.specs.ScoreReports.{is_in_front}
use Rattle.gabc_body.specs.witness.Gatherer.{Gathered, nothing_gathered}
use Rattle.gabc_score.specs.machine.PartCounts.{CountsHold}
use Rattle.gabc_score.specs.machine.PartKeeps.{IsReading}
use Rattle.gabc_score.specs.machine.Preceded.{Contexts, IsPreceded, none_pending}
use Rattle.gabc_score.specs.machine.Resumed.{gathered_resumed}
use Rattle.gabc_score.specs.machine.ScoreMachine.{IsShort}
use Rattle.gabc_score.specs.machine.SlotPair.{SlotPairState, is_made}
use Rattle.gabc_score.specs.witness.BodyStage.{BodyStageState}
use Rattle.gabc_score.specs.ReportedWithin.{IsAtOutset}
use Rattle.gabc_body.specs.witness.BodyBuilder.{code_in}
use Rattle.gabc_score.proofs.score_events.GatheredStaysWithinLimits.{within_none}
use Rattle.gabc_score.proofs.score_events.PendingSyllableHoldsUnit.{none_held}
use Rattle.gabc_score.proofs.resuming.AfterSyllables.{nothing_passes, preceded_after, reads_after}
use Rattle.gabc_score.proofs.score_machine.ScoreMachine.resume.Goals as goal

pub returns-clause-stands : goal.returns-clause-stands
returns-clause-stands c = grind (arith, none_held)

pub returns-clause-rests : goal.returns-clause-rests
returns-clause-rests c =
    let b = c.args.before in
    let limit = c.args.limits.syllable in
    let gathered : c.resume.new.self.gathered ≡ gathered_resumed b (nothing_gathered limit 0) = ap (λ (s : SlotPairState). s.gathered) c.resume.ensures ∙ ap (gathered_resumed b) c.in_ok-pair.ensures.gathered in
    let contexts : c.resume.new.self.contexts ≡ none_pending (preceding_of b) = ap (λ (s : SlotPairState). s.contexts) c.resume.ensures in
    let used = ap (λ (s : SlotPairState). s.used) c.resume.ensures ∙ c.in_ok-pair.ensures.used in
    let kept = ap (λ (g : Gathered). length g.builder.kept) gathered in
    record {
      rests = record {
        none = ap (λ (r : BoundedList Finding). r.items) c.in_ok-found.ensures;
        room = (let room = ap (λ (r : BoundedList Finding). r.limit) c.in_ok-found.ensures in omega (arith, room));
        limit = ap (λ (g : Gathered). g.limit) gathered;
        used = ap is_made used;
        over = ap (λ (g : Gathered). g.over) gathered;
        short = subst (λ (g : Gathered). All (IsShort limit) g.made) (sym gathered) (All-nil (IsShort limit));
      };
      counts = subst (λ (g : Gathered). CountsHold c.begin_text.new.self.part g.builder) (sym gathered) c.begin_text.ensures.counts;
      kept = omega (arith, kept);
      preceded = rw contexts (subst (IsPreceded (preceding_of b)) (sym gathered) (preceded_after b limit));
      after = rw contexts (ap (λ (g : Gathered). with_each (preceding_of b) g.made) (sym gathered));
      code = ap (code_in c.args.limits) gathered ∙ nothing_passes c.args.limits b limit;
      reading = rw contexts (subst (IsReading c.begin_text.new.self.nabc_lines c.begin_text.new.self.macros c.begin_text.new.self.part b.spans) (sym gathered) (reads_after _ _ limit c.begin_text.new.self.part b (c.begin_text.ensures.keeps _ _)));
      units = none_held c.begin_text.new.self.nabc_lines c.resume.new.self.contexts.before c.resume.new.self.gathered.made (ap (λ (g : Gathered). g.made) gathered);
      within = within_none c.args.limits c.resume.new.self.contexts.before c.resume.new.self.gathered (subst IsAtOutset (sym (ap (λ (k : Contexts). k.before) contexts)) c.requires) (ap (λ (g : Gathered). g.made) gathered);
      front = λ e. absurd (true≢false (sym e ∙ ap (λ (b : BodyStageState). is_in_front b.part) c.begin_text.ensures.text));
    }
