use Rattle.std.proofs.Common.{◌≤◌, [], length, nat_lt, refl, sym, ap, subst, ◌∙◌, append-nil, arith}
use Rattle.gabc_body.specs.ScoreEvents.{outputs_of}
use Rattle.gabc_body.specs.witness.Gatherer.{Gathered}
use Rattle.gabc_score.specs.ScoreStage.{Lends}
use Rattle.gabc_score.specs.machine.Preceded.{Contexts}
use Rattle.gabc_score.specs.machine.ScoreMachine.{has_given}
use Rattle.gabc_score.specs.machine.ScoreStage.{placed_after}
use Rattle.gabc_score.proofs.score_events.FewAndShortAreLent.{held_lends}
use Rattle.gabc_score.proofs.score_machine.ScoreMachine.break_off.Goals as goal

pub returns : goal.returns
returns c =
    let m = c.args.self.now in
    let held = c.free.new.self.held in
    let given = outputs_of [] (placed_after (has_given m) held) in
    let rests = c.requires.stands.rests.rests in
    let preceded = ap (λ (k : Contexts). nat_lt 0 k.before.syllables) c.free.ensures.contexts in
    let few : length (placed_after (has_given m) held) ≤ 1 = rw (sym preceded) c.give_broken.ensures.few in
    record {
      step = record {
        outputs = given;
        lends = subst (Lends m.limits 1) (append-nil given) (held_lends m.limits 1 (has_given m) held m.pair.gathered.made [] refl c.free.ensures.held rests.short few (omega arith));
        limits = refl;
        law = rw (c.requires.stands.part, c.free.ensures.held) refl;
        emitted = rw (sym preceded) c.give_broken.ensures.emitted;
      };
      part = refl;
      keeps = record { room = rests.room; limit = c.give_broken.ensures.limit ∙ ap (λ (g : Gathered). g.limit) c.free.ensures.gathered ∙ rests.limit };
    }
