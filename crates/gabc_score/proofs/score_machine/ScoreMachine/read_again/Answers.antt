use Rattle.std.proofs.Common.{◌++◌, ◌∷◌, [], Bool, List, ℕ, cond, false, refl, sym, ap, subst, ◌∙◌}
use Rattle.std.specs.Str.{chars}
use Rattle.std.proofs.lemmas.Bool.{true≢false}
use Rattle.gabc_score.specs.ScoreReports.{moved_to}
use Rattle.gabc_score.specs.declared.reading_again.SyllableRead.TheVariants.{Open}
use Rattle.gabc_score.specs.declared.score_machine.ScorePart.{ScorePart}
use Rattle.gabc_score.specs.machine.ScoreMachine.{IsScoreAt, shown}
use Rattle.gabc_score.specs.witness.BodyStage.{BodyStageState}
use Rattle.gabc_score.specs.witness.ScoreStage.{ScoreStageState}
use Rattle.gabc_score.proofs.resuming.MachinesReadAgain.{in_body_stands, limits_through, memory_through, stands_through}
use Rattle.gabc_score.proofs.resuming.StagesMove.{score_opened}
use Rattle.gabc_score.proofs.score_events.MemoryIsKept.{keeps}
use Rattle.gabc_score.proofs.score_machine.ScoreMachine.read_again.Goals as goal

-- the characters that are read
abbrev text : List ℕ → Bool → List ℕ
text kept comment = chars kept ++ cond comment (37 ∷ []) []

pub returns-in_default-read_reported : goal.returns-in_default-read_reported
returns-in_default-read_reported c =
    let old = c.args.self.now in
    let k = c.read_reported.new.self in
    let memory = memory_through false Open c.read_reported.result old k (text c.args.kept.now c.args.in_comment) (keeps old old.part c.requires.rests) c.read_reported.ensures in
    record {
      rests = record { room = memory.room; limit = memory.limit };
      reads = record {
        rests = c.requires.rests;
        limits = limits_through false Open c.read_reported.result old k (text c.args.kept.now c.args.in_comment) c.read_reported.ensures;
        was = λ good. absurd (true≢false (sym good));
        none = λ bad. refl;
        over = λ bad body. refl;
        outside = λ no. absurd (no c.in-Body.is);
        read = λ body. record {
          m = k;
          left = c.read_reported.result;
          steps = c.read_reported.ensures;
          good = λ is. absurd (c.in_default-read_reported.not-Open is);
          still = λ good. absurd (true≢false (sym good));
          there = λ good. absurd (true≢false (sym good));
        };
      };
    }

pub go_to-requires : goal.go_to-requires
go_to-requires c =
    let k = c.read_reported.new.self in
    let stands = stands_through false c.args.self.now k (text c.args.kept.now c.args.in_comment) (in_body_stands c.args.self.now c.requires.rests c.in-Body.is) c.in-Open.ensures in
    record { rests = score_opened k k.next c.open_at.new.self c.open_at.ensures.keeps c.args.openers c.open_at.ensures.opened k.part (subst (λ (p : ScorePart). IsScoreAt p k) (sym stands.part) stands.rests) }

pub returns-clause-reads : goal.returns-clause-reads
returns-clause-reads c =
    let old = c.args.self.now in
    let k = c.read_reported.new.self in
    let there = c.go_to.ensures.moved ∙ ap (λ (b : BodyStageState). moved_to c.args.next (shown (record k { body = b }))) c.open_at.ensures.opened in
    record {
      rests = c.requires.rests;
      limits = ap (λ (s : ScoreStageState). s.limits) there ∙ limits_through false Open Open old k (text c.args.kept.now c.args.in_comment) c.in-Open.ensures;
      was = λ good. c.in-Body.is;
      none = λ bad. absurd (true≢false bad);
      over = λ bad. absurd (true≢false bad);
      outside = λ no. absurd (no c.in-Body.is);
      read = λ body. record {
        m = k;
        left = Open;
        steps = c.in-Open.ensures;
        good = λ is. refl;
        still = λ good. refl;
        there = λ good. there;
      };
    }
