use Rattle.std.proofs.Common.{rules, ◌++◌, [], ◌∷◌, nat_lt, refl, sym, ap, arith}
use Rattle.gabc_body.specs.ScoreEvents.{Found, Stop, outputs_of}
use Rattle.gabc_score.specs.machine.Preceded.{Contexts}
use Rattle.gabc_score.specs.machine.ScoreMachine.{has_given}
use Rattle.gabc_score.specs.machine.ScoreStage.{placed_after}
use Rattle.gabc_score.proofs.score_events.CharactersAreRead.{character_gives, character_rests}
use Rattle.gabc_score.proofs.score_events.FewAndShortAreLent.{held_lends, lends_none}
use Rattle.gabc_score.proofs.score_events.GivesOutside.{gives_outside}
use Rattle.gabc_score.proofs.score_events.PartsFollow.{last_after, leads_out}
use Rattle.gabc_score.proofs.score_machine.ScoreMachine.push_in_body.Goals as goal

pub returns-in-Found : goal.returns-in-Found
returns-in-Found c = record {
  step =
      rw (c.requires.stands.part, c.in-Found.is) (record {
        outputs = Found c.in-Found.finding ∷ [];
        lends = lends_none c.args.self.now.limits _ (Found c.in-Found.finding ∷ []) refl;
        limits = refl;
        part = refl;
        last = λ other final. absurd (cc final);
        passes = λ other. refl;
        line = λ lf. absurd lf;
        counts = λ place here was. was;
        before_held = λ body. refl;
        next = λ body. refl;
        stands = λ here was. was;
        whole = λ body. omega arith;
        told = λ may here was. was;
        holds = λ was. was;
        law = λ xs. refl;
        emitted = record { events = c.push.ensures; few = omega arith; lent = refl };
        front = λ heads. absurd (cc heads);
      });
  rests = search rules;
}

pub returns-in-Stop : goal.returns-in-Stop
returns-in-Stop c = record {
  step =
      let held = c.free.new.self.held in
      let given = outputs_of [] (placed_after (has_given c.args.self.now) held) in
      let preceded = ap (λ (k : Contexts). nat_lt 0 k.before.syllables) c.free.ensures.contexts in
      gives_outside (given ++ Stop c.in-Stop.fault ∷ []) (λ body. absurd (cc (body, c.stop.ensures.part))) (λ heads. absurd (cc (heads, c.requires.stands.part))) (record {
        lends = rw c.in-Stop.is (held_lends c.args.self.now.limits 1 (has_given c.args.self.now) held c.args.self.now.pair.gathered.made (Stop c.in-Stop.fault ∷ []) refl c.free.ensures.held c.requires.stands.rests.rests.short (rw (sym preceded) c.stop.ensures.few) (omega arith));
        limits = c.stop.ensures.limits;
        part = leads_out c.args.self.now.part c.stop.new.self.part _ given (Stop c.in-Stop.fault) c.requires.stands.part c.stop.ensures.part refl;
        last = λ other final. last_after given (Stop c.in-Stop.fault) refl;
        passes = λ other. rw c.in-Stop.is tt;
        law = search rules;
        emitted = rw (sym preceded) c.stop.ensures.emitted;
      });
  rests = search rules;
}

pub returns-in-Heads : goal.returns-in-Heads
returns-in-Heads c = record {
  step =
      rw (c.requires.stands.part, c.in-Heads.is) (record {
        outputs = [];
        lends = lends_none c.args.self.now.limits _ [] refl;
        limits = refl;
        part = refl;
        last = λ other final. absurd (cc final);
        passes = λ other. tt;
        line = λ lf. absurd lf;
        counts = λ place here was. was;
        before_held = λ body. refl;
        next = λ body. refl;
        stands = λ here was. was;
        whole = λ body. omega arith;
        told = λ may here was. was;
        holds = λ was. was;
        law = λ xs. refl;
        emitted = search rules;
        front = λ heads. absurd (cc heads);
      });
  rests = search rules;
}

pub returns-in-Body : goal.returns-in-Body
returns-in-Body c = rw c.in-Body.is (record { step = character_gives c.requires.stands.part c.requires.stands.rests c.read.ensures; rests = character_rests c.requires.stands.part c.requires.stands.rests c.read.ensures })
