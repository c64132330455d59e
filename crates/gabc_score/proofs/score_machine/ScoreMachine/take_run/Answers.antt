use Rattle.std.proofs.Common.{rules, ◌≡◌, ◌||◌, not, nat_lt, ℕ, List, [], ◌∷◌, ◌++◌, refl, sym, ap, subst, ◌∙◌}
use Rattle.std.proofs.lemmas.List.Elements.{All-nil}
use Rattle.std.proofs.lemmas.Str.{chars-nil}
use Rattle.std.specs.List.{All}
use Rattle.std.specs.Str.{IsUtf8, chars}
use Rattle.gabc_places.specs.Place.{place_past}
use Rattle.gabc_places.specs.TextOfAnInput.{IsPlain}
use Rattle.gabc_places.specs.declared.place.Place.{Place}
use Rattle.gabc_body.specs.Canonical.{position_by}
use Rattle.gabc_score.specs.GivesSyllables.{GivesSyllables}
use Rattle.gabc_score.specs.witness.ScoreStage.{ScoreStageState}
use Rattle.gabc_body.specs.witness.Gatherer.{Gathered}
use Rattle.gabc_body.specs.Syllable.{PlacedSyllable}
use Rattle.gabc_score.specs.declared.preceding.Preceding.{Preceding}
use Rattle.gabc_score.specs.declared.run.Found.{Found}
use Rattle.gabc_score.specs.declared.run.Reached.{Reached}
use Rattle.gabc_score.specs.declared.score_machine.ScoreMachine.{ScoreMachine}
use Rattle.gabc_score.specs.machine.Preceded.{Contexts}
use Rattle.gabc_score.specs.machine.RegularLen.{BeginsRegularly}
use Rattle.gabc_score.specs.machine.Run.{IsFound, IsFrontOf, IsSamePair, KeepsFirstSound, RunsTo, TakesRun, len_of}
use Rattle.gabc_score.specs.machine.ScoreMachine.{shown, IsScore}
use Rattle.gabc_score.proofs.runs.RunBegins.{held_of}
use Rattle.gabc_score.proofs.runs.RunIsTaken.{gives_none, gives_same, shown_same, placed_first, run_to_first}
use Rattle.gabc_score.proofs.score_machine.ScoreMachine.take_run.Goals as goal

-- ---- nothing is taken

none_front : (text : List ℕ) (at : Place) → IsUtf8 text → IsFrontOf text at (record { bytes = 0; next = at })
none_front text at utf8 = record { within = search rules; plain = subst (All IsPlain) (sym chars-nil) (All-nil IsPlain); next = ap (place_past at) (sym chars-nil) }

none_given : (s t : ScoreStageState) (at : Place) → t ≡ record s { first = t.first; second = t.second } → GivesSyllables s at (chars []) [] t
none_given s t at e = subst (λ (u : List ℕ). GivesSyllables s at u [] t) (sym chars-nil) (subst (GivesSyllables s at [] []) (sym e) (gives_none s at t.first t.second))

none_taken : {Taker : Type 0} (given_by : Taker → List PlacedSyllable → Taker) (m : ScoreMachine) (text : List ℕ) (at : Place) (out : Taker) → IsUtf8 text → IsScore m → out ≡ given_by out []
    → TakesRun given_by m at text (record { bytes = 0; next = at }) m out out
none_taken given_by m text at out utf8 rests none = record { front = none_front text at utf8; runs = record { syllables = []; gives = none_given (shown m) (shown m) at refl; taken = none }; rests = rests }

pub returns-then-not-is_low : goal.returns-then-not-is_low
returns-then-not-is_low g c = none_taken g.G.Give.given c.args.self.now c.args.text.now c.args.at c.args.out.now c.utf8.text c.requires (sym (g.met.G.Give.given_none c.args.out.now))

pub returns-then-is_first_with : goal.returns-then-is_first_with
returns-then-is_first_with g c = none_taken g.G.Give.given c.args.self.now c.args.text.now c.args.at c.args.out.now c.utf8.text c.requires (sym (g.met.G.Give.given_none c.args.out.now))

pub returns-in_default : goal.returns-in_default
returns-in_default g c = none_taken g.G.Give.given c.args.self.now c.args.text.now c.args.at c.args.out.now c.utf8.text c.requires (sym (g.met.G.Give.given_none c.args.out.now))

pub returns-then-not-give_held : goal.returns-then-not-give_held
returns-then-not-give_held g c =
    let same : IsSamePair c.args.self.now c.give_held.new.self = record { gathered = c.give_held.ensures.same.gathered ∙ c.free.ensures.gathered; contexts = c.give_held.ensures.same.contexts ∙ c.free.ensures.contexts; used = c.give_held.ensures.same.used; is = c.give_held.ensures.same.is } in
    record {
      front = none_front c.args.text.now c.args.at c.utf8.text;
      runs = record {
        syllables = [];
        gives = none_given (shown c.args.self.now) (shown c.give_held.new.self) c.args.at (shown_same c.args.self.now c.give_held.new.self same c.give_held.new.self.pair.first c.give_held.new.self.pair.second);
        taken = c.give_held.ensures.kept c.if-not-give_held.true ∙ sym (g.met.G.Give.given_none c.args.out.now);
      };
      rests = search rules;
    }

-- ---- a run is taken

module _ (lines : ℕ) (m : ScoreMachine) (f : Found) (e : lines ≡ m.body.nabc_lines) (found : IsFound lines m.limits m.pair.contexts.after.canonical f) where
  first_found : IsFound m.body.nabc_lines m.limits m.pair.contexts.after.canonical f
  first_found = subst (λ (n : ℕ). IsFound n m.limits m.pair.contexts.after.canonical f) e found

  first_steady : ((is : BeginsRegularly lines (f.spelled.now ++ f.rest.now) (len_of f)) → KeepsFirstSound lines m.pair.gathered.first_kind is.syllable)
      → KeepsFirstSound m.body.nabc_lines m.pair.gathered.first_kind first_found.is.syllable
  first_steady h = subst (λ (n : ℕ). (is : BeginsRegularly n (f.spelled.now ++ f.rest.now) (len_of f)) → KeepsFirstSound n m.pair.gathered.first_kind is.syllable) e h first_found.is

-- a run that has reached its first syllable, with this context
abbrev begins_at : Found → Preceding → Reached
begins_at f p = record { last = f; count = 0; canonical = p.canonical; spans = p.spans }

runs_after : (m : ScoreMachine) (at : Place) (text : List ℕ) (given : List PlacedSyllable) (f : Found) (p q : Preceding) → p ≡ q → RunsTo m at text given (begins_at f q) → RunsTo m at text given (begins_at f p)
runs_after m at text given f p q e = subst (λ (r : Preceding). RunsTo m at text given (begins_at f r)) (sym e)

pub end_run-requires-clause-to : goal.end_run-requires-clause-to
end_run-requires-clause-to g c =
    let m = c.args.self.now in
    let same : IsSamePair m c.give_held.new.self = record { gathered = c.give_held.ensures.same.gathered ∙ c.free.ensures.gathered; contexts = c.give_held.ensures.same.contexts ∙ c.free.ensures.contexts; used = c.give_held.ensures.same.used; is = c.give_held.ensures.same.is } in
    let found = subst (λ (p : Preceding). IsFound c.nabc_lines-lines.result m.limits p.canonical c.in-Some.first) c.after-before.ensures c.in-Some.ensures.found in
    let begun = run_to_first m c.args.at c.args.text.now c.in-Some.first (c.is_between.ensures c.if-not-is_between.false) (first_found c.nabc_lines-lines.result m c.in-Some.first c.nabc_lines-lines.ensures found)
    (first_steady c.nabc_lines-lines.result m c.in-Some.first c.nabc_lines-lines.ensures found (c.is_first_with.ensures c.if-is_first_with.false))
    c.in-Some.ensures.text (c.is_low.ensures.line c.if-not-is_low.false) (c.is_low.ensures.column c.if-not-is_low.false) c.give_held.new.self same in
    let on = c.give_on-reached.ensures c.args.at c.args.text.now _ (runs_after c.give_held.new.self c.args.at c.args.text.now _ c.in-Some.first c.after-before.result m.pair.contexts.after c.after-before.ensures begun) in
    (_, on.runs)

pub returns : goal.returns
returns g c =
    let m = c.args.self.now in
    let same : IsSamePair m c.give_held.new.self = record { gathered = c.give_held.ensures.same.gathered ∙ c.free.ensures.gathered; contexts = c.give_held.ensures.same.contexts ∙ c.free.ensures.contexts; used = c.give_held.ensures.same.used; is = c.give_held.ensures.same.is } in
    let found = subst (λ (p : Preceding). IsFound c.nabc_lines-lines.result m.limits p.canonical c.in-Some.first) c.after-before.ensures c.in-Some.ensures.found in
    let begun = run_to_first m c.args.at c.args.text.now c.in-Some.first (c.is_between.ensures c.if-not-is_between.false) (first_found c.nabc_lines-lines.result m c.in-Some.first c.nabc_lines-lines.ensures found)
    (first_steady c.nabc_lines-lines.result m c.in-Some.first c.nabc_lines-lines.ensures found (c.is_first_with.ensures c.if-is_first_with.false))
    c.in-Some.ensures.text (c.is_low.ensures.line c.if-not-is_low.false) (c.is_low.ensures.column c.if-not-is_low.false) c.give_held.new.self same in
    let on = c.give_on-reached.ensures c.args.at c.args.text.now _ (runs_after c.give_held.new.self c.args.at c.args.text.now _ c.in-Some.first c.after-before.result m.pair.contexts.after c.after-before.ensures begun) in
    let held = held_of m.pair.gathered.made (c.is_between.ensures c.if-not-is_between.false).one in
    let first =
    c.give_held.ensures.given c.if-not-give_held.false held.0 (ap (λ (h : Gathered). h.made) c.free.ensures.gathered ∙ held.1)
    ∙ ap (λ (k : Contexts). g.G.Give.given c.args.out.now (record { made = held.0; position = position_by (not (nat_lt 0 k.before.syllables) || held.0.text.word_start) c.starts_word.result } ∷ [])) c.free.ensures.contexts
    ∙ ap (λ b. g.G.Give.given c.args.out.now (placed_first m held.0 b ∷ [])) c.starts_word.ensures
    in
    record {
      front = c.end_run.ensures.front;
      runs = record {
        syllables = _;
        gives = gives_same m c.give_held.new.self c.args.at _ _ (shown c.end_run.new.self) same (c.end_run.ensures.gives _ on.runs);
        taken = on.taken ∙ ap (λ s. g.G.Give.given s on.more) first ∙ g.met.G.Give.given_both c.args.out.now (placed_first m held.0 (nat_lt 0 c.in-Some.first.gap) ∷ []) on.more;
      };
      rests = c.end_run.ensures.rests;
    }
