use Rattle.std.proofs.Common.{◌≡◌, ℕ, ◌+◌, ◌<◌, ◌≤◌, nat_lt, Bool, List, [], ◌∷◌, ◌++◌, length, drop, refl, sym, ap, subst, ◌∙◌, arith, append-nil, length-append}
use Rattle.std.specs.Str.{IsUtf8}
use Rattle.std.proofs.lemmas.Bool.Decides.{nat_tests}
use Rattle.gabc_places.specs.declared.place.Place.{Place}
use Rattle.gabc_body.specs.declared.before.Spans.{Spans}
use Rattle.gabc_score.specs.declared.run.Reached.{Reached}
use Rattle.gabc_score.specs.declared.waiting.Waiting.{Waiting}
use Rattle.gabc_score.specs.GivesSyllables.{spelled_canonical}
use Rattle.gabc_body.specs.Syllable.{PlacedSyllable}
use Rattle.gabc_score.specs.machine.RegularLen.{BeginsRegularly, past_mark}
use Rattle.gabc_score.specs.machine.Run.{AreBefore, IsFound, KeepsFirstSound, RunsMore, RunsOn, RunsTo, SpellsFound, len_of, mark_of}
use Rattle.gabc_score.proofs.runs.MoreIsTaken.{none_waits, one_is_taken, one_waits, those_are_joined, those_are_taken, waiting_are_joined, waiting_are_taken}
use Rattle.gabc_score.proofs.runs.Waits.{front_then, gap_is, none_before, none_where_full, rest_utf8, some_front, then_before, then_front}
use Rattle.gabc_score.proofs.score_machine.ScoreMachine.give_on.Goals as goal
use Rattle.gabc_score.proofs.score_machine.ScoreMachine.give_on.Goals.{then-starts_word, then-fits, else-fits+else-not-give, else-starts_word+else-not-fits, in_default, in-Some+then-is_first_with, in-Some+else-is_first_with+then-starts_word+else-fits+then-not-give}

pub loop-next-init : goal.loop-next-init
loop-next-init g c =
    let r = c.args.begun in
    let w = c.none-waiting.result in
    record {
      found = c.requires.found;
      lines = c.nabc_lines-lines.ensures;
      few = (let none = c.requires.first in omega (arith, none));
      utf8 = rest_utf8 r.last c.args.self.now.body.nabc_lines c.requires.found.is (subst IsUtf8 c.requires.text c.utf8.text);
      joins = λ n some few. c.joins.ensures n some (subst (λ k. n ≤ k) c.none-waiting.ensures.most few);
      waits = (
        [],
        (
          none_before w r c.args.self.now.body.nabc_lines c.requires.found.is (c.none-waiting.ensures.earlier ∙ sym c.requires.first) c.none-waiting.ensures.starts
              (c.none-waiting.ensures.text ∙ ap (drop r.last.gap) c.requires.text),
          λ at text given to. record {
            more = [];
            waiting = [];
            runs = subst (λ (l : List PlacedSyllable). RunsTo c.args.self.now at text l r) (sym (append-nil (given ++ []) ∙ append-nil given)) to;
            taken = sym (g.met.G.Give.given_none c.args.out.now);
            count = (let e = c.none-waiting.ensures.earlier in let none = c.requires.first in omega (arith, e, none));
            joined = λ t. ap (λ b. spelled_canonical b t) (sym c.none-waiting.ensures.starts);
          },
        ),
      );
    }

pub give-requires-clause-front : goal.give-requires-clause-front
give-requires-clause-front g c =
    let i = c.loop-next.invariant in
    (_, then_front c.loop-next.waiting c.loop-next.reached i.waits.0 i.waits.1.0 i.utf8)

pub loop-next-preserved : goal.loop-next-preserved
loop-next-preserved g c =
    let i = c.loop-next.invariant in
    let m = c.args.self.now in
    let r = c.loop-next.reached in
    let w = c.loop-next.waiting in
    let next = c.in-Some.next in
    let front = i.waits.0 in
    let before = i.waits.1.0 in
    let given_by = g.G.Give.given in
    let law = c.a_regular_syllable_goes_through.ensures in
    let then : Reached = record { last = next; count = r.count + 1; canonical = c.canonical_after-canonical.result; spans = c.spans_past-spans.result } in
    let spans = c.spans_past-spans.ensures ∙ ap (λ o. past_mark o r.spans) c.mark.ensures in
    let found : IsFound m.body.nabc_lines m.limits then.canonical next = subst (λ (n : ℕ). IsFound n m.limits then.canonical next) c.nabc_lines-lines.ensures c.in-Some.ensures.found in
    let steady = subst (λ (n : ℕ). (is : BeginsRegularly n (next.spelled.now ++ next.rest.now) (len_of next)) → KeepsFirstSound n m.pair.gathered.first_kind is.syllable)
    c.nabc_lines-lines.ensures (c.is_first_with.ensures c.if-is_first_with.false) found.is in
    let text_is = c.in-Some.ensures.text in
    let all_utf8 = subst IsUtf8 text_is i.utf8 in
    let takes : (new : g.row.G.Denot) (b : Bool) → b ≡ nat_lt 0 next.gap
    → ((is : BeginsRegularly c.nabc_lines-lines.result (r.last.spelled.now ++ r.last.rest.now) (len_of r.last)) (s : PlacedSyllable) → SpellsFound c.nabc_lines-lines.result then.spans b r.last is.syllable s → new ≡ given_by c.loop-next.out (s ∷ []))
    → (is : BeginsRegularly m.body.nabc_lines (r.last.spelled.now ++ r.last.rest.now) (len_of r.last)) (s : PlacedSyllable) → SpellsFound m.body.nabc_lines (past_mark (mark_of r.last) r.spans) (nat_lt 0 next.gap) r.last is.syllable s
    → new ≡ given_by c.loop-next.out (s ∷ []) =
    λ new b e given. subst (λ (n : ℕ). (is : BeginsRegularly n (r.last.spelled.now ++ r.last.rest.now) (len_of r.last)) (s : PlacedSyllable)
    → SpellsFound n (past_mark (mark_of r.last) r.spans) (nat_lt 0 next.gap) r.last is.syllable s → new ≡ given_by c.loop-next.out (s ∷ [])) c.nabc_lines-lines.ensures
    (subst (λ (q : Spans). (is : BeginsRegularly c.nabc_lines-lines.result (r.last.spelled.now ++ r.last.rest.now) (len_of r.last)) (s : PlacedSyllable)
    → SpellsFound c.nabc_lines-lines.result q (nat_lt 0 next.gap) r.last is.syllable s → new ≡ given_by c.loop-next.out (s ∷ [])) spans
    (subst (λ (w : Bool). (is : BeginsRegularly c.nabc_lines-lines.result (r.last.spelled.now ++ r.last.rest.now) (len_of r.last)) (s : PlacedSyllable)
    → SpellsFound c.nabc_lines-lines.result then.spans w r.last is.syllable s → new ≡ given_by c.loop-next.out (s ∷ [])) e given)) in
    let Stands : g.row.G.Denot → Waiting → Type 0 = λ out v. ((n : ℕ) → 0 < n → n ≤ v.most → g.G.Give.TakesJoined out n)
    × ((f : List ℕ) × (AreBefore v then f × ((at : Place) (text : List ℕ) (given : List PlacedSyllable) → RunsTo m at text given c.args.begun → RunsOn given_by m at text given c.args.out.now v f then out))) in
    let stands : Stands c.if-starts_word.out c.if-starts_word.waiting = elim c.if-starts_word.branch [
      | then-starts_word b ↦
          let v = b.none-waiting-then-starts_word.result in
          let new = b.none-waiting-then-starts_word.ensures in
          let none = none_before v then m.body.nabc_lines found.is new.earlier new.starts (new.text ∙ ap (drop next.gap) text_is) in
          let out : Stands b.if-fits.out v = (
            λ n some few. b.joins-then-starts_word.ensures n some (subst (λ k. n ≤ k) new.most few),
            (
              [],
              (
                none,
                λ at text given to. elim b.if-fits.branch [
                  | then-fits d ↦
                      let on = i.waits.1.1 at text given to in
                      those_are_taken m at text r then refl c.canonical_after-canonical.ensures spans found text_is steady given_by g.met.G.Give.given_both law given c.args.out.now c.loop-next.out w front on v new.earlier new.starts b.if-fits.out
                      (d.out-is ∙ d.give.ensures (front_then w r front before) _ (then_front w r front before i.utf8)
                      (those_are_joined m at text r then refl c.canonical_after-canonical.ensures spans found text_is steady given_by g.met.G.Give.given_both law given c.args.out.now c.loop-next.out w front on))
                  | else-fits+else-not-give d ↦
                      one_is_taken m at text r then refl c.canonical_after-canonical.ensures spans found text_is steady given_by g.met.G.Give.given_both law given c.args.out.now c.loop-next.out w front (i.waits.1.1 at text given to)
                      v new.earlier new.starts b.if-fits.out (none_where_full w r front before (sym b.fits-then-starts_word.ensures ∙ d.if-fits.false))
                      (λ is s h. d.out-is ∙ takes d.give-else-fits.new.out d.starts_word-else-fits.result d.starts_word-else-fits.ensures (d.give-else-fits.ensures.given d.if-not-give.false) is s h)
                ],
              ),
            ),
          ) in
          subst (λ o. Stands o c.if-starts_word.waiting) (sym b.out-is) (subst (λ (u : Waiting). Stands b.if-fits.out u) (sym b.waiting-is) out)
      | else-starts_word+else-not-fits b ↦
          let no_gap = sym c.starts_word.ensures ∙ b.if-starts_word.false in
          let fits = sym b.fits.ensures ∙ b.if-not-fits.false in
          let out : Stands c.loop-next.out w = (
            i.joins,
            (
              front_then w r front before,
              (
                then_before w r front before then refl text_is no_gap fits,
                λ at text given to.
                    one_waits m at text r then refl c.canonical_after-canonical.ensures spans found text_is steady given_by g.met.G.Give.given_both law given c.args.out.now c.loop-next.out w front (i.waits.1.1 at text given to)
                    (gap_is w r front before then refl text_is no_gap fits),
              ),
            ),
          ) in
          subst (λ o. Stands o c.if-starts_word.waiting) (sym b.out-is) (subst (λ (u : Waiting). Stands c.loop-next.out u) (sym b.waiting-is) out)
    ] in
    record {
      found = found;
      lines = i.lines;
      few = (let f = i.few in let n = ap (λ (l : List ℕ). length l) text_is ∙ length-append next.spelled.now next.rest.now in let some = found.is.some in omega (arith, f, n, some));
      utf8 = rest_utf8 next m.body.nabc_lines found.is all_utf8;
      joins = stands.0;
      waits = stands.1;
    }

pub give-requires-then-is_some-clause-front : goal.give-requires-then-is_some-clause-front
give-requires-then-is_some-clause-front g c =
    let i = c.loop-next.invariant in
    (_, some_front c.loop-next.waiting c.loop-next.reached i.waits.0 i.waits.1.0 c.args.self.now.body.nabc_lines i.found.is i.utf8 (sym c.is_some.ensures ∙ c.if-is_some.true))

pub returns-then-is_some : goal.returns-then-is_some
returns-then-is_some g c = λ at text given to.
    let i = c.loop-next.invariant in
    let r = c.loop-next.reached in
    let w = c.loop-next.waiting in
    let front = i.waits.0 in
    let some = sym c.is_some.ensures ∙ c.if-is_some.true in
    let on = i.waits.1.1 at text given to in
    let less : w.earlier < r.count = grind (arith, nat_tests, some) in
    let out_is : c.match-find.out ≡ c.loop-next.out = elim c.match-find.branch [
      | in_default b ↦ b.out-is
      | in-Some+then-is_first_with b ↦ b.out-is
      | in-Some+else-is_first_with+then-starts_word+else-fits+then-not-give b ↦ b.out-is ∙ b.give-else-fits.ensures.same b.if-not-give.true
    ] in
    waiting_are_taken g.G.Give.given g.met.G.Give.given_both c.args.self.now at text given c.args.out.now c.loop-next.out w front r on c.give-then-is_some.new.out
    (c.give-then-is_some.ensures front on.waiting (some_front w r front i.waits.1.0 c.args.self.now.body.nabc_lines i.found.is i.utf8 some)
    (waiting_are_joined g.G.Give.given g.met.G.Give.given_both c.args.self.now at text given c.args.out.now c.loop-next.out w front r on (i.waits.1.0.some less).0)
    ∙ ap (λ s. g.G.Give.given s on.waiting) out_is)

pub returns-else-is_some : goal.returns-else-is_some
returns-else-is_some g c = λ at text given to.
    let i = c.loop-next.invariant in
    let r = c.loop-next.reached in
    let w = c.loop-next.waiting in
    let no = sym c.is_some.ensures ∙ c.if-is_some.false in
    let out_is : c.match-find.out ≡ c.loop-next.out = elim c.match-find.branch [
      | in_default b ↦ b.out-is
      | in-Some+then-is_first_with b ↦ b.out-is
      | in-Some+else-is_first_with+then-starts_word+else-fits+then-not-give b ↦ b.out-is ∙ b.give-else-fits.ensures.same b.if-not-give.true
    ] in
    let most : r.count ≤ w.earlier = grind (arith, nat_tests, no) in
    let least = i.waits.1.0.earlier in
    subst (λ o. RunsMore g.G.Give.given c.args.self.now at text given c.args.out.now r o) (sym out_is)
    (none_waits g.G.Give.given g.met.G.Give.given_both c.args.self.now at text given c.args.out.now c.loop-next.out w i.waits.0 r (i.waits.1.1 at text given to) (omega (arith, most, least)) g.met.G.Give.given_none)
