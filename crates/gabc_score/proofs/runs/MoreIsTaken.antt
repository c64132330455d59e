-- A run finds one syllable more: it waits, or a taker takes it with those that wait.
use Rattle.std.proofs.Common.{◌≡◌, ℕ, ◌+◌, ◌-◌, nat_lt, List, [], ◌∷◌, ◌++◌, map, length, drop, refl, sym, ap, subst, ◌∙◌, arith, append_assoc, append-nil, length-append}
use Rattle.std.specs.Str.{chars}
use Rattle.std.proofs.lemmas.Str.{chars-append, IsUtf8-append}
use Rattle.std.proofs.lemmas.List.{nil_from_length}
use Rattle.gabc_places.specs.Place.{place_past}
use Rattle.gabc_places.specs.StageLaw.{concat_of}
use Rattle.gabc_places.specs.declared.place.Place.{Place}
use Rattle.gabc_score.specs.declared.preceding.Preceding.{Preceding}
use Rattle.gabc_score.specs.declared.run.Reached.{Reached}
use Rattle.gabc_score.specs.declared.score_machine.ScoreMachine.{ScoreMachine}
use Rattle.gabc_score.specs.declared.waiting.Waiting.{Waiting}
use Rattle.gabc_body.specs.Canonical.{canonical_in_place}
use Rattle.gabc_score.specs.GivesSyllables.{AreJoined, spelled_canonical}
use Rattle.gabc_score.specs.machine.RegularLen.{BeginsRegularly, past_mark}
use Rattle.gabc_body.specs.Syllable.{PlacedSyllable}
use Rattle.gabc_score.specs.machine.Run.{IsFound, KeepsFirstSound, SpellsFound, RunsBefore, RunsMore, RunsOn, RunsTo, before_in, canonical_length, len_of, mark_of, past_found}
use Rattle.gabc_score.proofs.runs.FoundSyllable.{utf8_is}
use Rattle.gabc_score.proofs.runs.RunTakesOneMoreSyllable.{GoesOnWith, MakeSyllables, goes_on, low_there}

-- ---- joined texts

abbrev joined_text : List PlacedSyllable → List ℕ
joined_text ss = concat_of (map canonical_in_place ss)

joined_then : (ss : List PlacedSyllable) (s : PlacedSyllable) → joined_text (ss ++ s ∷ []) ≡ joined_text ss ++ canonical_in_place s
joined_then [] s = append-nil (canonical_in_place s)
joined_then (t ∷ ss) s = ap (λ (l : List ℕ). canonical_in_place t ++ l) (joined_then ss s) ∙ sym (append_assoc (canonical_in_place t) (joined_text ss) (canonical_in_place s))

-- ---- one syllable more

module _ (m : ScoreMachine) (at : Place) (text : List ℕ) (reached then : Reached) (count : then.count ≡ reached.count + 1) (canonical : then.canonical ≡ reached.canonical + canonical_length reached.last)
    (spans : then.spans ≡ past_mark (mark_of reached.last) reached.spans) (found : IsFound m.body.nabc_lines m.limits then.canonical then.last) (rest : reached.last.rest.now ≡ then.last.spelled.now ++ then.last.rest.now)
    (steady : KeepsFirstSound m.body.nabc_lines m.pair.gathered.first_kind found.is.syllable) where
  before_is : before_in m then ≡ past_found (before_in m reached) reached.last
  before_is = grind arith

  module _ (given : List PlacedSyllable) (to : RunsTo m at text given reached) where
    pub one_more : MakeSyllables → GoesOnWith m at (chars to.bytes) given (before_in m reached) reached.last to.found.is.syllable (nat_lt 0 then.last.gap)
    one_more law =
        let low = low_there at (place_past at (chars to.bytes)) to.bytes reached.last.spelled.now reached.last.rest.now text to.utf8 to.text_is refl to.line to.column in
        goes_on m at (chars to.bytes) given (nat_lt 0 reached.last.gap) (before_in m reached) (place_past at (chars to.bytes)) to.runs to.stands reached.last to.found refl to.steady law low.0 low.1 (nat_lt 0 then.last.gap)

    more_runs : (on : GoesOnWith m at (chars to.bytes) given (before_in m reached) reached.last to.found.is.syllable (nat_lt 0 then.last.gap)) → RunsTo m at text (given ++ on.placed ∷ []) then
    more_runs on = record {
      stands = to.stands;
      bytes = to.bytes ++ reached.last.spelled.now;
      utf8 = IsUtf8-append to.bytes reached.last.spelled.now to.utf8 (utf8_is reached.last m.body.nabc_lines to.found.is);
      runs = subst (λ (p : Preceding). RunsBefore m at (chars (to.bytes ++ reached.last.spelled.now)) (given ++ on.placed ∷ []) (nat_lt 0 then.last.gap) p (place_past at (chars (to.bytes ++ reached.last.spelled.now)))) (sym before_is)
          (subst (λ (t : List ℕ). RunsBefore m at t (given ++ on.placed ∷ []) (nat_lt 0 then.last.gap) (past_found (before_in m reached) reached.last) (place_past at t)) (sym (chars-append to.bytes reached.last.spelled.now to.utf8)) on.runs);
      found = found;
      steady = steady;
      text_is = to.text_is ∙ ap (λ (l : List ℕ). to.bytes ++ (reached.last.spelled.now ++ l)) rest ∙ sym (append_assoc to.bytes reached.last.spelled.now (then.last.spelled.now ++ then.last.rest.now));
      line = to.line;
      column = to.column;
    }

  module _ {Taker : Type 0} (given_by : Taker → List PlacedSyllable → Taker) (both : (s : Taker) (a b : List PlacedSyllable) → given_by (given_by s a) b ≡ given_by s (a ++ b)) (law : MakeSyllables)
      (given : List PlacedSyllable) (old now : Taker) (w : Waiting) (front : List ℕ) (on : RunsOn given_by m at text given old w front reached now) where
    abbrev all_given : List PlacedSyllable
    all_given = (given ++ on.more) ++ on.waiting

    abbrev one : GoesOnWith m at (chars on.runs.bytes) all_given (before_in m reached) reached.last on.runs.found.is.syllable (nat_lt 0 then.last.gap)
    one = one_more all_given on.runs law

    -- those that wait, and this one
    abbrev pub those : List PlacedSyllable
    those = on.waiting ++ one.placed ∷ []

    abbrev pub front_then : List ℕ
    front_then = front ++ drop reached.last.gap reached.last.spelled.now

    runs_one : RunsTo m at text ((given ++ on.more) ++ those) then
    runs_one = subst (λ (l : List PlacedSyllable). RunsTo m at text l then) (append_assoc (given ++ on.more) on.waiting (one.placed ∷ [])) (more_runs all_given on.runs one)

    joined_one : joined_text those ≡ spelled_canonical w.starts front_then
    joined_one = joined_then on.waiting one.placed ∙ ap (λ (l : List ℕ). joined_text on.waiting ++ l) one.spells.canonical ∙ on.joined (drop reached.last.gap reached.last.spelled.now)

    count_one : w.earlier + length those ≡ then.count
    count_one = let n = length-append on.waiting (one.placed ∷ []) in let e = on.count in omega (arith, n, e, count)

    pub those_are_joined : AreJoined w.starts front_then (then.count - w.earlier) those
    those_are_joined = record { count_is = (let e = count_one in omega (arith, e)); canonical_is = joined_one }

    pub one_waits : then.last.gap ≡ 0 → RunsOn given_by m at text given old w front_then then now
    one_waits no_gap = record {
      more = on.more;
      waiting = those;
      runs = runs_one;
      taken = on.taken;
      count = count_one;
      joined = λ t. ap (λ n. joined_text those ++ spelled_canonical (nat_lt 0 n) t) no_gap ∙ ap (λ (l : List ℕ). l ++ t) joined_one ∙ append_assoc _ front_then t;
    }

    module _ (after : Waiting) (earlier : after.earlier ≡ then.count) (starts : after.starts ≡ nat_lt 0 then.last.gap) (new : Taker) where
      pub those_are_taken : new ≡ given_by now those → RunsOn given_by m at text given old after [] then new
      those_are_taken taken = record {
        more = on.more ++ those;
        waiting = [];
        runs = subst (λ (l : List PlacedSyllable). RunsTo m at text l then) (append_assoc given on.more those ∙ sym (append-nil (given ++ (on.more ++ those)))) runs_one;
        taken = taken ∙ ap (λ s. given_by s those) on.taken ∙ both old on.more those;
        count = omega (arith, earlier);
        joined = λ t. ap (λ b. spelled_canonical b t) (sym starts);
      }

      pub one_is_taken : w.earlier ≡ reached.count
          → ((is : BeginsRegularly m.body.nabc_lines (reached.last.spelled.now ++ reached.last.rest.now) (len_of reached.last)) (s : PlacedSyllable)
          → SpellsFound m.body.nabc_lines (past_mark (mark_of reached.last) reached.spans) (nat_lt 0 then.last.gap) reached.last is.syllable s → new ≡ given_by now (s ∷ []))
          → RunsOn given_by m at text given old after [] then new
      one_is_taken none takes = those_are_taken (takes on.runs.found.is one.placed one.spells ∙ ap (λ (l : List PlacedSyllable). given_by now (l ++ one.placed ∷ [])) (sym (nil_from_length on.waiting (let e = on.count in omega (arith, e, none)))))

-- ---- the end

module _ {Taker : Type 0} (given_by : Taker → List PlacedSyllable → Taker) (both : (s : Taker) (a b : List PlacedSyllable) → given_by (given_by s a) b ≡ given_by s (a ++ b)) (m : ScoreMachine)
    (at : Place) (text : List ℕ) (given : List PlacedSyllable) (old now : Taker) (w : Waiting) (front : List ℕ) (reached : Reached) (on : RunsOn given_by m at text given old w front reached now) where
  pub waiting_are_joined : reached.last.gap ≡ 0 → AreJoined w.starts front (reached.count - w.earlier) on.waiting
  waiting_are_joined no_gap = record {
    count_is = (let e = on.count in omega (arith, e));
    canonical_is = sym (append-nil (joined_text on.waiting)) ∙ ap (λ n. joined_text on.waiting ++ spelled_canonical (nat_lt 0 n) []) (sym no_gap) ∙ on.joined [] ∙ ap (spelled_canonical w.starts) (append-nil front);
  }

  pub waiting_are_taken : (new : Taker) → new ≡ given_by now on.waiting → RunsMore given_by m at text given old reached new
  waiting_are_taken new taken = grind (arith, append_assoc)

  pub none_waits : w.earlier ≡ reached.count → ((s : Taker) → given_by s [] ≡ s) → RunsMore given_by m at text given old reached now
  none_waits none nothing = waiting_are_taken now (sym (nothing now) ∙ ap (λ (l : List PlacedSyllable). given_by now l) (sym (nil_from_length on.waiting (let e = on.count in omega (arith, e, none)))))
