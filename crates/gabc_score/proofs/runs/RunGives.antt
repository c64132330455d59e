-- What a run gives, once its last syllable is pending.
use Rattle.gabc_text.proofs.tokens.CountsOfTexts.{place_small}
use Rattle.std.proofs.Common.{◌≡◌, ℕ, ◌+◌, ◌<◌, ◌≤◌, ◌^◌, Bool, true, List, [], ◌∷◌, ◌++◌, map, length, refl, sym, ap, subst, ◌∙◌, arith, length-append}
use Rattle.std.specs.Str.{chars}
use Rattle.gabc_text.specs.TextStage.{fresh_stage}
use Rattle.gabc_places.specs.Place.{next_place, place_past}
use Rattle.gabc_places.specs.declared.place.Place.{Place}
use Rattle.gabc_places.proofs.PlacesOfAText.{place_append}
use Rattle.gabc_headers.specs.declared.head_event.HeadEvent.{HeadEvent}
use Rattle.gabc_text.specs.witness.EventsLeft as fresh_events
use Rattle.gabc_score.specs.declared.preceding.Preceding.{Preceding}
use Rattle.gabc_score.specs.declared.body_stage.BodyPart.{BodyPart}
use Rattle.gabc_score.specs.declared.body_stage.BodyPart.TheVariants.{Text}
use Rattle.gabc_score.specs.declared.run.Found.{Found}
use Rattle.gabc_score.specs.declared.score_machine.ScoreMachine.{ScoreMachine}
use Rattle.gabc_score.specs.declared.score_machine.ScorePart.{ScorePart}
use Rattle.gabc_score.specs.declared.score_machine.ScorePart.TheVariants as score_part
use Rattle.gabc_score.specs.Before.{with_one, with_placed}
use Rattle.gabc_score.specs.GivesSyllables.{GivesSyllables, next_after, text_inputs}
use Rattle.gabc_score.specs.ScoreReports.{IsAt, held_in_body, openers_of}
use Rattle.gabc_body.specs.Syllable.{UnplacedSyllable, PlacedSyllable}
use Rattle.gabc_score.specs.ReportedWithin.{AreOpenersBefore, HoldsIfAny, IsPlace, ReportsText, whole_syllables}
use Rattle.gabc_score.specs.witness.ScoreStage.{ScoreStageState, left_of}
use Rattle.gabc_score.specs.machine.Between.{left_between, with_one as gathered_with}
use Rattle.gabc_body.specs.witness.Gatherer.{Gathered}
use Rattle.gabc_score.specs.machine.PartOnly.{HoldsTexts}
use Rattle.gabc_score.specs.machine.Run.{IsFound, IsBetweenSyllables, RunsBefore}
use Rattle.gabc_score.specs.machine.ScoreMachine.{has_given, held_score, shown}
use Rattle.gabc_score.proofs.runs.FoundSyllable.{some_are, utf8_is}
use Rattle.gabc_score.proofs.runs.RunEnds.{EndsWith, before_last}
use Rattle.gabc_score.proofs.runs.RunTakesOneMoreSyllable.{few_characters}
use Rattle.gabc_score.proofs.score_events.CountsGoOn.{more}

-- ---- counts and places

few_more : (p : Preceding) (ss : List PlacedSyllable) → (with_placed p ss).syllables ≤ p.syllables + length ss
few_more p [] = omega arith
few_more p (s ∷ ss) = grind (arith, few_more (with_one p s.made) ss)

-- a line and a column count from 1 on
from_one : (at : Place) (t : List ℕ) → 1 ≤ at.line → 1 ≤ at.column → (1 ≤ (place_past at t).line) × (1 ≤ (place_past at t).column)
from_one at [] l k = (l, k)
from_one at (c ∷ t) l k = from_one (next_place at c) t (grind (arith, l)) (grind (arith, k))

next_past : (at before : Place) (t : List ℕ) → 1 ≤ length t → next_after at t before ≡ place_past at t
next_past at before t some = grind arith

-- ---- what is left

-- what is still given if a text begins
left_there : (n : ScoreMachine) (at : Place) (first second : PlacedSyllable) → n.part ≡ score_part.Body → n.body.part ≡ Text (fresh_stage at) → (xs : List HeadEvent)
    → left_of (record (shown n) { first = first; second = second }) xs ≡ left_between n.limits n.body.nabc_lines n.body.macros at (held_score n) xs
left_there n at first second part begins xs = grind arith

-- After a run the machine holds its last syllable: it goes on with the next text.
pub record HoldsLast (m : ScoreMachine) (p : Preceding) (next : Place) (made : UnplacedSyllable) (after : ScoreMachine) : Type 0 where
  pub limits : after.limits ≡ m.limits
  pub part : after.part ≡ score_part.Body
  pub begins : after.body.part ≡ Text (fresh_stage next)
  pub lines : after.body.nabc_lines ≡ m.body.nabc_lines
  pub macros : after.body.macros ≡ m.body.macros
  pub at : after.next ≡ next
  pub gathered : after.pair.gathered ≡ gathered_with (before_last m p) made
  pub before : after.pair.contexts.before ≡ p
  pub lent : has_given after ≡ true
  pub texts : HoldsTexts after.pair.gathered

module _ (m : ScoreMachine) (at : Place) (t : List ℕ) (given : List PlacedSyllable) (starts : Bool) (p : Preceding) (next : Place) (runs : RunsBefore m at t given starts p next)
    (stands : IsBetweenSyllables m at) (f : Found) (found : IsFound m.body.nabc_lines m.limits p.canonical f) (column : next.column + length f.spelled.now < 2 ^ 63)
    (ends : EndsWith m at t given p f next) (after : ScoreMachine) (held : HoldsLast m p (place_past next (chars f.spelled.now)) ends.made after) (first second : PlacedSyllable) where
  abbrev before : ScoreStageState
  before = record (shown m) { first = first; second = second }

  abbrev text : List ℕ
  text = t ++ chars f.spelled.now

  long : length t + 1 ≤ length text
  long = let some = some_are f m.body.nabc_lines p.canonical m.limits found in let n = length-append t (chars f.spelled.now) in omega (arith, some, n)

  abbrev past : Place
  past = place_past next (chars f.spelled.now)

  next_is : past ≡ place_past at text
  next_is = ap (λ (q : Place). place_past q (chars f.spelled.now)) runs.place ∙ sym (place_append at t (chars f.spelled.now))

  there : after.next ≡ place_past at text
  there = held.at ∙ next_is

  left_after : (xs : List HeadEvent) → left_of (shown after) xs
      ≡ left_between m.limits m.body.nabc_lines m.body.macros past (record { next = past; gathered = gathered_with (before_last m p) ends.made; is_preceded = true }) xs
  left_after xs =
      left_there after past after.pair.first after.pair.second held.part held.begins xs
      ∙ rw (held.limits, held.lines, held.macros, held.at, held.gathered, held.lent) refl

  law_is : (xs : List HeadEvent) → left_of before (text_inputs at text ++ xs) ≡ ends.through.points ++ left_of (shown after) xs
  law_is xs = grind (arith, left_there, left_after)

  few_whole : whole_syllables (shown after) ≤ whole_syllables before + length text
  few_whole = grind (arith, few_more, length-append, long)

  place_is : IsPlace at → IsPlace after.next
  place_is is =
      let from = from_one at text is.line is.column in
      let low = (place_small next (chars f.spelled.now)).1 in
      let few = few_characters f.spelled.now (utf8_is f m.body.nabc_lines found.is) in
      let e = ap (λ (q : Place). q.column) held.at in
      record {
        line = subst (λ (q : Place). 1 ≤ q.line) (sym there) from.0;
        column = subst (λ (q : Place). 1 ≤ q.column) (sym there) from.1;
        in_64_bits = omega (arith, low, few, e, column);
      }

  reported_is : at ≡ m.next → ReportsText before → ReportsText (shown after)
  unfolding fresh_events.events_left
  reported_is here told body =
      let was = told stands.part in
      let input = runs.input in
      record {
        counts = record {
          few_lines = subst (λ (n : ℕ). n ≤ 4) (sym held.lines) was.counts.few_lines;
          ten_macros = subst (λ (n : ℕ). n < 1024) (sym held.macros) was.counts.ten_macros;
          headers = subst (λ (q : Preceding). 2 ≤ q.canonical) (sym (held.before ∙ runs.before)) (more 2 m.pair.contexts.before (map (λ (s : PlacedSyllable). s.made) given) (omega arith) was.counts.headers);
          below = (let b = ap (λ (q : Preceding). q.canonical) held.before in let l = ap (λ l. l.input) held.limits in omega (arith, b, l, input));
        };
        next = place_is (subst IsPlace (sym here) was.next);
        openers = subst (λ (b : BodyPart). AreOpenersBefore after.next (openers_of b)) (sym held.begins) (record { notes = tt; inner = tt; in_order = tt });
        reading = held.texts.0;
        held = held.texts.1;
      }

  holds_is : HoldsIfAny (shown after)
  holds_is body none = absurd (cc (sym (ap (λ (q : ScorePart). held_in_body q after.pair.gathered.made) held.part ∙ ap (λ (g : Gathered). held_in_body score_part.Body g.made) held.gathered) ∙ none))

  stands_there : (q : Place) → q ≡ past → IsAt q after.body.part
  stands_there q e = subst (IsAt q) (sym held.begins) (sym e)

  -- what was given, and how it goes on
  pub run_gives : GivesSyllables before at text given (shown after)
  run_gives = grind (arith, next_past, long, stands_there, few_whole, reported_is, holds_is, next_is, law_is)
