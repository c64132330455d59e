-- Two stages over a score in one state give the same, but for the pending syllable.
use Rattle.std.proofs.Common.{◌≡◌, ◌==◌, List, [], Bool, true, false, Option, Some, None, is_some, refl, sym, ap, subst, ◌∙◌, arith}
use Rattle.gabc_places.specs.declared.place.Place.{Place}
use Rattle.gabc_headers.specs.declared.head_event.HeadEvent.{HeadEvent}
use Rattle.gabc_body.specs.declared.before.Before.{Before}
use Rattle.gabc_score.specs.declared.score_machine.ScoreMachine.{ScoreMachine}
use Rattle.gabc_score.specs.HeldAside.{GiveTheSame, HoldTheSame}
use Rattle.gabc_body.specs.ScoreEvents.{characters_in}
use Rattle.gabc_score.specs.ScoreStage.{AreInLine}
use Rattle.gabc_score.specs.ScoreReports.{before_of, before_with, held_of, is_in_comment, is_in_front}
use Rattle.gabc_score.specs.AreEquivalent.{AreEquivalent}
use Rattle.gabc_body.specs.Syllable.{UnplacedSyllable}
use Rattle.gabc_score.specs.machine.ScoreMachine.{shown}
use Rattle.gabc_score.specs.machine.StageLaws.{Again}
use Rattle.gabc_body.specs.witness.SyllableBuilder.{OpenSyllable}
use Rattle.gabc_score.specs.witness.BodyStage.{running_events_left}
use Rattle.gabc_score.specs.witness.IsReachable.{IsReachable}
use Rattle.gabc_score.specs.witness.ScoreStage.{ScoreStageState, left_of}
use Rattle.gabc_score.proofs.resuming.BeginsAnywhere.{front_reads}
use Rattle.gabc_score.proofs.resuming.FrontsAgree.{CommentsCountForNothing, fronts_emit}
use Rattle.gabc_score.proofs.resuming.NothingIsRead.{nothing_kept}
use Rattle.gabc_score.proofs.resuming.ScoresAgree.{PendingAreEquivalent, before_is_reported, bodies_give, bodies_keep}
use Rattle.gabc_score.proofs.resuming.StagesAgree.{StagesAgree, bodies_agree, next_is_reported}
use Rattle.gabc_score.proofs.resuming.ReachableStatesMeetInvariant.{IsRunning, both_in_body}

-- ---- if only the other one stands in front

none_too : (first : Bool) (o : Option UnplacedSyllable) → HoldTheSame first o None → o ≡ None
none_too first None h = refl
none_too first (Some m) h = absurd h

-- the other way round, but for the held syllable
turned : (one other : ScoreStageState) → held_of one ≡ None → held_of other ≡ None → AreEquivalent one other → AreEquivalent other one
turned one other none others alike = record {
  runs = ap is_some (sym alike.before) ∙ alike.runs;
  limits = sym alike.limits;
  before = sym alike.before;
  held = rw (none, others) tt;
  reading = sym alike.reading;
  openers = sym alike.openers;
  comment = sym alike.comment;
  next = sym alike.next;
  stands = alike.other_stands;
  other_stands = alike.stands;
}

-- ---- two machines

module _ (again : Again) where
  module _ (a b : ScoreMachine) (ra : IsRunning a) (rb : IsRunning b) (alike : AreEquivalent (shown a) (shown b)) where
    before : before_with a.body a.pair.contexts.before ≡ before_with b.body b.pair.contexts.before
    before = before_is_reported a.part b.part (before_with a.body a.pair.contexts.before) (before_with b.body b.pair.contexts.before) ra.part rb.part alike.before

    reading : a.pair.gathered.builder.kept ≡ b.pair.gathered.builder.kept
    reading = rw (ra.part, rb.part) at alike.reading

    held : PendingAreEquivalent (a.pair.contexts.before.syllables == 0) a.pair.gathered.made b.pair.gathered.made
    held = (ra.few, (rb.few, rw (ra.part, rb.part) at alike.held))

    -- they give the same if their bodies emit the same
    given_alike : (xs : List HeadEvent) → running_events_left a.body (characters_in xs) ≡ running_events_left b.body (characters_in xs)
        → GiveTheSame (held_of (shown a)) (held_of (shown b)) (left_of (shown a) xs) (left_of (shown b) xs)
    given_alike xs same = grind (arith, bodies_give)

    module _ (front : is_in_front a.body.part ≡ true) (comment : is_in_comment b.body.part ≡ true) (law : CommentsCountForNothing) where
      -- the one stands in front of the first text
      pub fronts_give : (xs : List HeadEvent) → AreInLine a.next xs → GiveTheSame (held_of (shown a)) (held_of (shown b)) (left_of (shown a) xs) (left_of (shown b) xs)
      fronts_give xs line =
          given_alike xs
          (fronts_emit law a.body b.body (ap (λ (k : Before). k.nabc_lines) before) (ap (λ (k : Before). k.macros) before) front
          (nothing_kept b.body.nabc_lines b.body.macros b.body.part b.pair.contexts.after.spans b.pair.gathered rb.body.reading (sym reading ∙ nothing))
          comment b.next xs alike.other_stands (subst (λ (p : Place). AreInLine p xs) alike.next line))
        where
          nothing : a.pair.gathered.builder.kept ≡ []
          nothing = ap (λ (o : OpenSyllable). o.kept) (front_reads a.body.part a.pair.gathered.builder front ra.body.counts)

    -- both or none of them
    pub machines_give : StagesAgree → is_in_front a.body.part ≡ is_in_front b.body.part → (xs : List HeadEvent) → GiveTheSame (held_of (shown a)) (held_of (shown b)) (left_of (shown a) xs) (left_of (shown b) xs)
    machines_give law front xs = grind (arith, given_alike, bodies_agree, bodies_keep, next_is_reported)

  -- ---- two states

  -- of both or none in front
  abbrev pub Agree : ScoreStageState → ScoreStageState → Type 0
  Agree one other = (xs : List HeadEvent) → GiveTheSame (held_of one) (held_of other) (left_of one xs) (left_of other xs)

  abbrev pub AgreeInLine : ScoreStageState → ScoreStageState → Type 0
  AgreeInLine one other = (xs : List HeadEvent) → AreInLine one.held.next xs → GiveTheSame (held_of one) (held_of other) (left_of one xs) (left_of other xs)

  pub states_agree : StagesAgree → (one other : ScoreStageState) → IsReachable one → IsReachable other → AreEquivalent one other → is_in_front one.body.part ≡ is_in_front other.body.part → Agree one other
  states_agree law one other h g alike = grind (arith, both_in_body, machines_give)

  module _ (law : CommentsCountForNothing)
      (agree : (one other : ScoreStageState) → IsReachable one → IsReachable other → AreEquivalent one other → is_in_front one.body.part ≡ is_in_front other.body.part → Agree one other) where
    front_gives : (one other : ScoreStageState) → IsReachable one → IsReachable other → AreEquivalent one other → is_in_front one.body.part ≡ true → AgreeInLine one other
    front_gives one other h g alike = grind (arith, both_in_body, fronts_give)

    pub states_agree_in_line : (none_held : (s : ScoreStageState) → IsReachable s → is_some (before_of s) ≡ true → is_in_front s.body.part ≡ true → held_of s ≡ None) → (one other : ScoreStageState) → IsReachable one → IsReachable other → AreEquivalent one other → AgreeInLine one other
    states_agree_in_line none_held one other h g alike = by (is_in_front one.body.part) (is_in_front other.body.part) refl refl
      where
        by : (x y : Bool) → is_in_front one.body.part ≡ x → is_in_front other.body.part ≡ y → AgreeInLine one other
        by true true e f = λ xs line. agree one other h g alike (e ∙ sym f) xs
        by false false e f = λ xs line. agree one other h g alike (e ∙ sym f) xs
        by true false e f = front_gives one other h g alike e
        by false true e f = λ xs line.
            let others = none_held other g (ap is_some (sym alike.before) ∙ alike.runs) f in
            let none = none_too (one.before.syllables == 0) (held_of one) (rw others at alike.held) in
            let given = front_gives other one g h (turned one other none others alike) f xs (subst (λ (p : Place). AreInLine p xs) alike.next line) in
            rw (others, none) (sym (rw (none, others) at given))
