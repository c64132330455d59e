-- A text that is read by itself, one character after the other.
use Rattle.std.proofs.Common.{◌≡◌, inl, inr, ℕ, suc, ◌&&◌, not, nat_lt, Bool, true, false, List, [], ◌∷◌, ◌++◌, length, take, is_some, refl, sym, ap, subst, ◌∙◌, arith}
use Rattle.std.specs.List.{All, list_any}
use Rattle.std.proofs.Math.Bool.{and-false}
use Rattle.std.proofs.lemmas.Bool.Decides.{nat_tests}
use Rattle.std.proofs.lemmas.List.{length-take-le}
use Rattle.std.proofs.lemmas.List.Elements.{All-head, All-tail}
use Rattle.gabc_places.specs.Place.{next_place, placed_characters_from, saturating_next_place}
use Rattle.gabc_places.specs.StageLaw.{concat_of}
use Rattle.gabc_places.specs.TextOfAnInput.{IsTextCharacter}
use Rattle.gabc_places.specs.declared.limits.Limits.{Limits}
use Rattle.gabc_places.specs.declared.place.Place.{Place}
use Rattle.gabc_body.specs.declared.events.BodyEvent.{BodyEvent}
use Rattle.gabc_score.specs.declared.reading_again.SyllableRead.{SyllableRead}
use Rattle.gabc_score.specs.declared.reading_again.SyllableRead.TheVariants.{Open, Whole, GivenUp}
use Rattle.gabc_score.specs.declared.score_machine.ScoreMachine.{ScoreMachine}
use Rattle.gabc_body.specs.Body.{is_none}
use Rattle.gabc_body.specs.ScoreEvents.{findings_now}
use Rattle.gabc_body.specs.Syllable.{UnplacedSyllable}
use Rattle.gabc_body.specs.witness.BodyBuilder.{code_in, with_all}
use Rattle.gabc_body.specs.witness.Gatherer.{Gathered}
use Rattle.gabc_body.specs.witness.SyllableBuilder.{nothing_open}
use Rattle.gabc_score.specs.machine.PartOnly.{HoldsTexts, kept_codes}
use Rattle.gabc_score.specs.machine.PartPushes.{ClosesLast}
use Rattle.gabc_score.specs.machine.ReadsSilently.{ReadsTextSilently, GoesOn, ReadsSilently, left_by, left_with}
use Rattle.gabc_score.specs.machine.ReadAlone.{is_alone, is_error, is_fine, lists_from}
use Rattle.gabc_score.specs.machine.ReadsChar.{StandsInBody}
use Rattle.gabc_score.specs.witness.BodyStage.{BodyStageState, part_with, running_events_left, texts_by_stage}
use Rattle.gabc_body.proofs.emitted.OneListEachCharacter.{events_each}
use Rattle.gabc_body.proofs.gathering.EventsOfOnePoint.{with_all_append}
use Rattle.gabc_places.proofs.PlacesOfAText.{length_placed}
use Rattle.gabc_score.proofs.keeping.ReadByItself.{HasRoom, room_after, same_place}
use Rattle.gabc_score.proofs.score_events.TextsArePlain.{of_character, plain_all}
use Rattle.gabc_score.proofs.score_events.WhatPrecedes.{same_or_closed}

abbrev is_given_up : SyllableRead → Bool
is_given_up GivenUp = true
is_given_up _ = false

abbrev pub is_whole : SyllableRead → Bool
is_whole Whole = true
is_whole _ = false

is_none_append : (ms : List UnplacedSyllable) (m : UnplacedSyllable) → is_none (ms ++ m ∷ []) ≡ false
is_none_append [] m = refl
is_none_append (n ∷ ms) m = refl

pub lists_each : (m : ScoreMachine) (at : Place) (text : List ℕ) → length (lists_from m at text) ≡ length text
lists_each m at text =
    let xs = placed_characters_from at text in
    let all = events_each texts_by_stage m.body.nabc_lines m.body.macros (part_with m.body.part xs) xs in
    let placed = length_placed at text in
    length-take-le (length text) (running_events_left m.body xs) (omega (arith, all, placed))

-- ---- what becomes of a syllable at a character

-- it is given up exactly if not all is fine
fine_by : (e s w : Bool) → (not s && not e) ≡ not (is_given_up (left_by e s w))
fine_by e s w = grind arith

-- else it is whole exactly if there is one syllable more
whole_by : (e s w : Bool) → left_by e s w ≡ Whole → w ≡ true
whole_by e s w is = grind arith

module _ (limits : Limits) (g : Gathered) (now : List BodyEvent) (left : SyllableRead) (is : left ≡ left_with true limits g now) where
  fine_left : is_fine limits g now ≡ not (is_given_up left)
  fine_left = rw is (fine_by (list_any is_error (findings_now now)) (is_some (code_in limits (with_all g now))) (nat_lt (length g.made) (length (with_all g now).made)))

  -- the syllable that is whole is one more, of which all is read
  whole_left : ClosesLast now → left ≡ Whole → (is_none (with_all g now).made ≡ false) × ((with_all g now).builder ≡ nothing_open)
  whole_left last whole =
      let more = whole_by (list_any is_error (findings_now now)) (is_some (code_in limits (with_all g now))) (nat_lt (length g.made) (length (with_all g now).made)) (sym is ∙ whole) in
      elim (same_or_closed g now last) [
        | inl same ↦ absurd (let l = ap length same in grind (arith, nat_tests, more, l))
        | inr c ↦ (ap is_none c.made ∙ is_none_append g.made c.m, c.builder)
      ]

-- ---- a character

module _ (m n : ScoreMachine) (c : ℕ) (cs : List ℕ) (left : SyllableRead) (p : ReadsSilently true m c left n) where
  later : List (List BodyEvent)
  later = take (length cs) (running_events_left p.body (placed_characters_from (next_place m.next c) cs))

  lists_are : lists_from m m.next (c ∷ cs) ≡ p.now ∷ later
  unfolding later
  lists_are = ap (take (suc (length cs))) (p.law (placed_characters_from (next_place m.next c) cs))

  fine_then : is_alone m.limits m.pair.gathered (lists_from m m.next (c ∷ cs)) ≡ (is_none m.pair.gathered.made && (not (is_given_up left) && is_alone m.limits (with_all m.pair.gathered p.now) later))
  fine_then =
      ap (is_alone m.limits m.pair.gathered) lists_are
      ∙ ap (λ b. is_none m.pair.gathered.made && (b && is_alone m.limits (with_all m.pair.gathered p.now) later)) (fine_left m.limits m.pair.gathered p.now left p.left_is)

  gathered_then : with_all m.pair.gathered (concat_of (lists_from m m.next (c ∷ cs))) ≡ with_all (with_all m.pair.gathered p.now) (concat_of later)
  gathered_then = ap (λ ls. with_all m.pair.gathered (concat_of ls)) lists_are ∙ with_all_append m.pair.gathered p.now (concat_of later)

  later_is : HasRoom m.next (suc (length cs)) → GoesOn m (saturating_next_place m.next c) p.now p.body left n → later ≡ lists_from n n.next cs
  unfolding later
  later_is room g =
      ap (λ (b : BodyStageState). take (length cs) (running_events_left b (placed_characters_from (next_place m.next c) cs))) (sym g.body_is)
      ∙ ap (λ (at : Place). lists_from n at cs) (sym (g.next_is ∙ same_place m.next c (length cs) room))

  later_each : length later ≡ length cs
  unfolding later
  later_each =
      let xs = placed_characters_from (next_place m.next c) cs in
      let all = events_each texts_by_stage p.body.nabc_lines p.body.macros (part_with p.body.part xs) xs in
      let placed = length_placed (next_place m.next c) cs in
      length-take-le (length cs) (running_events_left p.body xs) (omega (arith, all, placed))

-- ---- a text

-- The machine has read all these lists of events, with the last of which a syllable became whole.
pub record HasRead (m n : ScoreMachine) (lists : List (List BodyEvent)) : Type 0 where
  pub stands : StandsInBody n
  pub gathered : n.pair.gathered ≡ with_all m.pair.gathered (concat_of lists)
  pub limits : n.limits ≡ m.limits
  pub lines : n.body.nabc_lines ≡ m.body.nabc_lines
  pub macros : n.body.macros ≡ m.body.macros
  pub before : n.pair.contexts.before ≡ m.pair.contexts.before
  pub whole : n.pair.gathered.builder ≡ nothing_open

pub whole_left_is : (left : SyllableRead) → is_whole left ≡ true → left ≡ Whole
whole_left_is left e = grind arith

-- A text was read so, from this place: whether it is one syllable, and what the machine is then.
pub record HasReadAlone (m : ScoreMachine) (at : Place) (text : List ℕ) (left : SyllableRead) (n : ScoreMachine) : Type 0 where
  pub alone : is_alone m.limits m.pair.gathered (lists_from m at text) ≡ is_whole left
  pub goes : left ≡ Whole → HasRead m n (lists_from m at text)
  pub texts : left ≡ Whole → All IsTextCharacter text → HoldsTexts m.pair.gathered → HoldsTexts n.pair.gathered

not_alone : {m n k : ScoreMachine} {c : ℕ} {cs : List ℕ} {left so_far : SyllableRead} (p : ReadsSilently true m c so_far k) → is_alone m.limits m.pair.gathered (lists_from m m.next (c ∷ cs)) ≡ false → left ≡ GivenUp → HasReadAlone m m.next (c ∷ cs) left n
not_alone p bad is = record {
  alone = bad ∙ ap is_whole (sym is);
  goes = λ whole. absurd (cc (sym is ∙ whole));
  texts = λ whole. absurd (cc (sym is ∙ whole));
}

module _ (m k : ScoreMachine) (c : ℕ) (h : StandsInBody m) (none : m.pair.gathered.made ≡ []) where
  -- a character after which the syllable is given up
  given_up : (cs : List ℕ) (left : SyllableRead) (n : ScoreMachine) → ReadsSilently true m c GivenUp k → left ≡ GivenUp → HasReadAlone m m.next (c ∷ cs) left n
  given_up cs left n p = not_alone p (fine_then m k c cs GivenUp p ∙ and-false (is_none m.pair.gathered.made))

  -- one with which it is whole
  module _ (p : ReadsSilently true m c Whole k) where
    ended : GoesOn m (saturating_next_place m.next c) p.now p.body Whole k
    ended = p.goes (λ e. absurd (cc e))

    one_more : (is_none (with_all m.pair.gathered p.now).made ≡ false) × ((with_all m.pair.gathered p.now).builder ≡ nothing_open)
    one_more = whole_left m.limits m.pair.gathered p.now Whole p.left_is p.last refl

    gathered_whole : k.pair.gathered ≡ with_all m.pair.gathered p.now
    gathered_whole = ended.gathered (λ e. none)

    none_later : later m k c [] Whole p ≡ []
    unfolding later
    none_later = refl

    alone_then : (cs : List ℕ) → is_alone m.limits m.pair.gathered (lists_from m m.next (c ∷ cs)) ≡ is_alone m.limits (with_all m.pair.gathered p.now) (later m k c cs Whole p)
    alone_then cs = fine_then m k c cs Whole p ∙ ap (λ ms. is_none ms && is_alone m.limits (with_all m.pair.gathered p.now) (later m k c cs Whole p)) none

    -- and no other follows
    whole : HasReadAlone m m.next (c ∷ []) Whole k
    whole = record {
      alone = alone_then [] ∙ ap (is_alone m.limits (with_all m.pair.gathered p.now)) none_later ∙ ap not one_more.0;
      goes = λ e. record {
        stands = ended.stands;
        gathered = gathered_whole ∙ sym (gathered_then m k c [] Whole p ∙ ap (λ ls. with_all (with_all m.pair.gathered p.now) (concat_of ls)) none_later);
        limits = p.limits;
        lines = ap (λ (b : BodyStageState). b.nabc_lines) ended.body_is ∙ p.lines;
        macros = ap (λ (b : BodyStageState). b.macros) ended.body_is ∙ p.macros;
        before = ended.alone none;
        whole = ap (λ (g : Gathered). g.builder) gathered_whole ∙ one_more.1;
      };
      texts = λ e text was. subst HoldsTexts (sym gathered_whole) (plain_all m.pair.gathered p.now (of_character c (kept_codes p.now) (All-head IsTextCharacter c [] text) p.only) was);
    }

    none_alone : (lists : List (List BodyEvent)) (n : ℕ) → length lists ≡ suc n → is_alone m.limits (with_all m.pair.gathered p.now) lists ≡ false
    none_alone [] n l = absurd (omega (arith, l))
    none_alone (now ∷ lists) n l = ap (λ b. b && (is_fine m.limits (with_all m.pair.gathered p.now) now && is_alone m.limits (with_all (with_all m.pair.gathered p.now) now) lists)) one_more.0

    -- and another follows
    past : (d : ℕ) (cs : List ℕ) (left : SyllableRead) (n : ScoreMachine) → left ≡ GivenUp → HasReadAlone m m.next (c ∷ (d ∷ cs)) left n
    past d cs left n = not_alone p (alone_then (d ∷ cs) ∙ none_alone (later m k c (d ∷ cs) Whole p) (length cs) (later_each m k c (d ∷ cs) Whole p))

  -- one with which it goes on
  module _ (p : ReadsSilently true m c Open k) where
    goes : GoesOn m (saturating_next_place m.next c) p.now p.body Open k
    goes = p.goes (λ e. absurd (cc e))

    here : k.pair.gathered ≡ with_all m.pair.gathered p.now
    here = goes.gathered (λ e. none)

    on : (cs : List ℕ) (left : SyllableRead) (n : ScoreMachine) → HasRoom m.next (suc (length cs)) → HasReadAlone k k.next cs left n → HasReadAlone m m.next (c ∷ cs) left n
    on cs left n room r = record {
      alone =
          fine_then m k c cs Open p
          ∙ ap (λ ms. is_none ms && is_alone m.limits (with_all m.pair.gathered p.now) (later m k c cs Open p)) none
          ∙ ap (λ (g : Gathered). is_alone m.limits g (later m k c cs Open p)) (sym here)
          ∙ ap (λ (l : Limits). is_alone l k.pair.gathered (later m k c cs Open p)) (sym p.limits)
          ∙ ap (is_alone k.limits k.pair.gathered) (later_is m k c cs Open p room goes)
          ∙ r.alone;
      goes = λ e.
          let l = r.goes e in
          record {
            stands = l.stands;
            gathered =
                l.gathered
                ∙ ap (λ ls. with_all k.pair.gathered (concat_of ls)) (sym (later_is m k c cs Open p room goes))
                ∙ ap (λ (g : Gathered). with_all g (concat_of (later m k c cs Open p))) here
                ∙ sym (gathered_then m k c cs Open p);
            limits = l.limits ∙ p.limits;
            lines = l.lines ∙ ap (λ (b : BodyStageState). b.nabc_lines) goes.body_is ∙ p.lines;
            macros = l.macros ∙ ap (λ (b : BodyStageState). b.macros) goes.body_is ∙ p.macros;
            before = l.before ∙ goes.alone none;
            whole = l.whole;
          };
      texts = λ e text was.
          r.texts e (All-tail IsTextCharacter c cs text)
          (subst HoldsTexts (sym here) (plain_all m.pair.gathered p.now (of_character c (kept_codes p.now) (All-head IsTextCharacter c cs text) p.only) was));
    }

    -- where the next character is read
    next_there : (n : ℕ) → HasRoom m.next (suc n) → HasRoom k.next n
    next_there n room = subst (λ (at : Place). HasRoom at n) (sym (goes.next_is ∙ same_place m.next c n room)) (room_after m.next c n room)

  -- by what becomes of the syllable with it, if the rest of the text is read so
  by_next : (so_far : SyllableRead) (cs : List ℕ) (left : SyllableRead) (n : ScoreMachine) → ReadsSilently true m c so_far k → ReadsTextSilently true so_far k cs left n → HasRoom m.next (suc (length cs))
      → (StandsInBody k → HasRoom k.next (length cs) → k.pair.gathered.made ≡ [] → ReadsTextSilently true Open k cs left n → HasReadAlone k k.next cs left n) → HasReadAlone m m.next (c ∷ cs) left n
  by_next GivenUp cs left n p t room rest = given_up cs left n p t.0
  by_next Whole [] left n p t room rest = subst (λ (l : SyllableRead). HasReadAlone m m.next (c ∷ []) l n) (sym t.0) (subst (HasReadAlone m m.next (c ∷ []) Whole) t.1 (whole p))
  by_next Whole (d ∷ cs) left n p t room rest = past p d cs left n t.0
  by_next Open cs left n p t room rest = on p cs left n room (rest (goes p).stands (next_there p (length cs) room) ((goes p).made refl ∙ none) t)

pub reads_alone : (cs : List ℕ) (m n : ScoreMachine) (left : SyllableRead) → StandsInBody m → HasRoom m.next (length cs) → m.pair.gathered.made ≡ [] → ReadsTextSilently true Open m cs left n → HasReadAlone m m.next cs left n
reads_alone [] m n left h room none g = record {
  alone = ap (λ ms. not (is_none ms)) none ∙ ap is_whole (sym g.0);
  goes = λ whole. absurd (cc (sym g.0 ∙ whole));
  texts = λ whole. absurd (cc (sym g.0 ∙ whole));
}
reads_alone (c ∷ cs) m n left h room none g = by_next m g.1 c h none g.0 cs left n g.2.0 g.2.1 room (λ stands r made t. reads_alone cs g.1 n left stands r made t)
