-- A machine without a pending syllable, at the beginning of a text, reads a text by itself as the
-- definition says.
use Rattle.std.proofs.Common.{◌≡◌, ℕ, ◌≤◌, nat_lt, true, List, [], length, take, None, ap, ◌∙◌}
use Rattle.gabc_places.specs.Place.{placed_characters_from}
use Rattle.gabc_places.specs.StageLaw.{concat_of}
use Rattle.gabc_places.specs.declared.place.Place.{Place}
use Rattle.gabc_text.specs.Events.{CountsFit}
use Rattle.gabc_text.specs.TextStage.{fresh_stage}
use Rattle.gabc_body.specs.declared.before.Before.{Before}
use Rattle.gabc_score.specs.declared.preceding.Preceding.{Preceding}
use Rattle.gabc_score.specs.declared.body_stage.BodyPart.TheVariants.{Text}
use Rattle.gabc_score.specs.declared.score_machine.ScoreMachine.{ScoreMachine}
use Rattle.gabc_score.specs.Before.{with_each}
use Rattle.gabc_body.specs.Events.{texts_by_definition, text_from, events_from}
use Rattle.gabc_score.specs.HeldAgain.{MayBeHeld}
use Rattle.gabc_score.specs.Resumed.{BeginsText}
use Rattle.gabc_body.specs.ScoreEvents.{first_place}
use Rattle.gabc_score.specs.ScoreReports.{before_with, held_of}
use Rattle.gabc_body.specs.Syllable.{UnplacedSyllable}
use Rattle.gabc_body.specs.witness.BodyBuilder.{with_all}
use Rattle.gabc_body.specs.witness.Gatherer.{Gathered}
use Rattle.gabc_score.specs.machine.PartKeeps.{begun, ReadAlike}
use Rattle.gabc_score.specs.machine.ReadAlone.{is_alone, lists_of}
use Rattle.gabc_score.specs.machine.ScoreMachine.{shown, IsInBody}
use Rattle.gabc_score.specs.witness.BodyStage.{BodyStageState, running_events_left}
use Rattle.gabc_score.proofs.resuming.BeginsAnywhere.{none_in_body, nothing_in_body}
use Rattle.gabc_score.proofs.resuming.OneSyllableByCharacters.{Found, IsOneByKept, found, alone}
use Rattle.gabc_score.proofs.resuming.ReadOneByOne.{lists_each}
use Rattle.gabc_score.proofs.resuming.NothingIsRead.{nothing_alike}

module _ (m : ScoreMachine) (rests : IsInBody m) (begins : BeginsText (shown m)) (none_held : held_of (shown m) ≡ None) (text : List ℕ) (fits : CountsFit first_place text)
    (reads : (r : BodyStageState) (at : Place) (t : List ℕ) → r.part ≡ Text (fresh_stage at) → CountsFit at t
    → (let xs = placed_characters_from at t in running_events_left r xs ≡ events_from texts_by_definition r.nabc_lines r.macros (text_from texts_by_definition at xs) xs))
    (by_kept : IsOneByKept text) where
  abbrev g : Gathered
  g = m.pair.gathered

  abbrev b : Before
  b = before_with m.body m.pair.contexts.before

  pub none : g.made ≡ []
  none = none_in_body m.part g.made begins.body none_held

  alike : ReadAlike g (begun m.pair.contexts.after.spans)
  alike = nothing_alike m.body.nabc_lines m.body.macros m.body.part m.pair.contexts.after.spans g rests.reading (nothing_in_body m.part g.builder.kept begins.body begins.nothing_read)

  after_is : m.pair.contexts.after ≡ m.pair.contexts.before
  after_is = rests.after ∙ ap (with_each m.pair.contexts.before) none

  each : length (lists_of m text) ≡ length text
  each = lists_each m first_place text

  are : (let xs = placed_characters_from first_place text in lists_of m text ≡ take (length text) (events_from texts_by_definition b.nabc_lines b.macros (text_from texts_by_definition first_place xs) xs))
  are = ap (take (length text)) (reads m.body first_place text begins.begins fits)

  pub found_alone : is_alone m.limits g (lists_of m text) ≡ true → length (with_all g (concat_of (lists_of m text))).made ≤ 1 → Found m.limits b g text (lists_of m text)
  found_alone e few =
      found m.limits b g rests.rests.limit alike.builder (alike.eu ∙ ap (λ (p : Preceding). p.spans.eu) after_is) (alike.nlba ∙ ap (λ (p : Preceding). p.spans.nlba) after_is) none rests.rests.over
      (rests.preceded.total ∙ ap (λ ms. (with_each m.pair.contexts.before ms).canonical) none) (rests.preceded.follows ∙ ap (λ ms. nat_lt 0 (with_each m.pair.contexts.before ms).syllables) none) text (lists_of m text) are each by_kept e few

  pub is_found : (n : UnplacedSyllable) → MayBeHeld m.limits b text n → is_alone m.limits g (lists_of m text) ≡ true
  is_found = alone m.limits b g rests.rests.limit alike.builder (alike.eu ∙ ap (λ (p : Preceding). p.spans.eu) after_is) (alike.nlba ∙ ap (λ (p : Preceding). p.spans.nlba) after_is) none rests.rests.over
      (rests.preceded.total ∙ ap (λ ms. (with_each m.pair.contexts.before ms).canonical) none) (rests.preceded.follows ∙ ap (λ ms. nat_lt 0 (with_each m.pair.contexts.before ms).syllables) none) text (lists_of m text) are each by_kept
