-- A regular syllable is read between two syllables: the pending one is given, and the one that it
-- makes is pending.
use Rattle.std.proofs.Common.{◌≡◌, ℕ, ◌<◌, ◌≤◌, ◌||◌, nat_lt, true, false, List, [], ◌∷◌, ◌++◌, map, length, take, take_all, take-take, take_at, length-take-le, is_some, refl, sym, ap, subst, ◌∙◌, arith, append_assoc, append-nil, length-append}
use Rattle.std.specs.List.{list_any}
use Rattle.std.proofs.lemmas.List.{append_cancel_left}
use lib.Utf8.{encodes}
use Rattle.gabc_places.specs.StageLaw.{concat_of}
use Rattle.gabc_places.specs.declared.limits.Limits.{Limits}
use Rattle.gabc_places.specs.declared.place.Place.{Place}
use Rattle.gabc_places.specs.declared.place.Char.{Char}
use Rattle.gabc_places.specs.Place.{place_past, placed_characters_from}
use Rattle.gabc_places.proofs.PlacesOfAText.{length_placed}
use Rattle.gabc_text.specs.Events.{CountsFit}
use Rattle.gabc_text.specs.RegularText.{IsRegularText, is_gap}
use Rattle.gabc_text.specs.View.{kept}
use Rattle.gabc_text.specs.ViewFacts.{view_facts, span_tags}
use Rattle.gabc_text.proofs.KeptCharacters.{codes_placed}
use Rattle.gabc_body.specs.declared.before.Spans.{Spans}
use Rattle.gabc_body.specs.declared.events.BodyEvent.{BodyEvent}
use Rattle.gabc_score.specs.Before.{sounds}
use Rattle.gabc_body.specs.Body.{findings_of, is_none}
use Rattle.gabc_body.specs.Events.{Texts, texts_by_definition, text_from, after_mark, events_from}
use Rattle.gabc_score.specs.RegularSyllable.{SyllableParts, IsRegularSyllable, MakesItsSpelling, spelled, notes_spelled, after_part, nexts_at, unit_at}
use Rattle.gabc_body.specs.SpansPast.{eu_past, nlba_past}
use Rattle.gabc_body.specs.Syllable.{UnplacedSyllable}
use Rattle.gabc_body.specs.SyllablesOfUnits as units
use Rattle.gabc_body.specs.UnitRead.{first_events}
use Rattle.gabc_body.specs.Units.{BodyUnit, EndedPart}
use Rattle.gabc_score.specs.witness.BodyStage.{texts_by_stage}
use Rattle.gabc_score.specs.machine.Between.{with_one, after_one, given_before, SoundsNoMore, IsBetween, LeavesRoomFor, StepsOver, lists_between, GathersOneSyllable, SpellsItself}
use Rattle.gabc_body.specs.witness.BodyBuilder.{with_all}
use Rattle.gabc_body.specs.witness.Gatherer.{Gathered}
use Rattle.gabc_score.specs.machine.Preceded.{spans_of}
use Rattle.gabc_score.specs.machine.ReadAlone.{is_error}
use Rattle.gabc_score.specs.machine.ScoreStage.{HeldScore}
use Rattle.gabc_body.specs.witness.SyllableBuilder.{nothing_open}
use Rattle.gabc_body.proofs.emitted.OneListEachCharacter.{events_each}
use Rattle.gabc_body.proofs.order.FindingsOfParts.{found, found_onto}
use Rattle.gabc_score.proofs.regular_syllables.OneMore.{Gathers, holding_one, Pass, next_of, one_passes}
use Rattle.gabc_score.proofs.regular_syllables.PlaceIsPast.{mark_past, next_past}
use Rattle.gabc_score.proofs.regular_syllables.PointsPass.{inputs_are_in, score_through, points_pass}
use Rattle.gabc_body.proofs.holding.PartsAreAUnit.{none_left}
use Rattle.gabc_score.proofs.regular_syllables.RegularSyllableIsRead.{unit_placed}
use Rattle.gabc_score.proofs.regular_syllables.SpellingIsShort.{canonical_short, keeps_within}
use Rattle.gabc_score.proofs.regular_syllables.UnitIsGathered.{unit_gathers, unit_is_gathered}
use Rattle.gabc_score.proofs.resuming.OneSyllableByCharacters.{alone_of}
use Rattle.gabc_body.proofs.syllables_of_units.OpenSpans.{opened, leaves_open, none_cut}

module _ (lines macros : ℕ) (at : Place) (r : SyllableParts) (regular : IsRegularSyllable lines r) (fits : CountsFit at (spelled r)) where
  abbrev us : List Char
  us = placed_characters_from at (spelled r)

  abbrev unit : BodyUnit
  unit = unit_at at r

  abbrev lists_by : Texts → Place → List Char → List (List BodyEvent)
  lists_by texts p xs = events_from texts lines macros (text_from texts p xs) xs

  -- what its characters emit
  abbrev lists : List (List BodyEvent)
  lists = take (length us) (lists_by texts_by_definition at us)

  abbrev next : Place
  next = place_past at (spelled r)

  size_of_us : length us ≡ length (spelled r)
  size_of_us = length_placed at (spelled r)

  lists_each : length lists ≡ length us
  lists_each = let n = events_each texts_by_definition lines macros (text_from texts_by_definition at us) us in length-take-le (length us) (lists_by texts_by_definition at us) (omega (arith, n))

  unit_each : length lists ≡ length (units.characters_in unit)
  unit_each = lists_each ∙ ap (length {A = Char}) (sym (unit_placed at r))

  first_are : (n : ℕ) → n ≤ length lists → first_events lines macros at (units.characters_in unit ++ []) n ≡ concat_of (take n lists)
  first_are n h = grind (arith, append-nil, unit_placed, take-take, lists_each)

  some_stand : 0 < length us
  some_stand = let n = length-append (r.gap ++ r.text) (40 ∷ notes_spelled r.nexts r.final) in omega (arith, size_of_us, n)

  module _ (spans : Spans) (s : MakesItsSpelling lines macros at r (opened spans))
      (kept_alone : (t rest : List ℕ) → IsRegularText t → kept (t ++ 40 ∷ rest) ≡ t)
      (kept_after : (b : ℕ) (gap t rest : List ℕ) → is_gap (b ∷ gap) ≡ true → IsRegularText t → kept (b ∷ gap ++ (t ++ 40 ∷ rest)) ≡ 32 ∷ t) where
    abbrev m : UnplacedSyllable
    m = s.one.made

    -- nothing is found in it
    nothing_found : found (concat_of lists) ≡ []
    nothing_found =
        let es = first_events lines macros at (units.characters_in unit ++ []) (length (units.characters_in unit)) in
        let none : found es ≡ [] = append_cancel_left (findings_of (opened spans)) (found es) [] (sym (found_onto es (opened spans)) ∙ s.nothing ∙ sym (append-nil (findings_of (opened spans)))) in
        let same : es ≡ concat_of (take (length lists) lists) =
        ap (λ (n : ℕ). first_events lines macros at (units.characters_in unit ++ []) n) (sym unit_each) ∙ first_are (length lists) (omega arith) in
        ap (λ (ls : List (List BodyEvent)). found (concat_of ls)) (sym (take_all (length lists) lists (omega arith))) ∙ ap found (sym same) ∙ none

    -- its unit has the span marks of its text
    tags_are : (says_alone : (t rest : List ℕ) → IsRegularText t → view_facts (t ++ 40 ∷ rest) ≡ view_facts t)
        → (says_after : (b : ℕ) (gap t rest : List ℕ) → is_gap (b ∷ gap) ≡ true → IsRegularText t → view_facts (b ∷ gap ++ (t ++ 40 ∷ rest)) ≡ record (view_facts t) { word_start = true })
        → span_tags (units.score_unit unit []).text ≡ span_tags r.text
    tags_are says_alone says_after = grind (arith, append-nil, unit_placed, codes_placed, append_assoc)

    pub made_of : (says_alone : (t rest : List ℕ) → IsRegularText t → view_facts (t ++ 40 ∷ rest) ≡ view_facts t)
        → (says_after : (b : ℕ) (gap t rest : List ℕ) → is_gap (b ∷ gap) ≡ true → IsRegularText t → view_facts (b ∷ gap ++ (t ++ 40 ∷ rest)) ≡ record (view_facts t) { word_start = true })
        → SpellsItself lines spans r m
    made_of says_alone says_after = record {
      kept = s.kept_is;
      starts = s.starts_is;
      canonical_is = s.canonical_is;
      text_is = s.text_is;
      snippets_are = s.snippets_are;
      spans_are = s.spans_are;
      unit = record { unit = units.score_unit unit []; noted = none_left (λ (e : EndedPart). e.characters) unit.nexts unit.final; single = single; holds = s.one.holds };
      tags = tags_are says_alone says_after;
      follows = record { eu = s.one.eu_is ∙ ap (eu_past m) (leaves_open spans).eu; nlba = s.one.nlba_is ∙ ap (nlba_past m) (leaves_open spans).nlba };
    }
      where
        single : lines ≡ 0 → length (units.score_unit unit []).snippets ≤ 1
        single h =
            subst (λ (nexts : List (List ℕ)). length (map (λ (e : EndedPart). e.characters) (nexts_at (after_part at (r.gap ++ r.text) 40) nexts ++ unit.final ∷ [])) ≤ 1) (sym (regular.single h)) (omega arith)

    -- ---- what is gathered

    module _ (limits : Limits) (g : Gathered) (spans_are : spans_of g ≡ spans) (room : LeavesRoomFor limits g r) (nothing : g.builder ≡ nothing_open) (limit : g.limit ≡ limits.syllable)
        (follows : g.follows ≡ true) (sounded : SoundsNoMore (is_some g.first_kind) (sounds m)) (over : g.over ≡ false) (none : g.made ≡ []) where
      eu_is : g.eu ≡ spans.eu
      eu_is = ap (λ (p : Spans). p.eu) spans_are

      nlba_is : g.nlba ≡ spans.nlba
      nlba_is = ap (λ (p : Spans). p.nlba) spans_are

      gathers : Gathers limits g lists m
      gathers =
          unit_gathers g spans nothing eu_is nlba_is none follows (opened spans) (leaves_open spans) (none_cut spans) lines macros at unit s.one sounded lists unit_each first_are limits
          (length (encodes (spelled r))) (record { limit = limit; over = over; syllable = room.syllable; input = room.input })
          (keeps_within r kept_alone kept_after lines at regular limits.syllable room.syllable) (canonical_short r m s.starts_is s.canonical_is) nothing_found

      gathered_is : (ms : List UnplacedSyllable) → record (with_all g (concat_of lists)) { made = m ∷ [] } ≡ with_one (record g { made = ms }) m
      gathered_is ms = unit_is_gathered g spans nothing eu_is nlba_is none follows (opened spans) (leaves_open spans) (none_cut spans) lines macros at unit s.one sounded lists unit_each first_are ms

    module _ (stage : (xs : List Char) → lists_by texts_by_stage at (us ++ xs) ≡ lists ++ lists_by texts_by_stage (after_mark unit.final.end.place) xs) (limits : Limits) (held : HeldScore)
        (between : IsBetween limits held) (sounded : SoundsNoMore (is_some held.gathered.first_kind) (sounds m)) (spans_are : spans_of held.gathered ≡ spans) (room : LeavesRoomFor limits held.gathered r) where
      abbrev ms : List UnplacedSyllable
      ms = held.gathered.made

      abbrev g : Gathered
      g = record held.gathered { made = [] }

      passes : Pass limits held.is_preceded ms between.few held us lists (holding_one limits held.is_preceded ms between.few (next_of us held.next) (with_all g (concat_of lists)) m) (given_before held m)
      passes =
          one_passes limits held.is_preceded ms between.few held.next g us lists m (sym lists_each)
          (gathers limits g spans_are (record { syllable = room.syllable; input = room.input }) between.nothing between.limit between.follows sounded between.over refl)

      after_is : score_through held us lists ≡ after_one held next m
      after_is =
          passes.after_is
          ∙ ap (λ (p : Place). holding_one limits held.is_preceded ms between.few p (with_all g (concat_of lists)) m) (next_past at r fits held.next some_stand)
          ∙ ap (λ (h : Gathered). record { next = next; gathered = h; is_preceded = held.is_preceded || nat_lt 0 (length ms) })
          (gathered_is limits g spans_are (record { syllable = room.syllable; input = room.input }) between.nothing between.limit between.follows sounded between.over refl ms)

      pub through : StepsOver limits lines macros at held (spelled r) (given_before held m) next (after_one held next m)
      through = grind (arith, passes, size_of_us, inputs_are_in, points_pass, mark_past, after_is)

      pub alone : ms ≡ [] → GathersOneSyllable limits held.gathered (lists_between lines macros at (spelled r)) m
      alone none = subst (λ (ls : List (List BodyEvent)). GathersOneSyllable limits held.gathered ls m) (sym lists_are) (record {
        alone = alone_of limits lists held.gathered (record {
          earlier = all.earlier;
          some = ap is_none all.made;
          within = λ n h. let f = all.fits n h in record { kept = f.kept; over = f.over; file = λ some. f.total };
          fine = ap (list_any is_error) (found_onto (concat_of lists) [] ∙ nothing_found);
        });
        gathered = ap (λ (made : List UnplacedSyllable). record (with_all held.gathered (concat_of lists)) { made = made }) all.made
            ∙ gathered_is limits held.gathered spans_are room between.nothing between.limit between.follows sounded between.over none [];
      })
        where
          all : Gathers limits held.gathered lists m
          all = gathers limits held.gathered spans_are room between.nothing between.limit between.follows sounded between.over none

          lists_are : lists_between lines macros at (spelled r) ≡ lists
          lists_are =
              ap (λ (ys : List Char). take (length (spelled r)) (lists_by texts_by_stage at ys)) (sym (append-nil us)) ∙ ap (take (length (spelled r))) (stage [])
              ∙ take_at lists (lists_by texts_by_stage (after_mark unit.final.end.place) []) (length (spelled r)) (lists_each ∙ size_of_us)
