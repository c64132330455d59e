-- A text that is read as one syllable after open spans.
use Rattle.std.proofs.Common.{◌≡◌, ℕ, ◌<◌, ◌≤◌, List, [], ◌∷◌, ◌++◌, length, take, false, refl, sym, ap, subst, ◌∙◌, append-nil, arith}
use Rattle.std.specs.Prelude.{◌↔◌}
use Rattle.std.specs.List.{All}
use Rattle.std.proofs.lemmas.List.{append_cancel_left}
use Rattle.std.proofs.lemmas.List.Elements.{All-nil}
use Rattle.gabc_places.specs.Place.{place_past, placed_characters_from}
use Rattle.gabc_places.specs.StageLaw.{concat_of}
use Rattle.gabc_places.specs.declared.place.Char.{Char}
use Rattle.gabc_notes.specs.ReadAgain.{IsWarning}
use Rattle.gabc_text.specs.BuiltText.{empty_view}
use Rattle.gabc_text.specs.Events.{events_by_point}
use Rattle.gabc_text.specs.declared.view.Piece.{Piece}
use Rattle.gabc_body.specs.Body.{events_onto, findings_of}
use Rattle.gabc_body.specs.Events.{texts_by_definition}
use Rattle.gabc_body.specs.OneSyllable.{IsOneSyllable}
use Rattle.gabc_body.specs.OpenSpans.{LeavesOpen}
use Rattle.gabc_body.specs.ReadAlone.{begun_after, read_first, IsReadAsSyllable}
use Rattle.gabc_body.specs.Reading.{BodyRead, no_place, kept_bytes}
use Rattle.gabc_body.specs.ScoreEvents.{first_place}
use Rattle.gabc_body.specs.Syllable.{UnplacedSyllable, since_close, kept_of, all_syllables}
use Rattle.gabc_body.specs.UnitRead.{first_events}
use Rattle.gabc_body.specs.declared.before.Spans.{Spans}
use Rattle.gabc_body.specs.declared.events.BodyEvent.{BodyEvent}
use Rattle.gabc_body.specs.witness.BodyBuilder.{with_all}
use Rattle.gabc_score.specs.machine.PartKeeps.{begun}
use Rattle.gabc_body.specs.witness.PartsByKept.{InText, events_by}
use Rattle.gabc_body.specs.witness.TextsByKept.{GoesByKept, TextsGoByKept}
use Rattle.gabc_body.proofs.gathering.BuilderHoldsDefinition.{gathered}
use Rattle.gabc_body.proofs.by_kept.BodyByKept.{body_is}
use Rattle.gabc_body.proofs.by_kept.BodyCharacterKeepsAgreement.{kept_stands}
use Rattle.gabc_body.proofs.by_kept.PrefixesAreRead.{StandsFurther, further}
use Rattle.gabc_body.proofs.by_kept.ReadingAgreesWithEvents.{Fits, counts_fit, codes_placed, Stands}
use Rattle.gabc_body.proofs.order.FindingsOfParts.{found, found_onto}
use Rattle.gabc_score.proofs.resuming.SyllablesOfEvents.{MadeAlike, made_after}
use Rattle.gabc_body.proofs.syllables_of_units.OpenSpans.{opened, leaves_open}

module _ (alike : TextsGoByKept) (lines macros : ℕ) (t : List ℕ) (spans : Spans) (fits : Fits first_place t 0) where
  abbrev pub xs : List Char
  xs = placed_characters_from first_place t

  abbrev pub b0 : BodyRead
  b0 = begun_after [] spans.eu spans.nlba false

  pub begins : Stands (InText (texts_by_definition first_place xs)) first_place t b0 (begun spans) []
  begins = record {
    made_is = refl;
    uncut = refl;
    sounded_is = refl;
    found_is = refl;
    fits = fits;
    reads = record {
      part_is = refl;
      before_is = refl;
      snippets_are = refl;
      no_snippets = refl;
      from_is = refl;
      within = record { kept_is = refl; spans = record { eu_is = refl; nlba_is = refl; lie = All-nil (λ (q : Piece). q.span.to ≤ 0) } };
      goes = subst (λ (u : List ℕ). GoesByKept (place_past first_place t) xs [] no_place false empty_view (events_by_point first_place u)) (sym (codes_placed first_place t))
          (alike first_place t (counts_fit first_place t 0 fits));
    };
  }

  abbrev events : ℕ → List BodyEvent
  events n = first_events lines macros first_place xs n

  same : (n : ℕ) → concat_of (take n (events_by texts_by_definition lines macros (InText (texts_by_definition first_place xs)) xs)) ≡ events n
  same n = ap (λ (lists : List (List BodyEvent)). concat_of (take n lists)) (sym (body_is texts_by_definition lines macros xs (InText (texts_by_definition first_place xs))))

  stands : (n : ℕ) → n ≤ length t → StandsFurther (read_first lines macros spans t n) (with_all (begun spans) (events n)) (found (events n))
  stands n h = subst (λ (es : List BodyEvent). StandsFurther (read_first lines macros spans t n) (with_all (begun spans) es) (found es)) (same n)
      (further alike lines macros n t first_place (InText (texts_by_definition first_place xs)) b0 (begun spans) [] h begins)

  -- after any events that leave these spans open
  module _ (before : List BodyEvent) (leaves : LeavesOpen spans before) where
    gathers : (n : ℕ) → MadeAlike (all_syllables before) (with_all (begun spans) (events n)) (gathered 0 0 (events_onto (events n) before))
    gathers n = made_after (begun spans) spans refl refl refl refl before leaves 0 (omega arith) (events n)

    made : (n : ℕ) → n ≤ length t → all_syllables (events_onto (events n) before) ≡ all_syllables before ++ (read_first lines macros spans t n).made
    made n h = (gathers n).made ∙ ap (λ (ms : List UnplacedSyllable). all_syllables before ++ ms) (stands n h).stands.made_is

    kept : (n : ℕ) → n ≤ length t → kept_of (since_close (events_onto (events n) before)) ≡ kept_bytes (read_first lines macros spans t n).reading
    kept n h =
        let s = stands n h in
        ap (λ (o : _). o.kept) (sym (gathers n).read.builder) ∙ kept_stands s.part s.place s.rest (read_first lines macros spans t n) (with_all (begun spans) (events n)) s.found_is s.stands

  said : findings_of (events_onto (events (length t)) []) ≡ found (events (length t))
  said = found_onto (events (length t)) []

  lt_le : (n : ℕ) → n < length t → n ≤ length t
  lt_le n h = omega (arith, h)

  pub one_syllable : (limit : ℕ) (m : UnplacedSyllable) → IsOneSyllable lines macros first_place t spans limit m ↔ IsReadAsSyllable lines macros t spans limit m
  one_syllable limit m = (
    λ o. record {
      none_earlier = λ n h. append_cancel_left (all_syllables o.before) (read_first lines macros spans t n).made [] (sym (made o.before o.leaves n (lt_le n h)) ∙ o.none_earlier n h ∙ sym (append-nil (all_syllables o.before)));
      one = append_cancel_left (all_syllables o.before) (read_first lines macros spans t (length t)).made (m ∷ []) (sym (made o.before o.leaves (length t) (omega arith)) ∙ o.one);
      few = λ n h. subst (λ (u : List ℕ). length u ≤ limit) (kept o.before o.leaves n h) (o.few n h);
      warnings = let s = stands (length t) (omega arith) in subst (All IsWarning) s.stands.found_is (s.warns.0 (subst (All IsWarning) said o.warnings));
    },
    λ o. record {
      before = opened spans;
      leaves = leaves_open spans;
      none_earlier = λ n h. made (opened spans) (leaves_open spans) n (lt_le n h) ∙ ap (λ (ms : List UnplacedSyllable). all_syllables (opened spans) ++ ms) (o.none_earlier n h) ∙ append-nil (all_syllables (opened spans));
      one = made (opened spans) (leaves_open spans) (length t) (omega arith) ∙ ap (λ (ms : List UnplacedSyllable). all_syllables (opened spans) ++ ms) o.one;
      few = λ n h. subst (λ (u : List ℕ). length u ≤ limit) (sym (kept (opened spans) (leaves_open spans) n h)) (o.few n h);
      warnings = let s = stands (length t) (omega arith) in subst (All IsWarning) (sym said) (s.warns.1 (subst (All IsWarning) (sym s.stands.found_is) o.warnings));
    },
  )
