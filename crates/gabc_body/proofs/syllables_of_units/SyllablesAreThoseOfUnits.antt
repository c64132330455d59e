-- The syllables of a score are those of its units.
use Rattle.std.proofs.Common.{◌≡◌, ℕ, suc, ◌<◌, ◌^◌, ◌||◌, Bool, true, false, cond, if◌then◌else◌, Option, option_map, Some, None, List, [], ◌∷◌, ◌++◌, length, map, refl, sym, ap, subst, ◌∙◌, arith, append_assoc, append-nil, codes}
use Rattle.std.proofs.lemmas.Grind.{flat_map-append}
use lib.Utf8.{encode, encodes}
use Rattle.gabc_places.specs.StageLaw.{concat_of}
use Rattle.gabc_places.specs.declared.place.Place.{Place}
use Rattle.gabc_places.specs.declared.place.Char.{Char}
use Rattle.gabc_text.specs.BuiltText.{with_events, empty_text, text_built_at}
use Rattle.gabc_text.specs.Ends.{EndsOnce}
use Rattle.gabc_text.specs.Events.{codes_of, events_of, events_by_point}
use Rattle.gabc_text.specs.ViewFacts.{StandsForView, span_tags}
use Rattle.gabc_text.specs.View.{kept}
use Rattle.gabc_text.specs.TextRead.{view_in}
use Rattle.gabc_text.specs.TextView.{ViewContent}
use Rattle.gabc_body.specs.declared.events.BodyEvent.{BodyEvent}
use Rattle.gabc_body.specs.Syllable.{UnplacedSyllable, PlacedSyllable, since_close, kept_of, view_of, all_syllables, is_eu, is_nlba}
use Rattle.gabc_body.specs.Body.{events_onto, is_none, has_text, empty_snippet, last_syllable, all_units, cut_of}
use Rattle.gabc_body.specs.Canonical.{position_by, next_starts, placed_syllables_by}
use Rattle.gabc_body.specs.Events.{InText, texts_by_definition, text_from, snippet_from, next_line, body_events}
use Rattle.gabc_body.specs.Units.{EndedPart, LastUnit, JustText, OpenNotes, Units, BodyCutting, whole, events_through, snippets_with, last_pieces, units_pieces, last_characters, cutting_of, Cuts, events_of_cutting, IsCutFrom, IsCut, events_of_parts}
use Rattle.gabc_body.specs.SyllablesOfUnits.{ScoreUnit, closed_units, last_units, score_units, tags_in, begins_word, next_begins_word, HoldsUnit, IsSyllableOf, AreSyllablesOf}
use Rattle.gabc_body.specs.witness.TextEvents.{text_events}
use Rattle.gabc_body.proofs.texts_of_body.SeamsOfCharacters.{size}
use Rattle.gabc_body.proofs.emitted.EventsOfSyllableParts.{Sum, sum_of}
use Rattle.gabc_body.proofs.texts_of_body.TextEmitsThroughEnd.{text_endless, endless_emits}
use Rattle.gabc_body.proofs.snippets_of_body.SnippetEmitsThroughEnd.{line_cut}
use Rattle.gabc_body.proofs.units.BodyHasOneCutting.{body_emits_all}
use Rattle.gabc_body.proofs.units.UnitsEndAtMarks.{first_is}
use Rattle.gabc_body.proofs.holding.SyllableHoldsPartByPart.{IsBack, last_text, last_text_sum, text_sum, cut_is}
use Rattle.gabc_body.proofs.holding.SyllablesHoldParts.{nothing_of, comment_emits, fits_back}
use Rattle.gabc_body.proofs.syllables_of_units.LastTagOpensTheSpan.{after_append, text_opens_span, last_tag_opens}
use Rattle.gabc_body.proofs.syllables_of_units.UnitsGiveSyllables.{eu_after, nlba_after, through_more, all_events, AreMade, units_give}

pub none_of : {A : Type 0} (xs : List A) (m : A) → is_none (xs ++ m ∷ []) ≡ false
none_of [] m = refl
none_of (x ∷ xs) m = refl

-- ---- the last text

module _ (lines : ℕ) where
  -- what is made of a last text, after the syllables that were made before it
  abbrev LastGives : List ScoreUnit → List BodyEvent → List BodyEvent → Type 0
  LastGives us before all = (made : List UnplacedSyllable) × ((all_units all ≡ all_syllables before ++ made) × AreMade lines (is_eu before) (is_nlba before) us made)

  text_emits : (t : List ℕ) (before all : List BodyEvent) → all_syllables all ≡ all_syllables before → sum_of (since_close all) ≡ text_sum t → StandsForView (kept t) (view_in t) t
      → is_eu all ≡ eu_after (is_eu before) (span_tags t) → is_nlba all ≡ nlba_after (is_nlba before) (span_tags t)
      → LastGives (if has_text (view_in t) then record { text = t; notes = []; snippets = [] } ∷ [] else []) before all
  text_emits t before all made sum stands eu nlba =
      let view : view_of (since_close all) ≡ view_in t = ap (λ (s : Sum). s.view) sum in
      let kept_text : kept_of (since_close all) ≡ encodes (kept t) = ap (λ (s : Sum). s.ended ++ s.part) sum in
      let holds : HoldsUnit lines (record { text = t; notes = []; snippets = [] }) (last_syllable all) = record {
        whole = kept t;
        kept_is = kept_text;
        view_is = view;
        stands = subst (λ v. StandsForView (kept t) v t) (sym view) stands;
        notes = record { characters_are = refl; whole_is = refl; snippets_are = ap (λ k. empty_snippet k ∷ []) kept_text };
      } in
      subst (λ b. Gives b (has_text (view_in t))) (sym (ap has_text view)) (by holds (has_text (view_in t)))
    where
      Gives : Bool → Bool → Type 0
      Gives b d = (ms : List UnplacedSyllable) × ((cond b (all_syllables all ++ last_syllable all ∷ []) (all_syllables all) ≡ all_syllables before ++ ms)
          × AreMade lines (is_eu before) (is_nlba before) (if d then record { text = t; notes = []; snippets = [] } ∷ [] else []) ms)

      by : HoldsUnit lines (record { text = t; notes = []; snippets = [] }) (last_syllable all) → (b : Bool) → Gives b b
      by holds true = (last_syllable all ∷ [], (ap (λ (ms : List UnplacedSyllable). ms ++ last_syllable all ∷ []) made, ((holds, (eu, nlba)), tt)))
      by holds false = ([], (made ∙ sym (append-nil (all_syllables before)), tt))

-- ---- positions

all_append : (lines : ℕ) (eu nlba : Bool) (us vs : List ScoreUnit) (ms ns : List UnplacedSyllable) → AreMade lines eu nlba us ms → AreMade lines (eu_after eu (tags_in us)) (nlba_after nlba (tags_in us)) vs ns
    → AreMade lines eu nlba (us ++ vs) (ms ++ ns)
all_append lines eu nlba [] vs [] ns h k = k
all_append lines eu nlba [] vs (m ∷ ms) ns h k = absurd h
all_append lines eu nlba (u ∷ us) vs [] ns h k = absurd h
all_append lines eu nlba (u ∷ us) vs (m ∷ ms) ns h k = (
  h.0,
  all_append lines (eu_after eu (span_tags u.text)) (nlba_after nlba (span_tags u.text)) us vs ms ns h.1
      (subst (λ b. AreMade lines (eu_after (eu_after eu (span_tags u.text)) (tags_in us)) b vs ns) (after_append (codes "<nlba>") (codes "</nlba>") nlba (span_tags u.text) (tags_in us))
      (subst (λ b. AreMade lines b (nlba_after nlba (tags_in (u ∷ us))) vs ns) (after_append (codes "<eu>") (codes "</eu>") eu (span_tags u.text) (tags_in us)) k)),
)

-- the tags by bytes
pub tags_by_bytes : (encodes (codes "<eu>") ≡ codes "<eu>") × (encodes (codes "</eu>") ≡ codes "</eu>") × (encodes (codes "<nlba>") ≡ codes "<nlba>") × (encodes (codes "</nlba>") ≡ codes "</nlba>")
unfolding encode
tags_by_bytes = (refl, refl, refl, refl)

module _ (lines : ℕ) where
  abbrev AreFrom : List ScoreUnit → List ScoreUnit → List PlacedSyllable → Type 0
  AreFrom before [] [] = Unit {0}
  AreFrom before (u ∷ us) (s ∷ ss) = IsSyllableOf lines before u us s × AreFrom (before ++ u ∷ []) us ss
  AreFrom before _ _ = ⊥

  from_counts : (before us : List ScoreUnit) (ss : List PlacedSyllable) → AreFrom before us ss → length ss ≡ length us
  from_counts before [] [] h = refl
  from_counts before [] (s ∷ ss) h = absurd h
  from_counts before (u ∷ us) [] h = absurd h
  from_counts before (u ∷ us) (s ∷ ss) h = ap (λ n. suc n) (from_counts (before ++ u ∷ []) us ss h.1)

  from_each : (first us : List ScoreUnit) (ss : List PlacedSyllable) → AreFrom first us ss → (before after : List ScoreUnit) (u : ScoreUnit) (earlier later : List PlacedSyllable) (s : PlacedSyllable)
      → us ≡ before ++ u ∷ after → ss ≡ earlier ++ s ∷ later → length earlier ≡ length before → IsSyllableOf lines (first ++ before) u after s
  from_each first us ss h [] after u [] later s e f n = grind (arith, append-nil)
  from_each first us ss h (b ∷ before) after u (x ∷ earlier) later s e f n =
      let k = subst (λ ts. AreFrom first (b ∷ (before ++ u ∷ after)) ts) f (subst (λ vs. AreFrom first vs ss) e h) in
      subst (λ c. IsSyllableOf lines c u after s) (append_assoc first (b ∷ []) before)
      (from_each (first ++ b ∷ []) (before ++ u ∷ after) (earlier ++ s ∷ later) k.1 before after u earlier later s refl refl (omega (arith, n)))
  from_each first us ss h [] after u (x ∷ earlier) later s e f n = absurd (omega (arith, n))
  from_each first us ss h (b ∷ before) after u [] later s e f n = absurd (omega (arith, n))

  pub tags_push : (before : List ScoreUnit) (u : ScoreUnit) → tags_in (before ++ u ∷ []) ≡ tags_in before ++ span_tags u.text
  tags_push before u = flat_map-append (λ (v : ScoreUnit). span_tags v.text) before (u ∷ []) ∙ ap (λ ts. tags_in before ++ ts) (append-nil (span_tags u.text))

  -- of the next unit
  next_is : (eu nlba : Bool) (us : List ScoreUnit) (ms : List UnplacedSyllable) → AreMade lines eu nlba us ms → next_starts ms ≡ next_begins_word us
  next_is eu nlba [] [] h = refl
  next_is eu nlba [] (m ∷ ms) h = absurd h
  next_is eu nlba (u ∷ us) [] h = absurd h
  next_is eu nlba (u ∷ us) (m ∷ ms) h = ap (λ (v : ViewContent). v.word_start) h.0.0.view_is

  begins_is : (before : List ScoreUnit) (u : ScoreUnit) (m : UnplacedSyllable) → m.text ≡ view_in u.text → (is_none before || m.text.word_start) ≡ begins_word before u
  begins_is before u m h = grind arith

  placed_from : (before us : List ScoreUnit) (ms : List UnplacedSyllable) → AreMade lines (eu_after false (tags_in before)) (nlba_after false (tags_in before)) us ms → AreFrom before us (placed_syllables_by (is_none before) ms)
  placed_from before [] [] h = tt
  placed_from before [] (m ∷ ms) h = absurd h
  placed_from before (u ∷ us) [] h = absurd h
  placed_from before (u ∷ us) (m ∷ ms) h =
      let eu : eu_after false (tags_in (before ++ u ∷ [])) ≡ eu_after (eu_after false (tags_in before)) (span_tags u.text) =
      ap (eu_after false) (tags_push before u) ∙ after_append (codes "<eu>") (codes "</eu>") false (tags_in before) (span_tags u.text) in
      let nlba : nlba_after false (tags_in (before ++ u ∷ [])) ≡ nlba_after (nlba_after false (tags_in before)) (span_tags u.text) =
      ap (nlba_after false) (tags_push before u) ∙ after_append (codes "<nlba>") (codes "</nlba>") false (tags_in before) (span_tags u.text) in (
        record {
          holds = h.0.0;
          eu_is = last_tag_opens (codes "<eu>") (codes "</eu>") tags_by_bytes.0 tags_by_bytes.1 (tags_in (before ++ u ∷ [])) m.eu (h.0.1.0 ∙ sym eu);
          nlba_is = last_tag_opens (codes "<nlba>") (codes "</nlba>") tags_by_bytes.2 tags_by_bytes.3 (tags_in (before ++ u ∷ [])) m.nlba (h.0.1.1 ∙ sym nlba);
          position_is = ap (λ b. position_by b (next_starts ms)) (begins_is before u m h.0.0.view_is) ∙ ap (position_by (begins_word before u)) (next_is _ _ us ms h.1);
        },
        subst (λ b. AreFrom (before ++ u ∷ []) us (placed_syllables_by b ms)) (none_of before u)
            (placed_from (before ++ u ∷ []) us ms (subst (λ b. AreMade lines (eu_after false (tags_in (before ++ u ∷ []))) b us ms) (sym nlba)
            (subst (λ b. AreMade lines b (nlba_after (nlba_after false (tags_in before)) (span_tags u.text)) us ms) (sym eu) h.1))),
      )

  pub placed_are : (us : List ScoreUnit) (ms : List UnplacedSyllable) → AreMade lines false false us ms → AreSyllablesOf lines us (placed_syllables_by true ms)
  placed_are us ms h =
      let f = placed_from [] us ms h in
      record { count = from_counts [] us (placed_syllables_by true ms) f; each = from_each [] us (placed_syllables_by true ms) f }

-- ---- a body

module _ (ends : (at : Place) (t : List ℕ) → EndsOnce at t) (emits : (at : Place) (t : List ℕ) → with_events empty_text (concat_of (events_by_point at t)) ≡ text_built_at at t)
    (spans : (t : List ℕ) → StandsForView (kept t) (view_in t) t) (in_order : (at : Place) (t : List ℕ) → concat_of (events_by_point at t) ≡ events_of at t) (lines macros : ℕ) where
  -- notes that never end are cut
  notes_cut : (nexts : List EndedPart) (line : ℕ) (opened_at : Place) (xs : List Char) (before : List BodyEvent)
      → (let pieces = snippets_with lines line opened_at nexts [] in let part = snippet_from lines macros line opened_at (whole pieces xs) in
      Cuts texts_by_definition lines macros part pieces xs → (place : Place) × (cut_of (all_events lines macros part pieces xs before) ≡ Some place))
  notes_cut [] line opened_at xs before h =
      let c = line_cut lines macros opened_at line xs h in
      (c.place, (cut_is line opened_at (concat_of (events_through (snippet_from lines macros line opened_at xs) xs)) c before).0)
  notes_cut (e ∷ nexts) line opened_at xs before h =
      let next = next_line lines line in
      let pieces = snippets_with lines next opened_at nexts [] in
      let rest = whole pieces xs in
      let part = snippet_from lines macros line opened_at (e.characters ++ e.end ∷ rest) in
      let r = notes_cut nexts next opened_at xs (events_onto (concat_of (events_through part e.characters)) before) h.1 in
      (r.0, ap cut_of (through_more (events_through part e.characters) (events_of_cutting texts_by_definition lines macros (snippet_from lines macros next opened_at rest) pieces xs) before) ∙ r.1)

  last_emits : (last : LastUnit) (at : Place) (before : List BodyEvent) → since_close before ≡ []
      → (let pieces = last_pieces lines last in let end = last_characters last in let part = text_from texts_by_definition at (whole pieces end) in let all = all_events lines macros part pieces end before in
      Cuts texts_by_definition lines macros part pieces end → cut_of all ≡ None → LastGives lines (last_units last) before all)
  last_emits (JustText xs) at before since h none =
      let t = codes_of xs in
      let events = concat_of (events_through (InText (texts_by_definition at xs)) xs) in
      let all = events_onto events before in
      let e = text_endless ends emits lines at xs h in
      let back : IsBack (codes_of xs) (codes_of xs) = ([], refl) in
      let by_outputs : events ≡ text_events (events_of at t) = endless_emits ends emits lines at xs h ∙ ap text_events (in_order at t) in
      text_emits lines t before all (last_text t t e.0 events back (spans t) e.2 e.1 before since).1 (last_text_sum t e.0 events e.2 e.1 before since) (spans t)
      (ap (λ ts. is_eu (events_onto ts before)) by_outputs ∙ text_opens_span (codes "<eu>") (codes "</eu>") at t before since)
      (ap (λ ts. is_nlba (events_onto ts before)) by_outputs ∙ text_opens_span (codes "<nlba>") (codes "</nlba>") at t before since)
  last_emits (OpenNotes text nexts xs) at before since h none =
      let end = text.end in
      let pieces = snippets_with lines 0 end.place nexts [] in
      let rest = whole pieces xs in
      let part = InText (texts_by_definition at (text.characters ++ end ∷ rest)) in
      let r = notes_cut nexts 0 end.place xs (events_onto (concat_of (events_through part text.characters)) before) h.1 in
      let cut = ap cut_of (through_more (events_through part text.characters) (events_of_cutting texts_by_definition lines macros (snippet_from lines macros 0 end.place rest) pieces xs) before) ∙ r.1 in
      absurd (let k = sym none ∙ cut in cc)

  abbrev BodyGives : List ScoreUnit → List BodyEvent → Type 0
  BodyGives us all = (made : List UnplacedSyllable) × ((all_units all ≡ made) × AreMade lines false false us made)

  units_body : (u : Units) (at : Place) → (let pieces = units_pieces lines u.closed u.last in let end = last_characters u.last in let part = text_from texts_by_definition at (whole pieces end) in
      size (codes_of (whole pieces end)) < 2 ^ 63 → Cuts texts_by_definition lines macros part pieces end → cut_of (all_events lines macros part pieces end []) ≡ None
      → BodyGives (score_units (Some u)) (all_events lines macros part pieces end []))
  units_body u at fits h none =
      let g = units_give ends emits spans in_order lines macros u.closed u.last at [] refl fits h in
      let l = last_emits u.last g.at g.mid g.step.since g.cuts (ap cut_of (sym g.events_are) ∙ none) in
      let us = closed_units u.closed u.last in (
        g.step.made ++ l.0,
        (
          ap all_units g.events_are ∙ l.1.0 ∙ ap (λ (ms : List UnplacedSyllable). ms ++ l.0) g.step.made_is,
          all_append lines false false us (last_units u.last) g.step.made l.0 g.step.are
              (subst (λ b. AreMade lines (eu_after false (tags_in us)) b (last_units u.last) l.0) g.step.nlba (subst (λ b. AreMade lines b (is_nlba g.mid) (last_units u.last) l.0) g.step.eu l.1.1)),
        ),
      )

  pub body_all : (xs : List Char) (cut : BodyCutting) → IsCut texts_by_definition lines macros xs cut
      → events_onto (concat_of (body_events lines macros xs)) [] ≡ events_onto (concat_of (events_of_parts texts_by_definition lines macros (option_map (cutting_of lines) cut.units))) []
  body_all xs cut h =
      let o = option_map (cutting_of lines) cut.units in
      ap (λ ts. events_onto ts [])
      (ap concat_of (body_emits_all texts_by_definition lines macros xs cut h)
      ∙ flat_map-append (λ (ts : List BodyEvent). ts) (map nothing_of cut.comment) (events_of_parts texts_by_definition lines macros o)
      ∙ ap (λ ts. ts ++ concat_of (events_of_parts texts_by_definition lines macros o)) (comment_emits ends emits spans [] lines macros cut.comment))

  pub body_emits : (xs : List Char) (cut : BodyCutting) → IsCut texts_by_definition lines macros xs cut → size (codes_of xs) < 2 ^ 63 → (let all = events_onto (concat_of (body_events lines macros xs)) [] in
      cut_of all ≡ None → BodyGives (score_units cut.units) all)
  body_emits xs cut h fits none = subst (BodyGives (score_units cut.units)) (sym (body_all xs cut h)) (by cut.units h (ap cut_of (sym (body_all xs cut h)) ∙ none))
    where
      by : (o : Option Units) → IsCutFrom texts_by_definition lines macros xs cut.comment (option_map (cutting_of lines) o)
          → cut_of (events_onto (concat_of (events_of_parts texts_by_definition lines macros (option_map (cutting_of lines) o))) []) ≡ None
          → BodyGives (score_units o) (events_onto (concat_of (events_of_parts texts_by_definition lines macros (option_map (cutting_of lines) o))) [])
      by None k n = ([], (refl, tt))
      by (Some u) k n =
          let pieces = units_pieces lines u.closed u.last in
          let end = last_characters u.last in
          let ys = whole pieces end in
          let f = first_is ys k.1.1.0 in
          let short = fits_back cut.comment ys (subst (λ zs. size (codes_of zs) < 2 ^ 63) k.0 fits) in
          let cuts = subst (λ part. Cuts texts_by_definition lines macros part pieces end) f.1 k.1.1.1 in
          subst (λ part. BodyGives (score_units (Some u)) (all_events lines macros part pieces end [])) (sym f.1)
          (units_body u f.0 short cuts (subst (λ part. cut_of (all_events lines macros part pieces end []) ≡ None) f.1 n))
