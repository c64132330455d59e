-- Each unit of a body gives a syllable that holds it.
use Rattle.std.proofs.Common.{◌≡◌, ℕ, ◌<◌, ◌^◌, Bool, List, [], ◌∷◌, ◌++◌, map, refl, sym, ap, subst, ◌∙◌, append_assoc, append-nil, codes, arith}
use Rattle.std.proofs.lemmas.List.{map-append}
use Rattle.std.proofs.lemmas.Grind.{flat_map-append}
use Rattle.gabc_places.specs.StageLaw.{concat_of}
use Rattle.gabc_places.specs.declared.place.Place.{Place}
use Rattle.gabc_places.specs.declared.place.Char.{Char}
use Rattle.gabc_text.specs.BuiltText.{with_events, empty_text, text_built_at}
use Rattle.gabc_text.specs.Ends.{EndsOnce}
use Rattle.gabc_text.specs.Events.{codes_of, events_of, events_by_point}
use Rattle.gabc_text.specs.ViewFacts.{StandsForView, span_tags}
use Rattle.gabc_text.specs.View.{kept}
use Rattle.gabc_text.specs.TextRead.{view_in}
use Rattle.gabc_notes.specs.declared.stage.NoteEnd.{NoteEnd}
use Rattle.gabc_notes.specs.declared.stage.NoteEnd.TheVariants as note_end
use Rattle.gabc_notes.specs.declared.stage.NoteEvent.{NoteEvent}
use Rattle.gabc_notes.specs.declared.stage.NoteEvent.TheVariants as note
use Rattle.gabc_notes.specs.SnippetRead.{ends_of}
use Rattle.gabc_text.specs.Ends.{ends_in}
use Rattle.gabc_text.specs.declared.text_event.TextEnd.TheVariants as text_end
use Rattle.gabc_text.specs.declared.text_event.TextEvent.{TextEvent}
use Rattle.gabc_text.specs.declared.text_event.TextEvent.TheVariants as text_out
use Rattle.gabc_body.specs.declared.events.BodyEvent.{BodyEvent}
use Rattle.gabc_body.specs.declared.events.BodyEvent.TheVariants.{Text, Notes}
use Rattle.gabc_body.specs.Syllable.{UnplacedSyllable, since_close, all_syllables, is_eu, is_nlba, is_open}
use Rattle.gabc_body.specs.Body.{events_onto, cut_of}
use Rattle.gabc_body.specs.Events.{Texts, PartAhead, InText, note_event, texts_by_definition, text_from, snippet_from, next_line, after_mark}
use Rattle.gabc_body.specs.Units.{Mark, Opens, Next, Closes, CutPart, EndedPart, BodyUnit, LastUnit, JustText, OpenNotes, cut_part, whole, events_through, snippets_with, last_pieces, units_pieces, last_characters, EndsAfter, Cuts, events_of_cutting, BodyCutting, IsCut}
use Rattle.gabc_body.specs.Holding.{ReadSnippet, bracket_with}
use Rattle.gabc_body.specs.SyllablesOfUnits.{with_ends, characters_in, last_in, characters_from, unit_characters, ScoreUnit, score_unit, closed_units, tags_in, HoldsUnit}
use Rattle.gabc_body.specs.witness.TextEvents.{text_events}
use Rattle.gabc_body.proofs.texts_of_body.SeamsOfCharacters.{size}
use Rattle.gabc_body.proofs.emitted.EventsOfSyllableParts.{onto_append}
use Rattle.gabc_body.proofs.texts_of_body.TextEmitsThroughEnd.{TextEmitted, codes_append, text_mark, text_ended, ended_emits}
use Rattle.gabc_body.proofs.snippets_of_body.GrammarEmitsThroughEnd.{IsMark}
use Rattle.gabc_body.proofs.snippets_of_body.SnippetEmitsThroughEnd.{LineEmitted, line_emitted}
use Rattle.gabc_body.proofs.holding.SyllableHoldsPartByPart.{IsBack, codes_in, SoFar, text_opens, text_opens_is, new, close_unit, next_far, next_far_is, next_made}
use Rattle.gabc_body.proofs.holding.SyllablesHoldParts.{fits_prefix, fits_back}
use Rattle.gabc_body.proofs.syllables_of_units.LastTagOpensTheSpan.{after_tags, after_append, text_opens_span}

abbrev pub eu_after : Bool → List (List ℕ) → Bool
eu_after was tags = after_tags (codes "<eu>") (codes "</eu>") was tags

abbrev pub nlba_after : Bool → List (List ℕ) → Bool
nlba_after was tags = after_tags (codes "<nlba>") (codes "</nlba>") was tags

-- ---- characters

with_ends_append : (xs ys : List EndedPart) → with_ends (xs ++ ys) ≡ with_ends xs ++ with_ends ys
with_ends_append [] ys = refl
with_ends_append (e ∷ xs) ys = grind (arith, with_ends_append xs ys, append_assoc)

module _ (lines : ℕ) where
  nexts_whole : (line : ℕ) (opened_at : Place) (nexts : List EndedPart) (more : List CutPart) (last : List Char) → whole (snippets_with lines line opened_at nexts more) last ≡ with_ends nexts ++ whole more last
  nexts_whole line opened_at [] more last = refl
  nexts_whole line opened_at (e ∷ nexts) more last =
      ap (λ cs. e.characters ++ e.end ∷ cs) (nexts_whole (next_line lines line) opened_at nexts more last) ∙ sym (append_assoc e.characters (e.end ∷ with_ends nexts) (whole more last))

  pub snippets_whole : (line : ℕ) (opened_at : Place) (nexts : List EndedPart) (final : EndedPart) (more : List CutPart) (last : List Char)
      → whole (snippets_with lines line opened_at nexts (cut_part final Closes ∷ more)) last ≡ with_ends (nexts ++ final ∷ []) ++ whole more last
  snippets_whole line opened_at nexts final more last = nexts_whole line opened_at nexts (cut_part final Closes ∷ more) last ∙ simp (with_ends_append, append_assoc)

  pub unit_whole : (u : BodyUnit) (more : List CutPart) (last : List Char)
      → whole (cut_part u.text Opens ∷ snippets_with lines 0 u.text.end.place u.nexts (cut_part u.final Closes ∷ more)) last ≡ characters_in u ++ whole more last
  unit_whole u more last = grind (arith, snippets_whole, append_assoc)

  last_whole : (last : LastUnit) → whole (last_pieces lines last) (last_characters last) ≡ last_in last
  last_whole (JustText xs) = refl
  last_whole (OpenNotes text nexts xs) =
      ap (λ cs. text.characters ++ text.end ∷ cs) (nexts_whole 0 text.end.place nexts [] xs)
      ∙ sym (append_assoc text.characters (text.end ∷ with_ends nexts) xs)

  pub units_whole : (units : List BodyUnit) (last : LastUnit) → whole (units_pieces lines units last) (last_characters last) ≡ characters_from units last
  units_whole [] last = last_whole last
  units_whole (u ∷ units) last = unit_whole u (units_pieces lines units last) (last_characters last) ∙ ap (λ cs. characters_in u ++ cs) (units_whole units last)

-- a body is its comment and its units, one after the other
pub body_is_units : (texts : Texts) (lines macros : ℕ) (xs : List Char) (cut : BodyCutting) → IsCut texts lines macros xs cut → xs ≡ cut.comment ++ unit_characters cut.units
body_is_units texts lines macros xs cut h = grind (arith, append-nil, units_whole)

-- ---- notes open and close no span

module _ (opening closing : List ℕ) where
  notes_still : (line : ℕ) (opened_at : Place) (os : List NoteEvent) (before : List BodyEvent) → is_open opening closing (events_onto (map (note_event line opened_at) os) before) ≡ is_open opening closing before
  notes_still line opened_at [] before = refl
  notes_still line opened_at (note.Kept x ∷ os) before = notes_still line opened_at os (Notes line (note.Kept x) ∷ before)
  notes_still line opened_at (o ∷ os) before = notes_still line opened_at os (note_event line opened_at o ∷ before)

  line_still : (lines line : ℕ) (opened_at : Place) (prefix : List Char) (end : Char) (mark : Mark) (events : List BodyEvent) (l : LineEmitted lines line opened_at prefix end mark events) (before : List BodyEvent)
      → is_open opening closing (events_onto events before) ≡ is_open opening closing before
  line_still lines line opened_at prefix end mark events l before =
      rw (l.emitted_are, onto_append) (notes_still line opened_at l.mids before)

-- a mark leaves nothing open
notes_uncut : (line : ℕ) (opened_at : Place) (os : List NoteEvent) (before : List BodyEvent) → ends_of os ≡ [] → cut_of (events_onto (map (note_event line opened_at) os) before) ≡ cut_of before
notes_uncut line opened_at [] before h = refl
notes_uncut line opened_at (note.Ended how n ∷ os) before h = absurd (cc)
notes_uncut line opened_at (o ∷ os) before h = notes_uncut line opened_at os (note_event line opened_at o ∷ before) h

line_uncut : (lines line : ℕ) (opened_at : Place) (prefix : List Char) (end : Char) (mark : Mark) (events : List BodyEvent) (l : LineEmitted lines line opened_at prefix end mark events) (before : List BodyEvent)
    → cut_of (events_onto events before) ≡ cut_of before
line_uncut lines line opened_at prefix end mark events l before =
    rw (l.emitted_are, onto_append) (by l.how l.is_mark ∙ notes_uncut line opened_at l.mids before l.silent)
  where
    by : (how : NoteEnd) → IsMark end.c how → cut_of (Notes line (note.Ended how (size l.kept)) ∷ events_onto (map (note_event line opened_at) l.mids) before) ≡ cut_of (events_onto (map (note_event line opened_at) l.mids) before)
    by (note_end.Cut place) h = absurd h
    by _ h = refl

text_uncut : (os : List TextEvent) (before : List BodyEvent) → ends_in os ≡ [] → cut_of (events_onto (text_events os) before) ≡ cut_of before
text_uncut [] before h = refl
text_uncut (text_out.Ended how ∷ os) before h = absurd (cc)
text_uncut (o ∷ os) before h = text_uncut os (Text o ∷ before) h

opened_uncut : (t : List ℕ) (events : List BodyEvent) (g : TextEmitted t text_end.Notes events) (before : List BodyEvent) → cut_of (events_onto events before) ≡ cut_of before
opened_uncut t events g before = grind (arith, onto_append, text_uncut)

-- ---- a unit

-- from `before` on, what is emitted gives one syllable, which holds the unit, and these tags
pub record UnitGives (lines : ℕ) (u : ScoreUnit) (tags : List (List ℕ)) (before after : List BodyEvent) : Type 0 where
  pub made : UnplacedSyllable
  pub made_is : all_syllables after ≡ all_syllables before ++ made ∷ []
  pub holds : HoldsUnit lines u made
  pub made_eu : made.eu ≡ eu_after (is_eu before) tags
  pub made_nlba : made.nlba ≡ nlba_after (is_nlba before) tags
  pub eu : is_eu after ≡ eu_after (is_eu before) tags
  pub nlba : is_nlba after ≡ nlba_after (is_nlba before) tags
  pub uncut : cut_of after ≡ cut_of before
  pub since : since_close after ≡ []

pub through_more : (xs ys : List (List BodyEvent)) (before : List BodyEvent) → events_onto (concat_of (xs ++ ys)) before ≡ events_onto (concat_of ys) (events_onto (concat_of xs) before)
through_more xs ys before = ap (λ ts. events_onto ts before) (flat_map-append (λ (ts : List BodyEvent). ts) xs ys) ∙ onto_append (concat_of xs) (concat_of ys) before

abbrev characters_of : List EndedPart → List (List Char)
characters_of es = map (λ (e : EndedPart). e.characters) es

-- ---- units

module _ (lines : ℕ) where
  -- the syllables of units, where spans were open or not before them
  abbrev pub AreMade : Bool → Bool → List ScoreUnit → List UnplacedSyllable → Type 0
  AreMade eu nlba [] [] = Unit {0}
  AreMade eu nlba (u ∷ us) (m ∷ ms) =
      (HoldsUnit lines u m × ((m.eu ≡ eu_after eu (span_tags u.text)) × (m.nlba ≡ nlba_after nlba (span_tags u.text))))
      × AreMade (eu_after eu (span_tags u.text)) (nlba_after nlba (span_tags u.text)) us ms
  AreMade eu nlba _ _ = ⊥

  pub record UnitsGive (us : List ScoreUnit) (before after : List BodyEvent) : Type 0 where
    pub made : List UnplacedSyllable
    pub made_is : all_syllables after ≡ all_syllables before ++ made
    pub are : AreMade (is_eu before) (is_nlba before) us made
    pub eu : is_eu after ≡ eu_after (is_eu before) (tags_in us)
    pub nlba : is_nlba after ≡ nlba_after (is_nlba before) (tags_in us)
    pub uncut : cut_of after ≡ cut_of before
    pub since : since_close after ≡ []

module _ (lines macros : ℕ) where
  abbrev pub all_events : PartAhead → List CutPart → List Char → List BodyEvent → List BodyEvent
  all_events part pieces last before = events_onto (concat_of (events_of_cutting texts_by_definition lines macros part pieces last)) before

  -- after the unit the text goes on with `more`
  pub record Continues (u : ScoreUnit) (tags : List (List ℕ)) (part : PartAhead) (pieces more : List CutPart) (last : List Char) (at : Place) (before : List BodyEvent) : Type 0 where
    pub mid : List BodyEvent
    pub step : UnitGives lines u tags before mid
    pub events_are : all_events part pieces last before ≡ all_events (text_from texts_by_definition at (whole more last)) more last mid
    pub cuts : Cuts texts_by_definition lines macros (text_from texts_by_definition at (whole more last)) more last

  -- after the units stands what is after the last `)`
  pub record GoesOn (us : List ScoreUnit) (part : PartAhead) (pieces : List CutPart) (last : LastUnit) (before : List BodyEvent) : Type 0 where
    pub at : Place
    pub mid : List BodyEvent
    pub step : UnitsGive lines us before mid
    pub events_are : all_events part pieces (last_characters last) before
        ≡ all_events (text_from texts_by_definition at (whole (last_pieces lines last) (last_characters last))) (last_pieces lines last) (last_characters last) mid
    pub cuts : Cuts texts_by_definition lines macros (text_from texts_by_definition at (whole (last_pieces lines last) (last_characters last))) (last_pieces lines last) (last_characters last)

-- ---- the parts of units

module _ (ends : (at : Place) (t : List ℕ) → EndsOnce at t) (emits : (at : Place) (t : List ℕ) → with_events empty_text (concat_of (events_by_point at t)) ≡ text_built_at at t)
    (spans : (t : List ℕ) → StandsForView (kept t) (view_in t) t) (in_order : (at : Place) (t : List ℕ) → concat_of (events_by_point at t) ≡ events_of at t) (lines macros : ℕ) where
  notes_give : (u : ScoreUnit) (o : Char) (text : List ℕ) (done nexts : List EndedPart) (final : EndedPart) (more : List CutPart) (last : List Char) (line : ℕ) (opened_at : Place) (before : List BodyEvent)
      → (let pieces = snippets_with lines line opened_at nexts (cut_part final Closes ∷ more) in let xs = whole pieces last in let part = snippet_from lines macros line opened_at xs in
      (far : SoFar text lines line xs (since_close before)) → u.text ≡ far.text → map (λ (s : ReadSnippet). s.characters) far.earlier ≡ characters_of done
      → bracket_with codes_in far.earlier ≡ codes_of (o ∷ with_ends done) → u.notes ≡ codes_of (o ∷ with_ends (done ++ (nexts ++ final ∷ []))) → u.snippets ≡ characters_of (done ++ (nexts ++ final ∷ []))
      → (ys : List Char) (yss : List (List Char)) → u.snippets ≡ ys ∷ yss
      → size (codes_of xs) < 2 ^ 63 → Cuts texts_by_definition lines macros part pieces last → Continues lines macros u [] part pieces more last (after_mark final.end.place) before)
  notes_give u o text done [] final more last line opened_at before far t d od n s ys yss some fits h =
      let rest = whole more last in
      let part = snippet_from lines macros line opened_at (final.characters ++ final.end ∷ rest) in
      let events = concat_of (events_through part final.characters) in
      let l = line_emitted lines macros opened_at line final.characters final.end rest Closes (fits_prefix final.characters (final.end ∷ rest) fits) h.0 in
      let closes : final.end.c ≡ 41 = subst (IsMark final.end.c) l.marks l.is_mark in
      let one = new text lines line opened_at final.characters final.end rest Closes events l before far (spans far.text) in
      let all : codes_of (o ∷ with_ends (done ++ final ∷ [])) ≡ codes_of (o ∷ with_ends done) ++ (codes_of final.characters ++ codes ")") = simp (with_ends_append, codes_append, closes) in
      let notes_are : u.notes ≡ bracket_with codes_in far.earlier ++ (codes_of final.characters ++ codes ")") = n ∙ all ∙ ap (λ cs. cs ++ (codes_of final.characters ++ codes ")")) (sym od) in
      let characters_are : map (λ (s : ReadSnippet). s.characters) (far.earlier ++ one ∷ []) ≡ u.snippets =
      map-append (λ (s : ReadSnippet). s.characters) far.earlier (one ∷ []) ∙ ap (λ cs. cs ++ final.characters ∷ []) d
      ∙ sym (map-append (λ (e : EndedPart). e.characters) done (final ∷ [])) ∙ sym s in
      let c = close_unit text lines line opened_at final.characters final.end rest Closes events l before far (spans far.text) l.marks closes u t notes_are ys yss some characters_are in
      record {
        mid = events_onto events before;
        step = record {
          made = c.0;
          made_is = c.1;
          holds = c.2;
          made_eu = c.3.0 ∙ notes_still (codes "<eu>") (codes "</eu>") line opened_at l.mids before;
          made_nlba = c.3.1 ∙ notes_still (codes "<nlba>") (codes "</nlba>") line opened_at l.mids before;
          eu = line_still (codes "<eu>") (codes "</eu>") lines line opened_at final.characters final.end Closes events l before;
          nlba = line_still (codes "<nlba>") (codes "</nlba>") lines line opened_at final.characters final.end Closes events l before;
          uncut = line_uncut lines line opened_at final.characters final.end Closes events l before;
          since = c.4;
        };
        events_are = through_more (events_through part final.characters) (events_of_cutting texts_by_definition lines macros (text_from texts_by_definition (after_mark final.end.place) rest) more last) before;
        cuts = h.1;
      }
  notes_give u o text done (e ∷ nexts) final more last line opened_at before far t d od n s ys yss some fits h =
      let next = next_line lines line in
      let pieces = snippets_with lines next opened_at nexts (cut_part final Closes ∷ more) in
      let rest = whole pieces last in
      let part = snippet_from lines macros line opened_at (e.characters ++ e.end ∷ rest) in
      let events = concat_of (events_through part e.characters) in
      let mark = Next next opened_at in
      let l = line_emitted lines macros opened_at line e.characters e.end rest mark (fits_prefix e.characters (e.end ∷ rest) fits) h.0 in
      let bar : e.end.c ≡ 124 = subst (IsMark e.end.c) l.marks.0 l.is_mark in
      let one = new text lines line opened_at e.characters e.end rest mark events l before far (spans far.text) in
      let on = next_far text lines line opened_at e.characters e.end rest mark events l before far (spans far.text) l.marks.0 bar in
      let is = next_far_is text lines line opened_at e.characters e.end rest mark events l before far (spans far.text) l.marks.0 bar in
      let after = events_onto events before in
      let regroup : done ++ ((e ∷ nexts) ++ final ∷ []) ≡ (done ++ e ∷ []) ++ (nexts ++ final ∷ []) = sym (append_assoc done (e ∷ []) (nexts ++ final ∷ [])) in
      let characters_are : map (λ (s : ReadSnippet). s.characters) on.earlier ≡ characters_of (done ++ e ∷ []) =
      ap (map (λ (s : ReadSnippet). s.characters)) is.2
      ∙ map-append (λ (s : ReadSnippet). s.characters) far.earlier (one ∷ []) ∙ ap (λ cs. cs ++ e.characters ∷ []) d
      ∙ sym (map-append (λ (e : EndedPart). e.characters) done (e ∷ [])) in
      let opened_is : bracket_with codes_in on.earlier ≡ codes_of (o ∷ with_ends (done ++ e ∷ [])) =
      ap (bracket_with codes_in) is.2
      ∙ ap (λ cs. codes "(" ++ cs) (flat_map-append (λ (s : ReadSnippet). codes_in s ++ codes "|") far.earlier (one ∷ []))
      ∙ ap (λ cs. bracket_with codes_in far.earlier ++ cs) (append-nil (codes_of e.characters ++ codes "|"))
      ∙ ap (λ cs. cs ++ (codes_of e.characters ++ codes "|")) od
      ∙ simp (with_ends_append, codes_append, bar) in
      let r = notes_give u o text (done ++ e ∷ []) nexts final more last next opened_at after on (t ∙ sym is.0) characters_are opened_is
      (n ∙ ap (λ es. codes_of (o ∷ with_ends es)) regroup) (s ∙ ap characters_of regroup) ys yss some (fits_back (e.end ∷ []) rest (fits_back e.characters (e.end ∷ rest) fits)) h.1 in
      let eu_same = line_still (codes "<eu>") (codes "</eu>") lines line opened_at e.characters e.end mark events l before in
      let nlba_same = line_still (codes "<nlba>") (codes "</nlba>") lines line opened_at e.characters e.end mark events l before in
      let made_same = next_made text lines line opened_at e.characters e.end rest mark events l before far (spans far.text) l.marks.0 in
      record {
        mid = r.mid;
        step = record {
          made = r.step.made;
          made_is = r.step.made_is ∙ ap (λ (ms : List UnplacedSyllable). ms ++ r.step.made ∷ []) made_same;
          holds = r.step.holds;
          made_eu = r.step.made_eu ∙ eu_same;
          made_nlba = r.step.made_nlba ∙ nlba_same;
          eu = r.step.eu ∙ eu_same;
          nlba = r.step.nlba ∙ nlba_same;
          uncut = r.step.uncut ∙ line_uncut lines line opened_at e.characters e.end mark events l before;
          since = r.step.since;
        };
        events_are = through_more (events_through part e.characters) (events_of_cutting texts_by_definition lines macros (snippet_from lines macros next opened_at rest) pieces last) before ∙ r.events_are;
        cuts = r.cuts;
      }

  -- the snippets of a unit are at least one
  some_snippet : (nexts : List EndedPart) (final : EndedPart) → (ys : List Char) × (yss : List (List Char)) × (characters_of (nexts ++ final ∷ []) ≡ ys ∷ yss)
  some_snippet [] final = (final.characters, [], refl)
  some_snippet (e ∷ nexts) final = (e.characters, characters_of (nexts ++ final ∷ []), refl)

  module _ (opening closing : List ℕ) where
    -- a text opens and closes spans by its tags
    text_spans : (at : Place) (prefix : List Char) (end : Char) (rest : List Char) (mark : Mark) (before : List BodyEvent) → since_close before ≡ []
        → (let xs = prefix ++ end ∷ rest in let part = InText (texts_by_definition at xs) in EndsAfter lines part prefix mark
        → is_open opening closing (events_onto (concat_of (events_through part prefix)) before) ≡ after_tags opening closing (is_open opening closing before) (span_tags (codes_of xs)))
    text_spans at prefix end rest mark before since h = grind (arith, ended_emits, text_opens_span)

  -- a unit
  pub unit_emits : (at : Place) (u : BodyUnit) (more : List CutPart) (last : List Char) (before : List BodyEvent) → since_close before ≡ []
      → (let pieces = cut_part u.text Opens ∷ snippets_with lines 0 u.text.end.place u.nexts (cut_part u.final Closes ∷ more) in let xs = whole pieces last in
      let v = score_unit u (whole more last) in
      size (codes_of xs) < 2 ^ 63 → Cuts texts_by_definition lines macros (text_from texts_by_definition at xs) pieces last
      → Continues lines macros v (span_tags v.text) (text_from texts_by_definition at xs) pieces more last (after_mark u.final.end.place) before)
  unit_emits at u more last before since fits h =
      let prefix = u.text.characters in
      let end = u.text.end in
      let pieces = snippets_with lines 0 end.place u.nexts (cut_part u.final Closes ∷ more) in
      let rest = whole pieces last in
      let xs = prefix ++ end ∷ rest in
      let part = InText (texts_by_definition at xs) in
      let events = concat_of (events_through part prefix) in
      let after = events_onto events before in
      let v = score_unit u (whole more last) in
      let text_is : v.text ≡ codes_of xs = ap codes_of (sym (unit_whole lines u more last)) in
      let e = text_ended ends emits lines at prefix end rest Opens h.0 in
      let bracket = text_mark ends lines at prefix end rest Opens h.0 in
      let back : IsBack (codes_of xs) (codes_of xs) = ([], refl) in
      let o = text_opens (codes_of xs) lines prefix end rest events back bracket e.0 before since in
      let is = text_opens_is (codes_of xs) lines prefix end rest events back bracket e.0 before since in
      let some = some_snippet u.nexts u.final in
      let r = notes_give v end (codes_of xs) [] u.nexts u.final more last 0 end.place after o.0 (text_is ∙ sym is.0)
      (ap (map (λ (s : ReadSnippet). s.characters)) is.2) (ap (bracket_with codes_in) is.2 ∙ ap (λ c. c ∷ []) (sym bracket)) refl refl some.0 some.1 some.2
      (fits_back (end ∷ []) rest (fits_back prefix (end ∷ rest) fits)) h.1 in
      let eu_is : is_eu after ≡ eu_after (is_eu before) (span_tags v.text) =
      text_spans (codes "<eu>") (codes "</eu>") at prefix end rest Opens before since h.0 ∙ ap (λ t. eu_after (is_eu before) (span_tags t)) (sym text_is) in
      let nlba_is : is_nlba after ≡ nlba_after (is_nlba before) (span_tags v.text) =
      text_spans (codes "<nlba>") (codes "</nlba>") at prefix end rest Opens before since h.0 ∙ ap (λ t. nlba_after (is_nlba before) (span_tags t)) (sym text_is) in
      record {
        mid = r.mid;
        step = record {
          made = r.step.made;
          made_is = r.step.made_is ∙ ap (λ (ms : List UnplacedSyllable). ms ++ r.step.made ∷ []) o.1;
          holds = r.step.holds;
          made_eu = r.step.made_eu ∙ eu_is;
          made_nlba = r.step.made_nlba ∙ nlba_is;
          eu = r.step.eu ∙ eu_is;
          nlba = r.step.nlba ∙ nlba_is;
          uncut = r.step.uncut ∙ opened_uncut (codes_of xs) events e.0 before;
          since = r.step.since;
        };
        events_are = through_more (events_through part prefix) (events_of_cutting texts_by_definition lines macros (snippet_from lines macros 0 end.place rest) pieces last) before ∙ r.events_are;
        cuts = r.cuts;
      }

  pub units_give : (units : List BodyUnit) (last : LastUnit) (at : Place) (before : List BodyEvent) → since_close before ≡ []
      → (let pieces = units_pieces lines units last in let xs = whole pieces (last_characters last) in size (codes_of xs) < 2 ^ 63
      → Cuts texts_by_definition lines macros (text_from texts_by_definition at xs) pieces (last_characters last)
      → GoesOn lines macros (closed_units units last) (text_from texts_by_definition at xs) pieces last before)
  units_give [] last at before since fits h = grind (arith, append-nil)
  units_give (u ∷ units) last at before since fits h =
      let more = units_pieces lines units last in
      let ends_with = last_characters last in
      let one = unit_emits at u more ends_with before since fits h in
      let g = one.step in
      let v = score_unit u (characters_from units last) in
      let same : score_unit u (whole more ends_with) ≡ v = ap (score_unit u) (units_whole lines units last) in
      let holds : HoldsUnit lines v g.made = subst (λ w. HoldsUnit lines w g.made) same g.holds in
      let tags : span_tags (score_unit u (whole more ends_with)).text ≡ span_tags v.text = ap (λ (w : ScoreUnit). span_tags w.text) same in
      let eu_is : is_eu one.mid ≡ eu_after (is_eu before) (span_tags v.text) = g.eu ∙ ap (eu_after (is_eu before)) tags in
      let nlba_is : is_nlba one.mid ≡ nlba_after (is_nlba before) (span_tags v.text) = g.nlba ∙ ap (nlba_after (is_nlba before)) tags in
      let after_fits : size (codes_of (whole more ends_with)) < 2 ^ 63 =
      fits_back (characters_in u) (whole more ends_with) (subst (λ cs. size (codes_of cs) < 2 ^ 63) (unit_whole lines u more ends_with) fits) in
      let r = units_give units last (after_mark u.final.end.place) one.mid g.since after_fits one.cuts in
      record {
        at = r.at;
        mid = r.mid;
        step = record {
          made = g.made ∷ r.step.made;
          made_is = r.step.made_is ∙ ap (λ (ms : List UnplacedSyllable). ms ++ r.step.made) g.made_is ∙ append_assoc (all_syllables before) (g.made ∷ []) r.step.made;
          are = (
            (holds, (g.made_eu ∙ ap (eu_after (is_eu before)) tags, g.made_nlba ∙ ap (nlba_after (is_nlba before)) tags)),
            subst (λ b. AreMade lines (eu_after (is_eu before) (span_tags v.text)) b (closed_units units last) r.step.made) nlba_is
                (subst (λ b. AreMade lines b (is_nlba one.mid) (closed_units units last) r.step.made) eu_is r.step.are),
          );
          eu = r.step.eu ∙ ap (λ b. eu_after b (tags_in (closed_units units last))) eu_is
              ∙ sym (after_append (codes "<eu>") (codes "</eu>") (is_eu before) (span_tags v.text) (tags_in (closed_units units last)));
          nlba = r.step.nlba ∙ ap (λ b. nlba_after b (tags_in (closed_units units last))) nlba_is
              ∙ sym (after_append (codes "<nlba>") (codes "</nlba>") (is_nlba before) (span_tags v.text) (tags_in (closed_units units last)));
          uncut = r.step.uncut ∙ g.uncut;
          since = r.step.since;
        };
        events_are = one.events_are ∙ r.events_are;
        cuts = r.cuts;
      }
