-- The end of a body in each of its parts.
use Rattle.std.proofs.Common.{◌≡◌, ℕ, ◌&&◌, ◌==◌, nat_lt, Bool, true, false, cond, List, [], ◌∷◌, ◌++◌, reverse, encode_utf8_all, Option, Some, None, refl, sym, ap, subst, ◌∙◌, append-nil}
use Rattle.std.proofs.lemmas.List.{map-append}
use Rattle.gabc_places.specs.declared.code.Finding.{Finding}
use Rattle.gabc_places.specs.declared.limits.Limits.{Limits}
use Rattle.gabc_places.specs.declared.place.Place.{Place}
use Rattle.gabc_text.specs.BuiltText.{kept_in}
use Rattle.gabc_text.specs.KeptText.{view_of_kept}
use Rattle.gabc_text.specs.TextView.{ViewContent}
use Rattle.gabc_text.specs.Token.{tokens}
use Rattle.gabc_text.specs.View.{codes_at_end, is_cut}
use Rattle.gabc_text.specs.declared.text_event.TextEnd.{TextEnd}
use Rattle.gabc_text.specs.declared.text_event.TextEnd.TheVariants as ending
use Rattle.gabc_text.specs.declared.text_event.TextEvent.{TextEvent}
use Rattle.gabc_text.specs.declared.text_event.TextEvent.TheVariants as out
use Rattle.gabc_notes.specs.KeptNotes.{in_raw}
use Rattle.gabc_notes.specs.witness.NotesByKept as notes
use Rattle.gabc_nabc.specs.witness.NabcByKept as nabc
use Rattle.gabc_body.specs.declared.events.BodyEvent.{BodyEvent}
use Rattle.gabc_body.specs.declared.events.BodyEvent.TheVariants.{Text}
use Rattle.gabc_body.specs.Body.{events_onto, fault_of_end, findings_of, cut_of, result_by_fault}
use Rattle.gabc_body.specs.Events.{events_at_end, first_list}
use Rattle.gabc_body.specs.Reading.{Part, Reading, BodyRead, no_place, at_start, kept_bytes, found_at, open_by, result_by_open}
use Rattle.gabc_body.specs.witness.BodyBuilder.{with_all}
use Rattle.gabc_body.specs.witness.Gatherer.{Gathered}
use Rattle.gabc_body.specs.witness.TextEvents.{text_events}
use Rattle.gabc_body.specs.witness.SyllableBuilder.{OpenSyllable}
use Rattle.gabc_body.specs.witness.PartsByKept.{SnippetState, PartRead, InComment, InText, InNotes, ahead, lists_of}
use Rattle.gabc_body.specs.witness.TextsByKept.{view_past, SaysEnd, EndsBy}
use Rattle.gabc_body.proofs.gathering.BuilderHoldsDefinition.{gathered}
use Rattle.gabc_body.proofs.gathering.EventsOfOnePoint.{with_all_append}
use Rattle.gabc_body.proofs.by_kept.ResultsAgreeAtEnd.{LastText, end_cut, end_whole}
use Rattle.gabc_body.proofs.by_kept.ReadingAgreesWithEvents.{Stands, state_of}
use Rattle.gabc_body.proofs.by_kept.SnippetsAreGathered.{of_notes}
use Rattle.gabc_body.proofs.by_kept.TextsAreGathered.{SpansStand, Grows, text_grows, texts_found}
use Rattle.gabc_body.proofs.by_kept.TextsAreGathered as texts
use Rattle.gabc_body.proofs.order.FindingsOfParts.{found, found_append}

module _ (limits : Limits) (head lines macros : ℕ) (fs : List Finding) (p : Place) (before : List BodyEvent) where
  abbrev g : Gathered
  g = gathered 0 0 before

  -- what the end says, where these are the events of it
  abbrev pub EndIs : BodyRead → List BodyEvent → Type 0
  EndIs b last = result_by_fault fs p before (events_onto last before) (fault_of_end limits head p (events_onto last before) (cut_of (events_onto last before))) ≡ result_by_open limits head fs p b (open_by b.reading.part b.reading)

  -- ---- nothing is read

  comment_end : (b : BodyRead) → Stands InComment p [] b g (findings_of before) → EndIs b (Text (out.Ended ending.Finished) ∷ [])
  comment_end b s =
      subst (λ (r : Reading). EndIs (record b { reading = r }) (Text (out.Ended ending.Finished) ∷ [])) (sym s.reads.reading_is)
      (end_whole limits head fs p before (Text (out.Ended ending.Finished) ∷ []) (record b { reading = at_start true }) s.made_is s.found_is s.uncut refl
      (record {
        made_is = s.made_is;
        kept_is = ap (λ (o : OpenSyllable). o.kept) s.reads.nothing;
        view_is = ap (λ (o : OpenSyllable). o.view) s.reads.nothing;
        eu_is = s.reads.eu_is;
        nlba_is = s.reads.nlba_is;
      })
      refl)

  -- ---- a text

  module _ (b : BodyRead) (lists : List (List TextEvent)) (s : Stands (InText lists) p [] b g (findings_of before)) where
    abbrev r : Reading
    r = b.reading

    abbrev now : List TextEvent
    now = first_list lists

    module _ (finds : List Finding) (how : TextEnd) (e : SaysEnd r.kept finds how g.builder.view now) where
      grown : Grows b.eu b.nlba r.kept (kept_in e.front) (view_past g.builder.view e.front) g (with_all g (text_events e.front))
      grown = text_grows b.eu b.nlba e.front r.kept g e.says.goes_on e.says.stand s.reads.within

      split : text_events now ≡ text_events e.front ++ Text (out.Ended how) ∷ []
      split = ap text_events e.ends ∙ map-append (λ (o : TextEvent). Text o) e.front (out.Ended how ∷ [])

      all_is : with_all g (text_events now) ≡ with_all (with_all g (text_events e.front)) (Text (out.Ended how) ∷ [])
      all_is = ap (with_all g) split ∙ with_all_append g (text_events e.front) (Text (out.Ended how) ∷ [])

      found_is : found (text_events now) ≡ finds
      found_is = ap found split ∙ found_append (text_events e.front) (Text (out.Ended how) ∷ []) ∙ append-nil (found (text_events e.front)) ∙ texts_found e.front ∙ e.says.finds

      within : texts.InText b.eu b.nlba r.kept (with_all g (text_events e.front))
      within = subst (λ (u : List ℕ). texts.InText b.eu b.nlba u (with_all g (text_events e.front))) (ap (λ (m : List ℕ). r.kept ++ m) e.says.keeps ∙ append-nil r.kept) grown.within

      kept_is : (with_all g (text_events e.front)).builder.kept ≡ kept_bytes r
      kept_is = within.kept_is ∙ ap (λ (u : List ℕ). encode_utf8_all (u ++ r.kept)) (sym s.reads.before_is)

      spans : SpansStand b.eu b.nlba (kept_bytes r) (view_of_kept r.kept).pieces (with_all g (text_events e.front))
      spans = subst (λ (u : List ℕ). SpansStand b.eu b.nlba u (view_of_kept r.kept).pieces (with_all g (text_events e.front))) kept_is
          (subst (λ (v : ViewContent). SpansStand b.eu b.nlba (with_all g (text_events e.front)).builder.kept v.pieces (with_all g (text_events e.front))) (grown.view_is ∙ e.view_is) within.spans)

      last_text : LastText b (with_all g (text_events e.front))
      last_text = record { made_is = grown.made ∙ s.made_is; kept_is = kept_is; view_is = grown.view_is ∙ e.view_is; eu_is = spans.eu_is; nlba_is = spans.nlba_is }

    opened : (o : Bool) → is_cut (reverse (tokens r.kept)) ≡ o → open_by r.part r ≡ cond o (Some r.inner) None
    opened o e = ap (λ (q : Part). open_by q r) s.reads.part_is ∙ ap (λ (c : Bool). cond c (Some r.inner) None) e

    text_end : EndIs b (text_events now)
    text_end = by (is_cut (reverse (tokens r.kept))) refl s.reads.goes
      where
        by : (o : Bool) → is_cut (reverse (tokens r.kept)) ≡ o → EndsBy o p r.kept r.inner g.builder.view now → EndIs b (text_events now)
        by true c e = end_cut limits head fs p before (text_events now) b s.made_is s.found_is r.inner (ap (λ (i : Gathered). i.cut) (all_is [] (ending.Cut r.inner) e)) (opened true c)
        by false c e =
            let finds = found_at (codes_at_end (reverse (tokens r.kept))) p in
            let l = last_text finds ending.Finished e in
            end_whole limits head fs p before (text_events now) b s.made_is s.found_is
            (ap (λ (i : Gathered). i.cut) (all_is finds ending.Finished e) ∙ (grown finds ending.Finished e).cut ∙ s.uncut) (opened false c)
            (subst (LastText b) (sym (all_is finds ending.Finished e)) l)
            (found_is finds ending.Finished e)

  -- ---- a snippet

  inner_cut : (inner paren : Place) (z raw : Bool) → ((z && raw) ≡ true → (inner.line == 0) ≡ false)
      → let q : Place = cond z (cond raw inner no_place) no_place in
      cond (q.line == 0) paren q ≡ cond (z && raw) inner paren
  inner_cut inner paren true true h = ap (λ (o : Bool). cond o paren inner) (h refl)
  inner_cut inner paren true false h = refl
  inner_cut inner paren false raw h = refl

  snippet_cut : (line : ℕ) (paren : Place) (st : SnippetState) → (((line == 0) && in_raw st.kept) ≡ true → (st.inner.line == 0) ≡ false)
      → (with_all g (of_notes line paren (first_list (lists_of lines macros line st [])))).cut ≡ Some (cond ((line == 0) && in_raw st.kept) st.inner paren)
  snippet_cut line paren st h = by (line == 0) h
    where
      by : (z : Bool) → ((z && in_raw st.kept) ≡ true → (st.inner.line == 0) ≡ false)
          → (with_all g (of_notes line paren (first_list (cond z (notes.events_past (nat_lt 0 lines) macros st.kept st.inner st.comment []) (nabc.events_past st.kept st.comment []))))).cut ≡ Some (cond (z && in_raw st.kept) st.inner paren)
      by true k = ap (λ (q : Place). let o : Option Place = Some q in o) (inner_cut st.inner paren true (in_raw st.kept) k)
      by false k = refl

  snippet_end : (b : BodyRead) (line : ℕ) (paren : Place) (st : SnippetState) → Stands (InNotes line paren st) p [] b g (findings_of before) → EndIs b (of_notes line paren (first_list (lists_of lines macros line st [])))
  snippet_end b line paren st s =
      end_cut limits head fs p before (of_notes line paren (first_list (lists_of lines macros line st []))) b s.made_is s.found_is
      (cond ((line == 0) && in_raw b.reading.kept) b.reading.inner b.reading.paren)
      (subst (λ (q : Place). (with_all g (of_notes line q (first_list (lists_of lines macros line st [])))).cut ≡ Some (cond ((line == 0) && in_raw b.reading.kept) b.reading.inner b.reading.paren)) (sym s.reads.paren_is)
      (subst (λ (u : SnippetState). (with_all g (of_notes line b.reading.paren (first_list (lists_of lines macros line u [])))).cut ≡ Some (cond ((line == 0) && in_raw b.reading.kept) b.reading.inner b.reading.paren)) (sym s.reads.state_is)
      (snippet_cut line b.reading.paren (state_of b.reading) s.reads.inner_line)))
      (ap (λ (q : Part). open_by q b.reading) s.reads.part_is)

  pub part_end : (part : PartRead) (b : BodyRead) → Stands part p [] b g (findings_of before) → EndIs b (events_at_end (ahead lines macros part []))
  part_end InComment b s = comment_end b s
  part_end (InText lists) b s = text_end b lists s
  part_end (InNotes line paren st) b s = snippet_end b line paren st s
