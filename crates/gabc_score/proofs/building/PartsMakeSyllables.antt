-- What a part of a body makes with its events: a syllable that holds a unit, if a snippet closes,
-- and else none.
use Rattle.std.proofs.Common.{◌≡◌, ℕ, ◌+◌, ◌-◌, ◌^◌, min, Bool, true, false, List, [], ◌∷◌, ◌++◌, length, nat_lt, codes, refl, sym, ap, subst, ◌∙◌, arith, append_assoc}
use Rattle.std.proofs.lemmas.Bool.{true≢false}
use Rattle.std.proofs.lemmas.List.Elements.{All-push}
use Rattle.std.specs.List.{list_any}
use Rattle.gabc_places.specs.declared.place.Char.{Char}
use Rattle.gabc_places.specs.declared.place.Place.{Place}
use Rattle.gabc_text.specs.TextRead.{view_in}
use Rattle.gabc_text.specs.TextView.{ViewContent}
use Rattle.gabc_text.specs.declared.text_event.TextEnd.TheVariants as text_end
use Rattle.gabc_text.specs.declared.text_event.TextEvent.{TextEvent}
use Rattle.gabc_text.specs.declared.text_event.TextEvent.TheVariants as text_out
use Rattle.gabc_text.specs.declared.text_event.TextPart.TheVariants as text_part
use Rattle.gabc_text.specs.TextStage.{fresh_stage}
use Rattle.gabc_text.proofs.resuming.StagesKeep.{fresh_keeps}
use Rattle.gabc_text.specs.witness.Keeps as text
use Rattle.gabc_text.specs.witness.SaidInFull.{IsSaidInFull}
use Rattle.gabc_notes.specs.declared.stage.NoteEnd.TheVariants as note_end
use Rattle.gabc_notes.specs.declared.stage.NoteEvent.{NoteEvent}
use Rattle.gabc_notes.specs.declared.stage.NoteEvent.TheVariants as note
use Rattle.gabc_score.specs.declared.preceding.Preceding.{Preceding}
use Rattle.gabc_body.specs.declared.before.Spans.{Spans}
use Rattle.gabc_score.specs.declared.body_stage.BodyPart.{BodyPart}
use Rattle.gabc_score.specs.declared.body_stage.BodyPart.TheVariants as part
use Rattle.gabc_body.specs.declared.events.BodyEvent.{BodyEvent}
use Rattle.gabc_body.specs.declared.events.BodyEvent.TheVariants as event
use Rattle.gabc_score.specs.Before.{with_one, with_each}
use Rattle.gabc_body.specs.Events.{is_close, is_next}
use Rattle.gabc_body.specs.SpansPast.{open_past, FollowsSpans}
use Rattle.gabc_body.specs.Syllable.{UnplacedSyllable, closes}
use Rattle.gabc_text.specs.ViewFacts.{span_tags}
use Rattle.gabc_body.specs.UnitRead.{HoldsSomeUnit}
use Rattle.gabc_body.specs.witness.BodyBuilder.{with_all}
use Rattle.gabc_body.specs.witness.Gatherer.{Gathered, with_event}
use Rattle.gabc_score.specs.machine.PartKeeps.{KeptParts, barred, joined, line_after, snippet_events, earlier_events, events_before, said_by, AreEnded, begun, IsReading}
use Rattle.gabc_body.specs.witness.TextEvents.{text_events}
use Rattle.gabc_score.specs.machine.PartMakes.{FollowEach, AreHeld, HoldUnits, PartMakes}
use Rattle.gabc_score.specs.machine.PartSteps.{SnippetSteps}
use Rattle.gabc_body.specs.witness.SyllableBuilder.{OpenSyllable, made_from, past_snippet}
use Rattle.gabc_body.proofs.gathering.EventsOfOnePoint.{with_all_append}
use Rattle.gabc_score.proofs.building.PartsMakeUnits.{HasRead, with_more, text_read, earlier_read, close_holds, close_opens}
use Rattle.gabc_score.proofs.building.SnippetsTakeCharacters.{Ending, InSnippet, close_ends, ending_close, ending_next, next_alone}
use Rattle.gabc_score.proofs.building.PartsOfKeptText.{of_notes, notes_ended, snippet_is}
use Rattle.gabc_score.proofs.building.SpansOfParts.{eu_open, nlba_open}
use Rattle.gabc_body.proofs.syllables_of_units.LastTagOpensTheSpan.{after_tags}
use Rattle.gabc_body.proofs.texts_of_body.SeamsOfCharacters.{size, size_append}

-- ---- no syllable is made

-- the syllables that are whole, their canonical bytes, and whether one of them is too long
abbrev pub whole_in : Gathered → List UnplacedSyllable × (ℕ × Bool)
whole_in g = (g.made, (g.total, g.over))

pub whole_stays : (now : List BodyEvent) (g : Gathered) → list_any closes now ≡ false → whole_in (with_all g now) ≡ whole_in g
whole_stays [] g e = refl
whole_stays (event.Text (text_out.Part text_part.WordStart) ∷ now) g e = whole_stays now (with_event g (event.Text (text_out.Part text_part.WordStart))) e
whole_stays (event.Text (text_out.Ended text_end.Notes) ∷ now) g e = whole_stays now (with_event g (event.Text (text_out.Ended text_end.Notes))) e
whole_stays (event.Notes line (note.Ended note_end.Close n) ∷ now) g e = absurd (true≢false e)
whole_stays (t ∷ now) g e = whole_stays now (with_event g t) e

pub made_stays : (now : List BodyEvent) (g : Gathered) → list_any closes now ≡ false → (with_all g now).made ≡ g.made
made_stays now g e = ap (λ w. w.0) (whole_stays now g e)

none_makes : (lines macros : ℕ) (before : BodyPart) (now : List BodyEvent) → list_any closes now ≡ false → PartMakes lines macros before now
unfolding PartMakes
none_makes lines macros before now e p g fits r h = subst (HoldUnits lines p) (sym (made_stays now g e)) h

pub texts_close_none : (es : List TextEvent) → list_any closes (text_events es) ≡ false
texts_close_none [] = refl
texts_close_none (o ∷ es) = texts_close_none es

notes_close_alike : (line : ℕ) (opened : Place) (es : List NoteEvent) → list_any closes (of_notes line opened es) ≡ list_any is_close es
notes_close_alike line opened [] = refl
notes_close_alike line opened (note.Ended note_end.Close n ∷ es) = refl
notes_close_alike line opened (_ ∷ es) = notes_close_alike line opened es

pub text_makes : (lines macros : ℕ) (before : BodyPart) (es : List TextEvent) → PartMakes lines macros before (text_events es)
text_makes lines macros before es = none_makes lines macros before (text_events es) (texts_close_none es)

pub notes_make_none : (lines macros line : ℕ) (opened : Place) (before : BodyPart) (es : List NoteEvent) → list_any is_close es ≡ false → PartMakes lines macros before (of_notes line opened es)
notes_make_none lines macros line opened before es e = none_makes lines macros before (of_notes line opened es) (notes_close_alike line opened es ∙ e)

-- before the text that begins after the comment in front nothing was gathered
pub reading_begins : {lines macros : ℕ} {spans : Spans} {g : Gathered} (at : Place) → IsReading lines macros part.Comment spans g → IsReading lines macros (part.Text (fresh_stage at)) spans g
reading_begins at r = grind (arith, fresh_keeps)

-- ---- a syllable is made

-- after the others one more follows
follow_push : (p : Preceding) (ms : List UnplacedSyllable) (m : UnplacedSyllable) → FollowEach p ms → FollowsSpans (with_each p ms).spans m → FollowEach p (ms ++ m ∷ [])
unfolding FollowEach
follow_push p [] m h k = (k, tt)
follow_push p (s ∷ ms) m h k = (h.0, follow_push (with_one p s) ms m h.1 k)

-- snippets end at a `|` only if there are NABC lines
none_ended : (lines macros : ℕ) (ss : List (List ℕ)) → AreEnded lines macros 0 ss → lines ≡ 0 → length ss ≡ 0
none_ended lines macros [] h e = refl
none_ended lines macros (s ∷ ss) h e = absurd (true≢false (sym h.0.0 ∙ ap (nat_lt 0) e))

module _ (lines macros : ℕ) {x : Char} {line : ℕ} {opened : Place} {before same : BodyPart} {es : List NoteEvent} (steps : SnippetSteps x line opened before es same) where
  -- what ends at a `|` does not close
  pub next_makes : list_any is_next es ≡ true → PartMakes lines macros before (of_notes line opened es)
  unfolding PartMakes
  next_makes next p g fits r =
      let e = ending_next lines macros steps r.parts r.keeps next in
      notes_make_none lines macros line opened before es (next_alone es x.c _ e.end next) p g fits r

  pub close_makes : list_any is_close es ≡ true → PartMakes lines macros before (of_notes line opened es)
  unfolding PartMakes HoldUnits
  close_makes close p g fits r h laws =
      subst (λ (i : Gathered). AreHeld lines p i.made) (sym (notes_ended line opened es g note_end.Close n closed.none_kept (close_ends es x.c n closed.end close))) (record {
        units = All-push (HoldsSomeUnit lines) g.made made (h laws).units
            (subst (λ (o : OpenSyllable). HoldsSomeUnit lines (made_from (past_snippet o line n 41) g.eu g.nlba)) (sym builder_is)
            (close_holds laws lines t view line (length here.earlier) base.builder has_read closed.s closed.rest closed.whole n count_is full refl (none_ended lines macros here.earlier here.after.snippets_ended) g.eu g.nlba));
        follow = follow_push p g.made made (h laws).follow (record {
          eu = r.said.eu ∙ ap (λ (k : KeptParts). (with_all (begun spans) (said_by lines k)).eu) here.is ∙ eu_open lines t here.earlier here.k spans full ∙ sym (opens (codes "<eu>") (codes "</eu>") spans.eu);
          nlba = r.said.nlba ∙ ap (λ (k : KeptParts). (with_all (begun spans) (said_by lines k)).nlba) here.is ∙ nlba_open lines t here.earlier here.k spans full ∙ sym (opens (codes "<nlba>") (codes "</nlba>") spans.nlba);
        });
      })
    where
      spans : Spans
      spans = (with_each p g.made).spans

      closed : Ending lines macros line x es r.parts
      closed = ending_close lines macros steps r.parts r.keeps close

      here : InSnippet lines macros line r.parts
      here = closed.here

      t : List ℕ
      t = here.t

      n : ℕ
      n = min (size closed.s) (2 ^ 64 - 1)

      view : ViewContent
      view = view_in (t ++ 40 ∷ [])

      made : UnplacedSyllable
      made = made_from (past_snippet g.builder line n 41) g.eu g.nlba

      first : Gathered
      first = with_all (begun spans) (text_events (text.said_of t ++ text.said_at_end t))

      base : Gathered
      base = with_all first (earlier_events lines 0 here.earlier)

      -- the bytes
      all_size : length g.builder.kept ≡ size (t ++ 40 ∷ []) + size (barred here.earlier) + size here.k
      all_size =
          ap length r.kept ∙ ap (λ (p : KeptParts). size (joined p)) here.is
          ∙ size_append (t ++ 40 ∷ barred here.earlier) here.k
          ∙ ap (λ (m : ℕ). m + size here.k) (ap size (sym (append_assoc t (40 ∷ []) (barred here.earlier))) ∙ size_append (t ++ 40 ∷ []) (barred here.earlier))

      count_is : n ≡ size closed.s
      count_is =
          let part_size : size here.k ≡ size closed.s + size closed.rest = ap size closed.cut ∙ size_append closed.s closed.rest in
          omega (arith, fits, all_size, part_size)

      full : IsSaidInFull t []
      full = laws.said t here.after.text_ended (omega (arith, fits, all_size))

      has_read : HasRead laws lines t (view_in (t ++ 40 ∷ [])) line (length here.earlier) base.builder
      has_read =
          subst (λ (l : ℕ). HasRead laws lines t (view_in (t ++ 40 ∷ [])) l (length here.earlier) base.builder) here.after.line_is
          (subst (λ (m : ℕ). HasRead laws lines t (view_in (t ++ 40 ∷ [])) (line_after lines 0 here.earlier) m base.builder) (let same : 0 + length here.earlier ≡ length here.earlier = omega arith in same)
          (earlier_read laws lines t (view_in (t ++ 40 ∷ [])) macros 0 0 first here.earlier (text_read laws lines t full (begun spans) refl) here.after.snippets_ended))

      -- what was gathered is what the parts say
      builder_is : g.builder ≡ with_more base.builder (closed.s ++ closed.rest)
      builder_is =
          r.said.builder
          ∙ ap (λ (p : KeptParts). (with_all (begun spans) (said_by lines p)).builder) here.is
          ∙ ap (λ (i : Gathered). i.builder) (with_all_append (begun spans) (events_before lines t here.earlier) (snippet_events (line_after lines 0 here.earlier) here.k))
          ∙ ap (λ (i : Gathered). i.builder) (snippet_is (line_after lines 0 here.earlier) here.k (with_all (begun spans) (events_before lines t here.earlier)))
          ∙ ap (λ (i : Gathered). with_more i.builder here.k) (with_all_append (begun spans) (text_events (text.said_of t ++ text.said_at_end t)) (earlier_events lines 0 here.earlier))
          ∙ ap (with_more base.builder) closed.cut

      -- a span is open after what is made as after the tags of its text
      opens : (opening closing : List ℕ) (was : Bool) → open_past opening closing made.kept made.text.pieces was ≡ after_tags opening closing was (span_tags (t ++ 40 ∷ []))
      opens opening closing was =
          subst (λ (o : OpenSyllable). open_past opening closing (past_snippet o line n 41).kept (past_snippet o line n 41).view.pieces was ≡ after_tags opening closing was (span_tags (t ++ 40 ∷ []))) (sym builder_is)
          (close_opens laws lines t view line (length here.earlier) base.builder has_read closed.s closed.rest n count_is full refl opening closing was)
