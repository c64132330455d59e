-- What was gathered stays what the parts of the kept text say, with the events of each part.
use Rattle.std.proofs.lemmas.Bool.{and_parts, true≢false}
use Rattle.std.proofs.Common.{◌≡◌, ℕ, nat_lt, Bool, true, false, cond, not, ◌==◌, List, [], ◌∷◌, ◌++◌, map, length, encode_utf8, encode_utf8_all, refl, sym, ap, subst, ◌∙◌, append-nil, append_assoc, arith}
use Rattle.std.proofs.lemmas.List.{map-append}
use Rattle.std.proofs.lemmas.List.Folds.{list_any-append}
use Rattle.std.proofs.lemmas.Str.{encodes-append}
use Rattle.std.specs.List.{list_any}
use Rattle.gabc_places.proofs.NumbersByTests.{same_ltb}
use Rattle.gabc_places.specs.declared.place.Place.{Place}
use Rattle.gabc_text.specs.BuiltText.{kept_in}
use Rattle.gabc_text.specs.StageReports.{is_in_comment}
use Rattle.gabc_text.specs.witness.Keeps as text
use Rattle.gabc_text.specs.declared.stage.TextStage.{TextStage}
use Rattle.gabc_text.specs.declared.text_event.TextEnd.TheVariants as text_end
use Rattle.gabc_text.specs.declared.text_event.TextEvent.{TextEvent}
use Rattle.gabc_text.specs.declared.text_event.TextEvent.TheVariants as text_out
use Rattle.gabc_text.specs.declared.text_event.TextPart.{TextPart}
use Rattle.gabc_text.specs.declared.text_event.TextPart.TheVariants as text_part
use Rattle.gabc_notes.specs.SnippetRead.{kept_of, ends_of}
use Rattle.gabc_notes.specs.declared.stage.NoteEnd.{NoteEnd}
use Rattle.gabc_notes.specs.declared.stage.NoteEnd.TheVariants as note_end
use Rattle.gabc_notes.specs.declared.stage.NoteEvent.{NoteEvent}
use Rattle.gabc_notes.specs.declared.stage.NoteEvent.TheVariants as note
use Rattle.gabc_body.specs.declared.before.Spans.{Spans}
use Rattle.gabc_score.specs.declared.body_stage.BodyPart.{BodyPart}
use Rattle.gabc_score.specs.declared.body_stage.BodyPart.TheVariants as part
use Rattle.gabc_body.specs.declared.events.BodyEvent.{BodyEvent}
use Rattle.gabc_body.specs.declared.events.BodyEvent.TheVariants as event
use Rattle.gabc_body.specs.Events.{is_text_end, note_event}
use Rattle.gabc_body.specs.Syllable.{UnplacedSyllable}
use Rattle.gabc_body.specs.witness.BodyBuilder.{with_all}
use Rattle.gabc_body.specs.witness.Gatherer.{Gathered, with_event}
use Rattle.gabc_score.specs.machine.PartKeeps.{KeptParts, in_text, in_notes, text_before, joined, snippet_events, said_by, AreAfter, PartKeeps, begun, ReadAlike, IsReading, spans_past, PartKeepsOn}
use Rattle.gabc_body.specs.witness.TextEvents.{kept_char, text_events}
use Rattle.gabc_body.proofs.gathering.EventsOfOnePoint.{with_all_append}
use Rattle.gabc_body.proofs.texts_of_body.SeamsOfCharacters.{size}
use Rattle.gabc_body.proofs.syllables_of_units.LastTagOpensTheSpan.{out_parts}

-- ---- the same was gathered of the syllable that is read

pub event_alike : (g h : Gathered) (e : BodyEvent) → ReadAlike g h → ReadAlike (with_event g e) (with_event h e)
event_alike g h (event.Text (text_out.Part (text_part.Piece p))) r = record { builder = rw r.builder refl; eu = rw (r.builder, r.eu) refl; nlba = rw (r.builder, r.nlba) refl }
event_alike g h (event.Text (text_out.Ended text_end.Notes)) r = record { builder = rw r.builder refl; eu = r.eu; nlba = r.nlba }
event_alike g h (event.Notes line (note.Ended note_end.Close n)) r = record { builder = refl; eu = r.eu; nlba = r.nlba }
event_alike g h _ r = record { builder = rw r.builder refl; eu = r.eu; nlba = r.nlba }

pub all_alike : (es : List BodyEvent) (g h : Gathered) → ReadAlike g h → ReadAlike (with_all g es) (with_all h es)
all_alike [] g h r = r
all_alike (e ∷ es) g h r = all_alike es (with_event g e) (with_event h e) (event_alike g h e r)

-- ---- texts

-- findings and places are not gathered
pub said_gathered : (g : Gathered) (es : List TextEvent) → with_all g (text_events es) ≡ with_all g (text_events (text.said es))
said_gathered g [] = refl
said_gathered g (text_out.Found f ∷ es) = said_gathered g es
said_gathered g (e ∷ es) = said_gathered (with_event g (event.Text e)) es

-- the bytes that are kept, from where the part begins, and the syllables that were made
pub record Grows (g h : Gathered) (more : List ℕ) : Type 0 where
  pub kept : h.builder.kept ≡ g.builder.kept ++ encode_utf8_all more
  pub from : h.builder.from ≡ g.builder.from
  pub made : h.made ≡ g.made
  pub cut : h.cut ≡ g.cut

unchanged : (g h : Gathered) → h.builder.kept ≡ g.builder.kept → h.builder.from ≡ g.builder.from → h.made ≡ g.made → h.cut ≡ g.cut → Grows g h []
unchanged g h k f m c = record { kept = k ∙ sym (append-nil g.builder.kept); from = f; made = m; cut = c }

grows_through : (g h i : Gathered) (a b : List ℕ) → Grows g h a → Grows h i b → Grows g i (a ++ b)
grows_through g h i a b r s = grind (arith, append_assoc, encodes-append)

kept_grows : (g : Gathered) (c : ℕ) → Grows g (record g { builder = record g.builder { kept = g.builder.kept ++ encode_utf8 c } }) (c ∷ [])
kept_grows g c = record { kept = ap (λ t. g.builder.kept ++ t) (sym (append-nil (encode_utf8 c))); from = refl; made = refl; cut = refl }

pub text_grows : (es : List TextEvent) (g : Gathered) → text.end_text es ≡ false → Grows g (with_all g (text_events es)) (kept_in es)
text_grows [] g e = unchanged g g refl refl refl refl
text_grows (text_out.Kept c ∷ es) g e =
    grows_through g _ _ (c.c ∷ []) (kept_in es) (kept_grows g c.c) (text_grows es (with_event g (event.Text (text_out.Kept c))) e)
text_grows (text_out.Part p ∷ es) g e = grind (arith, text_grows es (with_event g (event.Text (text_out.Part p))) e, grows_through, unchanged)
text_grows (text_out.Found f ∷ es) g e = text_grows es g e
text_grows (text_out.Ended how ∷ es) g e = absurd (true≢false e)

-- parts keep nothing and end nothing
parts_keep : (ps : List TextPart) → (kept_in (out_parts ps) ≡ []) × (list_any is_text_end (out_parts ps) ≡ false) × (text.end_text (out_parts ps) ≡ false)
parts_keep [] = (refl, refl, refl)
parts_keep (p ∷ ps) = parts_keep ps

-- a text ended
ended_said : (es : List TextEvent) → list_any is_text_end (text.said es) ≡ list_any is_text_end es
ended_said [] = refl
ended_said (text_out.Ended text_end.Notes ∷ es) = refl
ended_said (_ ∷ es) = ended_said es

pub ends_text : (es : List TextEvent) → list_any is_text_end es ≡ true → text.end_text es ≡ true
ends_text [] e = absurd (true≢false (sym e))
ends_text (text_out.Ended how ∷ es) e = refl
ends_text (_ ∷ es) e = ends_text es e

in_notes_ended : (es : List TextEvent) → text.EndsInNotes es → list_any is_text_end es ≡ true
in_notes_ended es h = ap (list_any is_text_end) h.is ∙ list_any-append is_text_end (out_parts h.parts) (text_out.Ended text_end.Notes ∷ []) ∙ rw (parts_keep h.parts).1 refl

-- a text that does not end at its `(` does not end
pub text_goes_on : (s t : TextStage) (c : ℕ) (es : List TextEvent) (k : List ℕ) → text.KeepsOn s c es t → text.Keeps s k → list_any is_text_end es ≡ false → text.end_text es ≡ false
text_goes_on s t c es k on keeps goes_on = grind (arith, in_notes_ended, ended_said)

-- after the end of a text
pub record IsMarked (g h : Gathered) (mark : ℕ) : Type 0 where
  pub kept : h.builder.kept ≡ g.builder.kept ++ encode_utf8 mark
  pub from : h.builder.from ≡ length h.builder.kept
  pub made : h.made ≡ g.made
  pub cut : h.cut ≡ g.cut

pub end_marks : (g : Gathered) (es : List TextEvent) → text.EndsInNotes es → IsMarked g (with_all g (text_events es)) 40
end_marks g es h =
    subst (λ (os : List TextEvent). IsMarked g (with_all g (text_events os)) 40) (sym h.is)
    (subst (λ (os : List BodyEvent). IsMarked g (with_all g os) 40) (sym (map-append (λ (o : TextEvent). event.Text o) (out_parts h.parts) (text_out.Ended text_end.Notes ∷ [])))
    (subst (λ (i : Gathered). IsMarked g i 40) (sym (with_all_append g (text_events (out_parts h.parts)) (event.Text (text_out.Ended text_end.Notes) ∷ [])))
    (record {
      kept = ap (λ (t : List ℕ). t ++ encode_utf8 40) same;
      from = refl;
      made = grown.made;
      cut = grown.cut;
    })))
  where
    grown : Grows g (with_all g (text_events (out_parts h.parts))) (kept_in (out_parts h.parts))
    grown = text_grows (out_parts h.parts) g (parts_keep h.parts).2

    same : (with_all g (text_events (out_parts h.parts))).builder.kept ≡ g.builder.kept
    same = grown.kept ∙ ap (λ (t : List ℕ). g.builder.kept ++ encode_utf8_all t) (parts_keep h.parts).0 ∙ append-nil g.builder.kept

-- ---- notes

module _ (line : ℕ) (opened : Place) where
  abbrev pub of_notes : List NoteEvent → List BodyEvent
  of_notes es = map (note_event line opened) es

  -- a snippet that goes on
  pub notes_said : (es : List NoteEvent) (g : Gathered) → ends_of es ≡ [] → with_all g (of_notes es) ≡ with_all g (snippet_events line (kept_of es))
  notes_said [] g e = refl
  notes_said (note.Kept c ∷ es) g e = notes_said es (with_event g (event.Notes line (note.Kept c))) e
  notes_said (note.Found f ∷ es) g e = notes_said es g e
  notes_said (note.Ended how n ∷ es) g e = absurd (cc)

  -- one that ends
  pub notes_ended : (es : List NoteEvent) (g : Gathered) (how : NoteEnd) (n : ℕ) → kept_of es ≡ [] → ends_of es ≡ (how, n) ∷ [] → with_all g (of_notes es) ≡ with_event g (note_event line opened (note.Ended how n))
  notes_ended [] g how n k e = absurd (cc)
  notes_ended (note.Kept c ∷ es) g how n k e = absurd (cc)
  notes_ended (note.Found f ∷ es) g how n k e = notes_ended es g how n k e
  notes_ended (note.Ended h m ∷ es) g how n k e = grind (arith, notes_said)

pub snippet_grows : (line : ℕ) (k : List ℕ) (g : Gathered) → Grows g (with_all g (snippet_events line k)) k
snippet_grows line [] g = unchanged g g refl refl refl refl
snippet_grows line (c ∷ k) g = grows_through g _ _ (c ∷ []) k (kept_grows g c) (snippet_grows line k (with_event g (event.Notes line (note.Kept (kept_char c)))))

-- nothing else changes
pub snippet_is : (line : ℕ) (k : List ℕ) (g : Gathered) → with_all g (snippet_events line k) ≡ record g { builder = record g.builder { kept = g.builder.kept ++ encode_utf8_all k } }
snippet_is line [] g = ap (λ (t : List ℕ). record g { builder = record g.builder { kept = t } }) (sym (append-nil g.builder.kept))
snippet_is line (c ∷ k) g = grind (arith, snippet_is line k (with_event g (event.Notes line (note.Kept (kept_char c)))), append_assoc)

-- ---- the text goes on, or ends

pub stays : (spans : Spans) (g h : Gathered) → h.made ≡ g.made → spans_past spans g h ≡ spans
stays spans g h e = ap (λ (made : List UnplacedSyllable). cond (nat_lt (length g.made) (length made)) (record { eu = h.eu; nlba = h.nlba }) spans) e ∙ ap (λ (b : Bool). cond b (record { eu = h.eu; nlba = h.nlba }) spans) (same_ltb (length g.made))

module _ (lines macros : ℕ) where
  -- if nothing was made, the spans before the syllable stay
  pub read_on : (before after : BodyPart) (spans : Spans) (g h : Gathered) → h.made ≡ g.made → IsReading lines macros after spans h → IsReading lines macros after (spans_past spans g h) h
  read_on before after spans g h e r = subst (λ (s : Spans). IsReading lines macros after s h) (sym (stays spans g h e)) r

  -- a text keeps a text
  pub record InText (stage : TextStage) (p : KeptParts) : Type 0 where
    pub k : List ℕ
    pub is : p ≡ in_text k
    pub keeps : text.Keeps stage k

  pub text_of : (s : TextStage) (p : KeptParts) → PartKeeps lines macros (part.Text s) p → InText s p
  text_of s p h = grind arith

  pub text_keeps_on : (s t : TextStage) (c : ℕ) (es : List TextEvent) → text.KeepsOn s c es t → list_any is_text_end es ≡ false → PartKeepsOn lines macros (part.Text s) (part.Text t) (text_events es)
  text_keeps_on s t c es on goes_on spans g fits r =
      read_on (part.Text s) (part.Text t) spans g (with_all g (text_events es)) grown.made (record {
        parts = in_text (k ++ kept_in es);
        keeps = goes.keeps;
        said = subst (ReadAlike (with_all g (text_events es))) (sym said_more)
            (subst (λ (i : Gathered). ReadAlike i (with_all (with_all (begun spans) (text_events (text.said_of k))) (text_events (text.said es)))) (sym (said_gathered g es))
            (all_alike (text_events (text.said es)) g (with_all (begun spans) (text_events (text.said_of k)))
            (subst (λ (p : KeptParts). ReadAlike g (with_all (begun spans) (said_by lines p))) here.is r.said)));
        kept = grown.kept ∙ ap (λ (b : List ℕ). b ++ encode_utf8_all (kept_in es)) (r.kept ∙ ap (λ (p : KeptParts). encode_utf8_all (joined p)) here.is) ∙ sym (encodes-append k (kept_in es));
        from = grown.from ∙ r.from ∙ ap (λ (p : KeptParts). size (text_before p)) here.is;
        uncut = grown.cut ∙ r.uncut;
      })
    where
      here : InText s r.parts
      here = text_of s r.parts r.keeps

      k : List ℕ
      k = here.k

      none_ends : text.end_text es ≡ false
      none_ends = text_goes_on s t c es k on here.keeps goes_on

      goes : text.GoesOn s k c es t
      goes = on.goes k here.keeps none_ends

      grown : Grows g (with_all g (text_events es)) (kept_in es)
      grown = text_grows es g none_ends

      said_more : with_all (begun spans) (text_events (text.said_of (k ++ kept_in es))) ≡ with_all (with_all (begun spans) (text_events (text.said_of k))) (text_events (text.said es))
      said_more =
          ap (λ (os : List TextEvent). with_all (begun spans) (text_events os)) goes.said
          ∙ ap (with_all (begun spans)) (map-append (λ (o : TextEvent). event.Text o) (text.said_of k) (text.said es))
          ∙ with_all_append (begun spans) (text_events (text.said_of k)) (text_events (text.said es))

  -- the part after it reads the first snippet of GABC
  pub text_ends_on : (s t : TextStage) (c : ℕ) (es : List TextEvent) (after : BodyPart) → text.KeepsOn s c es t → list_any is_text_end es ≡ true
      → ((u : List ℕ) → AreAfter lines macros 0 u [] → PartKeeps lines macros after (in_notes u [] [])) → PartKeepsOn lines macros (part.Text s) after (text_events es)
  text_ends_on s t c es after on over begins spans g fits r =
      read_on (part.Text s) after spans g (with_all g (text_events es)) marked.made (record {
        parts = in_notes k [] [];
        keeps = begins k (record { text_ended = record { stage = s; keeps = here.keeps; ends = ends_there }; snippets_ended = tt; line_is = refl });
        said = subst (ReadAlike (with_all g (text_events es))) (sym said_more)
            (subst (λ (i : Gathered). ReadAlike i (with_all (with_all (begun spans) (text_events (text.said_of k))) (text_events (text.said_at_end k)))) (sym gathered_is)
            (all_alike (text_events (text.said_at_end k)) g (with_all (begun spans) (text_events (text.said_of k)))
            (subst (λ (p : KeptParts). ReadAlike g (with_all (begun spans) (said_by lines p))) here.is r.said)));
        kept = kept_is ∙ ap encode_utf8_all (sym (append-nil (k ++ 40 ∷ [])));
        from = marked.from ∙ ap length kept_is;
        uncut = marked.cut ∙ r.uncut;
      })
    where
      here : InText s r.parts
      here = text_of s r.parts r.keeps

      k : List ℕ
      k = here.k

      ends : text.EndsAfter k es t
      ends = on.ends k here.keeps (ends_text es over)

      ends_there : text.ends_after_it k ≡ true
      ends_there = (and_parts (c == 40) (text.ends_after_it k) (and_parts (not (is_in_comment s)) _ (sym (on.end k here.keeps) ∙ ends_text es over)).1).1

      gathered_is : with_all g (text_events es) ≡ with_all g (text_events (text.said_at_end k))
      gathered_is = said_gathered g es ∙ ap (λ (os : List TextEvent). with_all g (text_events os)) ends.said

      marked : IsMarked g (with_all g (text_events es)) 40
      marked = subst (λ (i : Gathered). IsMarked g i 40) (sym gathered_is) (end_marks g (text.said_at_end k) ends.notes)

      kept_is : (with_all g (text_events es)).builder.kept ≡ encode_utf8_all (k ++ 40 ∷ [])
      kept_is = marked.kept ∙ ap (λ (b : List ℕ). b ++ encode_utf8 40) (r.kept ∙ ap (λ (p : KeptParts). encode_utf8_all (joined p)) here.is)
          ∙ ap (λ (b : List ℕ). encode_utf8_all k ++ b) (sym (append-nil (encode_utf8 40))) ∙ sym (encodes-append k (40 ∷ []))

      said_more : with_all (begun spans) (said_by lines (in_notes k [] [])) ≡ with_all (with_all (begun spans) (text_events (text.said_of k))) (text_events (text.said_at_end k))
      said_more =
          ap (with_all (begun spans)) (append-nil (text_events (text.said_of k ++ text.said_at_end k) ++ []) ∙ append-nil (text_events (text.said_of k ++ text.said_at_end k)) ∙ map-append (λ (o : TextEvent). event.Text o) (text.said_of k) (text.said_at_end k))
          ∙ with_all_append (begun spans) (text_events (text.said_of k)) (text_events (text.said_at_end k))
