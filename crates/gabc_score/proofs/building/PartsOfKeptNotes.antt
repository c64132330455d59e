-- What was gathered stays what the parts of the kept text say, with the events of a snippet.
use Rattle.std.proofs.Common.{◌≡◌, ℕ, ◌+◌, ◌-◌, ◌^◌, min, nat_lt, Bool, true, false, cond, List, [], ◌∷◌, ◌++◌, length, encode_utf8, encode_utf8_all, refl, sym, ap, subst, ◌∙◌, arith, append-nil, append_assoc, length-append}
use Rattle.std.proofs.lemmas.Bool.Decides.{nat_tests}
use Rattle.std.proofs.lemmas.List.{append_cancel_right, map-append}
use Rattle.std.proofs.lemmas.Str.{encodes-append}
use Rattle.std.specs.List.{list_any}
use Rattle.gabc_places.specs.declared.place.Char.{Char}
use Rattle.gabc_places.specs.declared.place.Place.{Place}
use Rattle.gabc_text.specs.witness.Keeps as text
use Rattle.gabc_notes.specs.SnippetRead.{kept_of}
use Rattle.gabc_notes.specs.declared.stage.NoteEnd.TheVariants as note_end
use Rattle.gabc_notes.specs.declared.stage.NoteEvent.{NoteEvent}
use Rattle.gabc_notes.specs.declared.stage.NoteEvent.TheVariants as note
use Rattle.gabc_score.specs.declared.body_stage.BodyPart.{BodyPart}
use Rattle.gabc_body.specs.declared.events.BodyEvent.{BodyEvent}
use Rattle.gabc_body.specs.declared.events.BodyEvent.TheVariants as event
use Rattle.gabc_body.specs.Events.{is_close, is_next, next_line, note_event}
use Rattle.gabc_body.specs.Syllable.{prefix_of}
use Rattle.gabc_body.specs.witness.BodyBuilder.{with_all}
use Rattle.gabc_body.specs.witness.Gatherer.{Gathered, with_event, with_snippet}
use Rattle.gabc_score.specs.machine.PartKeeps.{KeptParts, in_text, in_notes, barred, text_before, joined, line_after, snippet_events, ended_events, earlier_events, events_before, said_by, IsEndedOn, AreEnded, BeginsSnippet, PartKeeps, begun, ReadAlike, IsReading, spans_past, PartKeepsOn}
use Rattle.gabc_body.specs.witness.TextEvents.{kept_char, text_events}
use Rattle.gabc_score.specs.machine.PartSteps.{SnippetSteps}
use Rattle.gabc_score.specs.machine.Preceded.{spans_of}
use Rattle.gabc_body.specs.witness.SyllableBuilder.{OpenSyllable, made_from, past_mark, past_snippet, snippet_from}
use Rattle.gabc_body.proofs.gathering.EventsOfOnePoint.{with_all_append}
use Rattle.gabc_score.proofs.building.SnippetsTakeCharacters.{Ending, Going, InSnippet, close_ends, ending_close, ending_next, going, next_ends, next_mark}
use Rattle.gabc_body.proofs.texts_of_body.SeamsOfCharacters.{cut_is, size, size_append}
use Rattle.gabc_score.proofs.building.PartsOfKeptText.{Grows, all_alike, of_notes, notes_said, notes_ended, snippet_grows, snippet_is, read_on}

module _ (lines macros : ℕ) where
  line_more : (line : ℕ) (earlier : List (List ℕ)) (s : List ℕ) → line_after lines line (earlier ++ s ∷ []) ≡ next_line lines (line_after lines line earlier)
  line_more line [] s = refl
  line_more line (u ∷ earlier) s = line_more (next_line lines line) earlier s

  ended_more : (line : ℕ) (earlier : List (List ℕ)) (s : List ℕ) → AreEnded lines macros line earlier → IsEndedOn lines macros (line_after lines line earlier) s → AreEnded lines macros line (earlier ++ s ∷ [])
  ended_more line [] s h e = (e, tt)
  ended_more line (u ∷ earlier) s h e = (h.0, ended_more (next_line lines line) earlier s h.1 e)

  earlier_more : (line : ℕ) (earlier : List (List ℕ)) (s : List ℕ) → earlier_events lines line (earlier ++ s ∷ []) ≡ earlier_events lines line earlier ++ ended_events (line_after lines line earlier) s
  earlier_more line [] s = append-nil (ended_events line s)
  earlier_more line (u ∷ earlier) s = grind (arith, earlier_more (next_line lines line) earlier s, append_assoc)

  module _ {x : Char} {line : ℕ} {opened : Place} {before same : BodyPart} {es : List NoteEvent} (s : SnippetSteps x line opened before es same) where
    pub notes_keep_on : list_any is_next es ≡ false → list_any is_close es ≡ false → PartKeepsOn lines macros before same (of_notes line opened es)
    notes_keep_on next close spans g fits r =
        read_on lines macros before same spans g (with_all g (of_notes line opened es)) (ap (λ (i : Gathered). i.made) gathered_is ∙ grown.made) (record {
          parts = in_notes here.t here.earlier (here.k ++ kept_of es);
          keeps = goes.keeps;
          said = subst (ReadAlike (with_all g (of_notes line opened es))) (sym said_more)
              (subst (λ (i : Gathered). ReadAlike i (with_all (with_all (begun spans) (said_by lines (in_notes here.t here.earlier here.k))) (snippet_events line (kept_of es)))) (sym gathered_is)
              (all_alike (snippet_events line (kept_of es)) g (with_all (begun spans) (said_by lines (in_notes here.t here.earlier here.k)))
              (subst (λ (p : KeptParts). ReadAlike g (with_all (begun spans) (said_by lines p))) here.is r.said)));
          kept = ap (λ (i : Gathered). i.builder.kept) gathered_is ∙ grown.kept ∙ ap (λ (b : List ℕ). b ++ encode_utf8_all (kept_of es)) (r.kept ∙ ap (λ (p : KeptParts). encode_utf8_all (joined p)) here.is)
              ∙ sym (encodes-append (joined (in_notes here.t here.earlier here.k)) (kept_of es))
              ∙ ap encode_utf8_all (append_assoc (text_before (in_notes here.t here.earlier here.k)) here.k (kept_of es));
          from = ap (λ (i : Gathered). i.builder.from) gathered_is ∙ grown.from ∙ r.from ∙ ap (λ (p : KeptParts). size (text_before p)) here.is;
          uncut = ap (λ (i : Gathered). i.cut) gathered_is ∙ grown.cut ∙ r.uncut;
        })
      where
        goes : Going lines macros line x before same es r.parts
        goes = going lines macros s r.parts r.keeps next close

        here : InSnippet lines macros line r.parts
        here = goes.here

        gathered_is : with_all g (of_notes line opened es) ≡ with_all g (snippet_events line (kept_of es))
        gathered_is = notes_said line opened es g goes.no_end

        grown : Grows g (with_all g (snippet_events line (kept_of es))) (kept_of es)
        grown = snippet_grows line (kept_of es) g

        said_more : with_all (begun spans) (said_by lines (in_notes here.t here.earlier (here.k ++ kept_of es))) ≡ with_all (with_all (begun spans) (said_by lines (in_notes here.t here.earlier here.k))) (snippet_events line (kept_of es))
        said_more =
            ap (λ (ks : List BodyEvent). with_all (begun spans) (events_before lines here.t here.earlier ++ ks)) (map-append (λ (c : ℕ). event.Notes (line_after lines 0 here.earlier) (note.Kept (kept_char c))) here.k (kept_of es))
            ∙ ap (with_all (begun spans)) (sym (append_assoc (events_before lines here.t here.earlier) (snippet_events (line_after lines 0 here.earlier) here.k) (snippet_events (line_after lines 0 here.earlier) (kept_of es))))
            ∙ with_all_append (begun spans) (said_by lines (in_notes here.t here.earlier here.k)) (snippet_events (line_after lines 0 here.earlier) (kept_of es))
            ∙ ap (λ (l : ℕ). with_all (with_all (begun spans) (said_by lines (in_notes here.t here.earlier here.k))) (snippet_events l (kept_of es))) here.after.line_is

    -- the `)`, after which a text begins
    pub notes_close_on : (after : BodyPart) → list_any is_close es ≡ true → PartKeeps lines macros after (in_text []) → PartKeepsOn lines macros before after (of_notes line opened es)
    unfolding text.said_of
    notes_close_on after close begins spans g fits r =
        subst (λ (i : Gathered). IsReading lines macros after (spans_past spans g i) i) (sym (notes_ended line opened es g note_end.Close n closed.none_kept (close_ends es x.c n closed.end close)))
        (subst (λ (b : Bool). IsReading lines macros after (cond b (spans_of closing) spans) closing) (sym more)
        (record { parts = in_text []; keeps = begins; said = record { builder = refl; eu = refl; nlba = refl }; kept = refl; from = refl; uncut = r.uncut }))
      where
        closed : Ending lines macros line x es r.parts
        closed = ending_close lines macros s r.parts r.keeps close

        n : ℕ
        n = min (size closed.s) (2 ^ 64 - 1)

        closing : Gathered
        closing = with_event g (note_event line opened (note.Ended note_end.Close n))

        more : nat_lt (length g.made) (length closing.made) ≡ true
        more = let l = length-append g.made (made_from (with_snippet g line n 41).builder g.eu g.nlba ∷ []) in grind (arith, nat_tests, l)

    -- the `|`, after which the next snippet begins
    pub notes_end_on : (after : BodyPart) → list_any is_next es ≡ true → BeginsSnippet lines macros (next_line lines line) after → PartKeepsOn lines macros before after (of_notes line opened es)
    notes_end_on after next begins spans g fits r =
        subst (λ (i : Gathered). IsReading lines macros after (spans_past spans g i) i) (sym (notes_ended line opened es g note_end.Next n e.none_kept (next_ends es x.c n e.end next)))
        (read_on lines macros before after spans g ended refl (record {
          parts = in_notes here.t earlier [];
          keeps = begins here.t earlier (record {
            text_ended = here.after.text_ended;
            snippets_ended = ended_more 0 here.earlier e.s here.after.snippets_ended (subst (λ (l : ℕ). IsEndedOn lines macros l e.s) (sym here.after.line_is) (e.ended (next_mark es x.c n e.end next)));
            line_is = line_more 0 here.earlier e.s ∙ ap (next_line lines) here.after.line_is;
          });
          said = subst (ReadAlike ended) (sym said_more) (record {
            builder = ap (λ (o : OpenSyllable). past_snippet o line n 124) builder_is ∙ ap (λ (b : List ℕ). record (past_mark b 124 all) { snippets = all.snippets ++ snippet_from all line b ∷ [] }) (cut_here ∙ sym cut_there);
            eu = was.eu ∙ ap (λ (i : Gathered). i.eu) snippet_there;
            nlba = was.nlba ∙ ap (λ (i : Gathered). i.nlba) snippet_there;
          });
          kept = kept_is;
          from = ap length kept_is ∙ ap size (append-nil (text_before (in_notes here.t earlier [])));
          uncut = r.uncut;
        }))
      where
        e : Ending lines macros line x es r.parts
        e = ending_next lines macros s r.parts r.keeps next

        here : InSnippet lines macros line r.parts
        here = e.here

        n : ℕ
        n = min (size e.s) (2 ^ 64 - 1)

        earlier : List (List ℕ)
        earlier = here.earlier ++ e.s ∷ []

        ended : Gathered
        ended = with_event g (event.Notes line (note.Ended note_end.Next n))

        first : List ℕ
        first = text_before (in_notes here.t here.earlier here.k)

        -- what was said before the snippet
        base : Gathered
        base = with_all (begun spans) (events_before lines here.t here.earlier)

        all : OpenSyllable
        all = record base.builder { kept = base.builder.kept ++ encode_utf8_all here.k }

        snippet_there : with_all base (snippet_events line here.k) ≡ record base { builder = all }
        snippet_there = snippet_is line here.k base

        was : ReadAlike g (with_all base (snippet_events line here.k))
        was = subst (ReadAlike g) (with_all_append (begun spans) (events_before lines here.t here.earlier) (snippet_events line here.k))
            (subst (λ (l : ℕ). ReadAlike g (with_all (begun spans) (events_before lines here.t here.earlier ++ snippet_events l here.k))) here.after.line_is
            (subst (λ (p : KeptParts). ReadAlike g (with_all (begun spans) (said_by lines p))) here.is r.said))

        builder_is : g.builder ≡ all
        builder_is = was.builder ∙ ap (λ (i : Gathered). i.builder) snippet_there

        kept_here : g.builder.kept ≡ encode_utf8_all (first ++ here.k)
        kept_here = r.kept ∙ ap (λ (p : KeptParts). encode_utf8_all (joined p)) here.is

        all_kept : all.kept ≡ encode_utf8_all (first ++ (e.s ++ e.rest))
        all_kept = ap (λ (o : OpenSyllable). o.kept) (sym builder_is) ∙ kept_here ∙ ap (λ (k : List ℕ). encode_utf8_all (first ++ k)) e.cut

        all_from : all.from ≡ size first
        all_from = ap (λ (o : OpenSyllable). o.from) (sym builder_is) ∙ r.from ∙ ap (λ (p : KeptParts). size (text_before p)) here.is

        base_kept : base.builder.kept ≡ encode_utf8_all first
        base_kept = append_cancel_right base.builder.kept (encode_utf8_all first) (encode_utf8_all here.k)
            (ap (λ (o : OpenSyllable). o.kept) (sym builder_is) ∙ kept_here ∙ encodes-append first here.k)

        count_is : n ≡ size e.s
        count_is =
            let all_size : length g.builder.kept ≡ size first + size here.k = ap length kept_here ∙ size_append first here.k in
            let part_size : size here.k ≡ size e.s + size e.rest = ap size e.cut ∙ size_append e.s e.rest in
            omega (arith, fits, all_size, part_size)

        cut_here : prefix_of (all.from + n) all.kept ≡ encode_utf8_all (first ++ e.s)
        cut_here = cut_is all.from n all.kept first e.s e.rest all_kept all_from count_is

        cut_there : prefix_of (all.from + size e.s) (base.builder.kept ++ encode_utf8_all e.s) ≡ encode_utf8_all (first ++ e.s)
        cut_there = cut_is all.from (size e.s) (base.builder.kept ++ encode_utf8_all e.s) first e.s []
            (ap (λ (b : List ℕ). b ++ encode_utf8_all e.s) base_kept ∙ sym (encodes-append first e.s) ∙ ap (λ (k : List ℕ). encode_utf8_all (first ++ k)) (sym (append-nil e.s))) all_from refl

        barred_more : text_before (in_notes here.t earlier []) ≡ first ++ (e.s ++ 124 ∷ [])
        barred_more =
            ap (λ (b : List ℕ). here.t ++ 40 ∷ b) (more here.earlier)
            ∙ sym (append_assoc here.t (40 ∷ barred here.earlier) (e.s ++ 124 ∷ []))
          where
            more : (ss : List (List ℕ)) → barred (ss ++ e.s ∷ []) ≡ barred ss ++ (e.s ++ 124 ∷ [])
            more [] = append-nil (e.s ++ 124 ∷ [])
            more (s ∷ ss) = ap (λ (b : List ℕ). (s ++ 124 ∷ []) ++ b) (more ss) ∙ sym (append_assoc (s ++ 124 ∷ []) (barred ss) (e.s ++ 124 ∷ []))

        kept_is : ended.builder.kept ≡ encode_utf8_all (joined (in_notes here.t earlier []))
        kept_is =
            ap (λ (o : OpenSyllable). prefix_of (o.from + n) o.kept ++ encode_utf8 124) builder_is
            ∙ ap (λ (b : List ℕ). b ++ encode_utf8 124) cut_here
            ∙ ap (λ (b : List ℕ). encode_utf8_all (first ++ e.s) ++ b) (sym (append-nil (encode_utf8 124)))
            ∙ sym (encodes-append (first ++ e.s) (124 ∷ []))
            ∙ ap encode_utf8_all (append_assoc first e.s (124 ∷ []) ∙ sym barred_more ∙ sym (append-nil (text_before (in_notes here.t earlier []))))

        said_more : with_all (begun spans) (said_by lines (in_notes here.t earlier [])) ≡ with_event (record base { builder = record base.builder { kept = base.builder.kept ++ encode_utf8_all e.s } }) (event.Notes line (note.Ended note_end.Next (size e.s)))
        said_more =
            ap (with_all (begun spans))
            (append-nil (events_before lines here.t earlier)
            ∙ ap (λ (es : List BodyEvent). text_events (text.said_of here.t ++ text.said_at_end here.t) ++ es) (earlier_more 0 here.earlier e.s)
            ∙ sym (append_assoc (text_events (text.said_of here.t ++ text.said_at_end here.t)) (earlier_events lines 0 here.earlier) (ended_events (line_after lines 0 here.earlier) e.s))
            ∙ ap (λ (l : ℕ). events_before lines here.t here.earlier ++ ended_events l e.s) here.after.line_is)
            ∙ with_all_append (begun spans) (events_before lines here.t here.earlier) (ended_events line e.s)
            ∙ with_all_append base (snippet_events line e.s) (event.Notes line (note.Ended note_end.Next (size e.s)) ∷ [])
            ∙ ap (λ (i : Gathered). with_event i (event.Notes line (note.Ended note_end.Next (size e.s)))) (snippet_is line e.s base)
