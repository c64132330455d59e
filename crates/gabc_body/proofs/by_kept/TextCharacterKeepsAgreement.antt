-- A character of a text: what was read stands to what was gathered after it, as before.
use Rattle.std.proofs.Common.{◌≡◌, ℕ, ◌+◌, ◌≤◌, ◌&&◌, ◌==◌, not, Bool, true, false, cond, List, [], ◌∷◌, ◌++◌, length, reverse, encode_utf8, encode_utf8_all, Option, Some, None, is_some, refl, sym, ap, subst, ◌∙◌, append-nil, arith}
use Rattle.std.specs.List.{list_any}
use Rattle.std.proofs.lemmas.Bool.{and_parts, true≢false}
use Rattle.std.proofs.lemmas.List.{map-append}
use Rattle.std.proofs.lemmas.List.Folds.{list_any-append}
use Rattle.std.proofs.lemmas.Str.{encodes-append}
use Rattle.gabc_places.specs.Fate.{Fate, Keep, Comment, Ends, LeaveOut}
use Rattle.gabc_places.specs.Place.{next_place, place_past, placed_characters_from}
use Rattle.gabc_places.specs.declared.code.Finding.{Finding}
use Rattle.gabc_places.specs.declared.place.Char.{Char}
use Rattle.gabc_places.specs.declared.place.Place.{Place}
use Rattle.gabc_text.specs.BuiltText.{kept_in}
use Rattle.gabc_text.specs.KeptText.{view_of_kept}
use Rattle.gabc_text.specs.TextView.{ViewContent}
use Rattle.gabc_text.specs.Token.{tokens}
use Rattle.gabc_text.specs.View.{codes_at_end}
use Rattle.gabc_text.specs.declared.text_event.TextEnd.TheVariants as ending
use Rattle.gabc_text.specs.declared.text_event.TextEvent.{TextEvent}
use Rattle.gabc_text.specs.declared.text_event.TextEvent.TheVariants as out
use Rattle.gabc_notes.specs.KeptNotes.{in_raw}
use Rattle.gabc_notes.specs.declared.item.ItemKind.{ItemKind}
use Rattle.gabc_body.specs.declared.events.BodyEvent.TheVariants.{Text}
use Rattle.gabc_body.specs.Events.{Texts, is_text_end, first_list, other_lists}
use Rattle.gabc_body.specs.NoteBeforeClef.{found_first}
use Rattle.gabc_body.specs.Reading.{Part, Reading, BodyRead, found_at, found_by, inner_by, kept_as, fate_by, with_fate, past, past_text, with_text_ended}
use Rattle.gabc_body.specs.Reading as read
use Rattle.gabc_body.specs.witness.BodyBuilder.{with_all}
use Rattle.gabc_body.specs.witness.Gatherer.{Gathered}
use Rattle.gabc_body.specs.witness.TextEvents.{text_events}
use Rattle.gabc_body.specs.witness.SyllableBuilder.{past_text as builder_past_text}
use Rattle.gabc_body.specs.witness.PartsByKept.{PartRead, InText, InNotes, fresh, emitted, part_after}
use Rattle.gabc_body.specs.witness.TextsByKept.{is_end, view_past, Says, SaysEnd, TextGoes, GoesByKept, GoesIn, GoesBy}
use Rattle.gabc_body.proofs.gathering.EventsOfOnePoint.{with_all_append}
use Rattle.gabc_body.proofs.by_kept.ReadingAgreesWithEvents.{fits_next, size_push, size_of_ascii, Stands, StandsAfter}
use Rattle.gabc_body.proofs.by_kept.SnippetsAreGathered.{silent}
use Rattle.gabc_body.proofs.by_kept.TextsAreGathered.{SpansStand, Grows, text_grows, texts_found}
use Rattle.gabc_body.proofs.by_kept.TextsAreGathered as texts
use Rattle.gabc_body.proofs.order.FindingsOfParts.{found, found_append}
use Rattle.gabc_body.proofs.texts_of_body.SeamsOfCharacters.{size}

-- ---- lists that do not end a text, and one that does

pub none_ends : (os : List TextEvent) → list_any is_end os ≡ false → list_any is_text_end os ≡ false
none_ends [] h = refl
none_ends (out.Ended how ∷ os) h = absurd (true≢false h)
none_ends (out.Kept c ∷ os) h = none_ends os h
none_ends (out.Part q ∷ os) h = none_ends os h
none_ends (out.Found f ∷ os) h = none_ends os h

-- where the first kind stays, only the list's own findings are found
pub found_only : (fs now more : List Finding) (was k : Option ItemKind) (place : Place) → k ≡ was → now ≡ more → fs ++ (now ++ found_first was k place) ≡ fs ++ more
found_only fs now more was k place e f =
    ap (λ (o : Option ItemKind). fs ++ (now ++ found_first was o place)) e ∙ ap (λ (gs : List Finding). fs ++ (now ++ gs)) (silent was place)
    ∙ ap (λ (gs : List Finding). fs ++ gs) (append-nil now ∙ f)

nothing_raw : ((0 == 0) && in_raw []) ≡ false
nothing_raw = refl

module _ (ts : Texts) (lines macros : ℕ) (p : Place) (c : ℕ) (t : List ℕ) (lists : List (List TextEvent)) (b : BodyRead) (g : Gathered) (fs : List Finding)
    (s : Stands (InText lists) p (c ∷ t) b g fs) where
  abbrev x : Char
  x = record { c = c; place = p }

  abbrev xs : List Char
  xs = placed_characters_from (next_place p c) t

  abbrev r : Reading
  r = b.reading

  abbrev b1 : BodyRead
  b1 = record b { reading = record r { part = read.InText } }

  abbrev now : List TextEvent
  now = first_list lists

  abbrev later : TextGoes
  later = GoesByKept (place_past (next_place p c) t) xs

  abbrev next : PartRead
  next = part_after ts lines macros (InText lists) x xs

  abbrev view : ViewContent
  view = g.builder.view

  -- the text goes on: this is kept then
  on : (more kept : List ℕ) (found' : List Finding) (inner : Place) (comment : Bool) (found_then : List Finding) → Says r.kept more found' now → later (r.kept ++ more) inner comment (view_past view now) (other_lists lists)
      → r.kept ++ more ≡ kept → b.found ++ found' ≡ found_then → size (r.before ++ kept) ≤ size (r.before ++ r.kept) + size (c ∷ [])
      → StandsAfter next (next_place p c) t (record b { found = found_then; reading = record r { part = read.InText; kept = kept; comment = comment; inner = inner } }) g fs p (text_events now)
  on more kept found' inner comment found_then says goes k f fit =
      subst (λ (q : PartRead). StandsAfter q (next_place p c) t (record b { found = found_then; reading = record r { part = read.InText; kept = kept; comment = comment; inner = inner } }) g fs p (text_events now))
      (sym (ap (λ (e : Bool). cond e (InNotes 0 p fresh) (InText (other_lists lists))) (none_ends now says.goes_on)))
      (record {
        made_is = grown.made ∙ s.made_is;
        uncut = grown.cut ∙ s.uncut;
        sounded_is = ap is_some grown.first_kind ∙ s.sounded_is;
        found_is = found_only fs (found (text_events now)) found' g.first_kind (with_all g (text_events now)).first_kind p grown.first_kind (texts_found now ∙ says.finds) ∙ ap (λ (gs : List Finding). gs ++ found') s.found_is ∙ f;
        fits = fits_next p c t (size (r.before ++ r.kept)) (size (r.before ++ kept)) fit s.fits;
        reads = record {
          part_is = refl;
          before_is = s.reads.before_is;
          snippets_are = s.reads.snippets_are;
          no_snippets = grown.snippets ∙ s.reads.no_snippets;
          from_is = grown.from ∙ s.reads.from_is;
          within = subst (λ (u : List ℕ). texts.InText b.eu b.nlba u (with_all g (text_events now))) (ap (λ (m : List ℕ). r.kept ++ m) says.keeps ∙ k) grown.within;
          goes = subst (λ (u : List ℕ). later u inner comment (with_all g (text_events now)).builder.view (other_lists lists)) k
              (subst (λ (v : ViewContent). later (r.kept ++ more) inner comment v (other_lists lists)) (sym grown.view_is) goes);
        };
      })
    where
      grown : Grows b.eu b.nlba r.kept (kept_in now) (view_past view now) g (with_all g (text_events now))
      grown = text_grows b.eu b.nlba now r.kept g says.goes_on says.stand s.reads.within

  -- nothing more is kept
  same : (found' : List Finding) (comment : Bool) (found_then : List Finding) → Says r.kept [] found' now → later (r.kept ++ []) r.inner comment (view_past view now) (other_lists lists) → b.found ++ found' ≡ found_then
      → StandsAfter next (next_place p c) t (record b { found = found_then; reading = record r { part = read.InText; comment = comment } }) g fs p (text_events now)
  same found' comment found_then says goes f = on [] r.kept found' r.inner comment found_then says goes (append-nil r.kept) f (omega arith)

  -- the text ends
  ends : SaysEnd r.kept (found_at (codes_at_end (reverse (tokens r.kept))) p) ending.Notes view now
      → StandsAfter next (next_place p c) t (past_text p (with_text_ended p b1)) g fs p (text_events now)
  ends e =
      subst (λ (q : PartRead). StandsAfter q (next_place p c) t (past_text p (with_text_ended p b1)) g fs p (text_events now))
      (sym (ap (λ (o : Bool). cond o (InNotes 0 p fresh) (InText (other_lists lists))) over))
      (record {
        made_is = ap (λ (i : Gathered). i.made) gathered_is ∙ grown.made ∙ s.made_is;
        uncut = ap (λ (i : Gathered). i.cut) gathered_is ∙ grown.cut ∙ s.uncut;
        sounded_is = ap (λ (i : Gathered). is_some i.first_kind) gathered_is ∙ ap is_some grown.first_kind ∙ s.sounded_is;
        found_is = found_only fs (found (text_events now)) found_then g.first_kind (with_all g (text_events now)).first_kind p (ap (λ (i : Gathered). i.first_kind) gathered_is ∙ grown.first_kind) found_now ∙ ap (λ (gs : List Finding). gs ++ found_then) s.found_is;
        fits = fits_next p c t (size (r.before ++ r.kept)) (size ((r.kept ++ 40 ∷ []) ++ [])) fit s.fits;
        reads = record {
          part_is = refl;
          state_is = refl;
          paren_is = refl;
          within = record {
            kept_is = ap (λ (i : Gathered). i.builder.kept) gathered_is ∙ kept_then ∙ ap encode_utf8_all (sym (append-nil (r.kept ++ 40 ∷ [])));
            from_is = ap (λ (i : Gathered). i.builder.from) gathered_is ∙ ap length kept_then;
            view_is = ap (λ (i : Gathered). i.builder.view) gathered_is ∙ view_then;
            snippets_are = ap (λ (i : Gathered). i.builder.snippets) gathered_is ∙ grown.snippets ∙ s.reads.no_snippets ∙ sym s.reads.snippets_are;
            more = 40 ∷ [];
            before_is = refl;
            spans = record {
              eu_is = ap (λ (i : Gathered). i.eu) gathered_is ∙ spans_then.eu_is;
              nlba_is = ap (λ (i : Gathered). i.nlba) gathered_is ∙ spans_then.nlba_is;
              lie = spans_then.lie;
            };
          };
          scalar = refl;
          inner_line = λ h. absurd (true≢false (sym h ∙ nothing_raw));
        };
      })
    where
      found_then : List Finding
      found_then = found_at (codes_at_end (reverse (tokens r.kept))) p

      h : Gathered
      h = with_all g (text_events e.front)

      grown : Grows b.eu b.nlba r.kept (kept_in e.front) (view_past view e.front) g h
      grown = text_grows b.eu b.nlba e.front r.kept g e.says.goes_on e.says.stand s.reads.within

      over : list_any is_text_end now ≡ true
      over = ap (list_any is_text_end) e.ends ∙ list_any-append is_text_end e.front (out.Ended ending.Notes ∷ []) ∙ rw (none_ends e.front e.says.goes_on) refl

      split : text_events now ≡ text_events e.front ++ Text (out.Ended ending.Notes) ∷ []
      split = ap text_events e.ends ∙ map-append (λ (o : TextEvent). Text o) e.front (out.Ended ending.Notes ∷ [])

      gathered_is : with_all g (text_events now) ≡ record h { builder = builder_past_text h.builder }
      gathered_is = ap (with_all g) split ∙ with_all_append g (text_events e.front) (Text (out.Ended ending.Notes) ∷ [])

      found_now : found (text_events now) ≡ found_then
      found_now = ap found split ∙ found_append (text_events e.front) (Text (out.Ended ending.Notes) ∷ []) ∙ append-nil (found (text_events e.front)) ∙ texts_found e.front ∙ e.says.finds

      within : texts.InText b.eu b.nlba r.kept h
      within = subst (λ (u : List ℕ). texts.InText b.eu b.nlba u h) (ap (λ (m : List ℕ). r.kept ++ m) e.says.keeps ∙ append-nil r.kept) grown.within

      kept_then : h.builder.kept ++ encode_utf8 40 ≡ encode_utf8_all (r.kept ++ 40 ∷ [])
      kept_then = ap (λ (u : List ℕ). u ++ encode_utf8 40) within.kept_is ∙ ap (λ (u : List ℕ). encode_utf8_all r.kept ++ u) (sym (append-nil (encode_utf8 40))) ∙ sym (encodes-append r.kept (40 ∷ []))

      view_then : h.builder.view ≡ view_of_kept r.kept
      view_then = grown.view_is ∙ e.view_is

      spans_then : SpansStand b.eu b.nlba (encode_utf8_all r.kept) (view_of_kept r.kept).pieces h
      spans_then = subst (λ (u : List ℕ). SpansStand b.eu b.nlba u (view_of_kept r.kept).pieces h) within.kept_is
          (subst (λ (v : ViewContent). SpansStand b.eu b.nlba h.builder.kept v.pieces h) view_then within.spans)

      fit : size ((r.kept ++ 40 ∷ []) ++ []) ≤ size (r.before ++ r.kept) + size (c ∷ [])
      fit = subst (λ (u : List ℕ). size u ≤ size (r.before ++ r.kept) + size (c ∷ [])) (ap (λ (u : List ℕ). u ++ (r.kept ++ 40 ∷ [])) s.reads.before_is ∙ sym (append-nil (r.kept ++ 40 ∷ [])))
          (size_push r.before r.kept 40 c (size_of_ascii 40 c (omega arith)))

  kept_small : size (kept_as read.InText r.kept c ∷ []) ≤ size (c ∷ [])
  kept_small = by _ _
    where
      by : (part blank : Bool) → size (cond part c (cond blank 32 c) ∷ []) ≤ size (c ∷ [])
      by true blank = omega arith
      by false true = size_of_ascii 32 c (omega arith)
      by false false = omega arith

  fates : (fate : Fate) → GoesBy later fate x r.kept r.inner view lists → StandsAfter next (next_place p c) t (with_fate lines macros b1 x fate) g fs p (text_events now)
  fates Keep h =
      let d = kept_as read.InText r.kept c in
      let f = found_by 0 read.InText r.kept r.inner x in
      on (d ∷ []) (r.kept ++ d ∷ []) f (inner_by read.InText r.kept r.inner x) false (b.found ++ f) h.0 h.1 refl refl (size_push r.before r.kept d c kept_small)
  fates Comment h = same [] true b.found h.0 h.1 (append-nil b.found)
  fates (LeaveOut None) h = same [] false b.found h.0 h.1 (append-nil b.found)
  fates (LeaveOut (Some code)) h = same (found_at (code ∷ []) p) false (b.found ++ found_at (code ∷ []) p) h.0 h.1 refl
  fates Ends h = ends h

  cases : (o : Bool) → (r.comment && not (c == 10)) ≡ o → GoesIn o later x r.kept r.inner view lists
      → StandsAfter next (next_place p c) t (cond o b1 (with_fate lines macros b1 x (fate_by lines read.InText r.kept c))) g fs p (text_events now)
  cases true e h = same [] r.comment b.found h.0 (subst (λ (o : Bool). later (r.kept ++ []) r.inner o (view_past view now) (other_lists lists)) (sym (and_parts r.comment (not (c == 10)) e).0) h.1) (append-nil b.found)
  cases false e h = fates (fate_by 0 read.InText r.kept c) h

  pub text_step : StandsAfter next (next_place p c) t (past lines macros b x) g fs p (emitted lines macros (InText lists) x)
  text_step =
      subst (λ (q : Part). StandsAfter next (next_place p c) t (past lines macros (record b { reading = record r { part = q } }) x) g fs p (text_events now)) (sym s.reads.part_is)
      (cases (r.comment && not (c == 10)) refl s.reads.goes)
