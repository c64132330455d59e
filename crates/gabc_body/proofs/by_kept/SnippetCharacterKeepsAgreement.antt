-- A character of a snippet: what was read stands to what was gathered after it, as before.
use Rattle.std.proofs.Common.{◌≡◌, ℕ, ◌+◌, ◌<◌, ◌≤◌, ◌^◌, ◌&&◌, ◌||◌, ◌==◌, not, nat_lt, Bool, true, false, cond, List, [], ◌∷◌, ◌++◌, length, encode_utf8, encode_utf8_all, codes, Option, Some, None, is_some, refl, sym, ap, subst, ◌∙◌, append-nil, append_assoc, eqb-true, arith}
use Rattle.std.proofs.lemmas.Bool.{and_parts, true≢false}
use Rattle.std.proofs.lemmas.Bool.Decides.{nat_tests}
use Rattle.std.proofs.lemmas.List.Elements.{All-nil}
use Rattle.std.proofs.lemmas.Str.{encodes-append}
use lib.Utf8.{scalar, scalars}
use Rattle.gabc_places.specs.Fate.{Fate, Keep, Comment, Ends, LeaveOut}
use Rattle.gabc_places.specs.Place.{next_place, place_past, placed_characters_from}
use Rattle.gabc_places.specs.declared.code.Code.{Code}
use Rattle.gabc_places.specs.declared.code.Code.TheVariants.{E1, E3, E6, W8, W10}
use Rattle.gabc_places.specs.declared.code.Finding.{Finding}
use Rattle.gabc_places.specs.declared.place.Char.{Char}
use Rattle.gabc_places.specs.declared.place.Place.{Place}
use Rattle.gabc_patterns.specs.Reads.{items_by, whole_front}
use Rattle.gabc_text.specs.BuiltText.{empty_view}
use Rattle.gabc_text.specs.Events.{events_by_point}
use Rattle.gabc_text.specs.KeptText.{view_of_kept}
use Rattle.gabc_text.specs.declared.view.Piece.{Piece}
use Rattle.gabc_notes.specs.Events.{finding_event, end_by_mark, bytes_of, ItemText}
use Rattle.gabc_notes.specs.FirstNoteOrClef.{first_note_or_clef}
use Rattle.gabc_notes.specs.FirstSound.{first_sound}
use Rattle.gabc_notes.specs.Items.{items_of}
use Rattle.gabc_notes.specs.KeptNotes.{in_raw, is_snippet, is_fused, items_back, fate_in_notes, found_of_item, found_in_notes, found_at_end as notes_at_end}
use Rattle.gabc_notes.specs.Table.{gabc}
use Rattle.gabc_notes.specs.declared.item.ItemKind.{ItemKind}
use Rattle.gabc_notes.specs.declared.stage.NoteEnd.TheVariants as note_end
use Rattle.gabc_notes.specs.declared.stage.NoteEvent.{NoteEvent}
use Rattle.gabc_notes.specs.declared.stage.NoteEvent.TheVariants as note
use Rattle.gabc_notes.specs.witness.NotesByKept as notes
use Rattle.gabc_nabc.specs.Events.{bytes_in}
use Rattle.gabc_nabc.specs.KeptNabc.{fate_in_nabc, found_in_nabc, found_at_end as nabc_at_end}
use Rattle.gabc_nabc.specs.Table.{nabc as nabc_table}
use Rattle.gabc_nabc.specs.witness.NabcByKept as nabc
use Rattle.gabc_body.specs.declared.events.BodyEvent.TheVariants.{Notes}
use Rattle.gabc_body.specs.declared.snippets.Snippet.{Snippet}
use Rattle.gabc_body.specs.Events.{next_line, after_mark, texts_by_definition}
use Rattle.gabc_body.specs.NoteBeforeClef.{found_first}
use Rattle.gabc_body.specs.Reading.{Part, Reading, BodyRead, no_place, at_start, found_within, found_at, sound_codes, whole_of, with_found, with_fate, with_syllable, past_snippet, past}
use Rattle.gabc_body.specs.Reading as read
use Rattle.gabc_body.specs.SpansPast.{open_past}
use Rattle.gabc_body.specs.Syllable.{UnplacedSyllable, snippet_at}
use Rattle.gabc_body.specs.witness.Gatherer.{Gathered, with_event, awaits}
use Rattle.gabc_body.specs.witness.SyllableBuilder.{OpenSyllable, past_snippet as builder_past_snippet}
use Rattle.gabc_body.specs.witness.PartsByKept.{SnippetState, InText, InNotes, fresh, notes_step, nabc_step, step, past_notes, emitted, part_after}
use Rattle.gabc_body.specs.witness.TextsByKept.{GoesByKept, TextsGoByKept}
use Rattle.gabc_body.proofs.by_kept.ReadingAgreesWithEvents.{fits_next, counts_fit, codes_placed, size_push, after_mark_is, Stands, StandsAfter, state_of}
use Rattle.gabc_body.proofs.by_kept.SnippetsAreGathered.{whole_is_front, scalars_front, scalars_push, count_notes, count_nabc, of_findings, of_notes, findings_pass, findings_stay, findings_found, ended_found, SnippetEnds, snippet_ends, Sounds, sounds, silent, unsounded}
use Rattle.gabc_body.proofs.by_kept.TextsAreGathered.{open_front}
use Rattle.gabc_body.proofs.by_kept.TextCharacterKeepsAgreement.{found_only}
use Rattle.gabc_body.proofs.order.FindingsOfParts.{found}
use Rattle.gabc_body.proofs.texts_of_body.SeamsOfCharacters.{size, size_append}

-- the next snippet
abbrev with_next : ℕ → List ℕ → List Snippet → BodyRead → BodyRead
with_next line before snippets b = record b { reading = record b.reading { part = read.InNotes line; kept = []; before = before; snippets = snippets; comment = false; inner = no_place } }

-- ---- findings

notes_within : (macros : ℕ) (kept : List ℕ) (inner here : Place) → notes.all_found (found_in_notes macros kept) inner here ≡ of_findings (found_within (found_in_notes macros kept) inner here)
notes_within macros kept inner here = by (is_snippet kept) (items_back kept)
  where
    two : (a m : Bool) → notes.all_found (cond a (W10 ∷ []) [] ++ cond m (W8 ∷ []) []) inner here ≡ of_findings (found_within (cond a (W10 ∷ []) [] ++ cond m (W8 ∷ []) []) inner here)
    two true true = refl
    two true false = refl
    two false true = refl
    two false false = refl

    by : (o : Bool) (is : List ItemText) → notes.all_found (cond o (found_of_item macros is) []) inner here ≡ of_findings (found_within (cond o (found_of_item macros is) []) inner here)
    by false is = refl
    by true [] = refl
    by true (i ∷ is) = two _ _

notes_end_found : (kept : List ℕ) (inner here : Place) → notes.all_found (notes_at_end kept) inner here ≡ of_findings (found_at (notes_at_end kept) here)
notes_end_found kept inner here = by (is_snippet kept) (is_fused (items_back kept))
  where
    by : (a f : Bool) → notes.all_found (cond a [] (E6 ∷ []) ++ cond f (W10 ∷ []) []) inner here ≡ of_findings (found_at (cond a [] (E6 ∷ []) ++ cond f (W10 ∷ []) []) here)
    by true true = refl
    by true false = refl
    by false true = refl
    by false false = refl

nabc_found : (cs : List Code) (here : Place) → notes.all_found cs here here ≡ of_findings (found_at cs here)
nabc_found [] here = refl
nabc_found (code ∷ cs) here = ap (λ (es : List NoteEvent). finding_event (notes.place_by code here here) code ∷ es) (nabc_found cs here) ∙ ap (λ (q : Place). finding_event q code ∷ of_findings (found_at cs here)) (by code)
  where
    by : (k : Code) → notes.place_by k here here ≡ here
    by k = grind arith

-- ---- marks

or_left : (a : Bool) → (a || false) ≡ true → a ≡ true
or_left true h = refl
or_left false h = h

abbrev past_snippet_of : ℕ → ℕ → ℕ → Gathered → OpenSyllable
past_snippet_of line n mark g = builder_past_snippet g.builder line n mark

notes_mark : (split : Bool) (kept : List ℕ) (c : ℕ) → notes.ends (fate_in_notes split kept c) ≡ true → ((c == 41) || (c == 124)) ≡ true
notes_mark split kept c h = go (in_raw kept) (c == 37) (c == 41) split (c == 124) _ h
  where
    go : (raw percent a o l viable : Bool) → notes.ends (cond raw Keep (cond percent Comment (cond (a || (o && l)) Ends (cond viable Keep (LeaveOut (Some E1)))))) ≡ true → (a || l) ≡ true
    go raw percent true o l viable h = refl
    go raw percent false o true viable h = refl
    go true percent false o false viable h = absurd (true≢false (sym h))
    go false true false o false viable h = absurd (true≢false (sym h))
    go false false false true false true h = absurd (true≢false (sym h))
    go false false false true false false h = absurd (true≢false (sym h))
    go false false false false false true h = absurd (true≢false (sym h))
    go false false false false false false h = absurd (true≢false (sym h))

nabc_mark : (kept : List ℕ) (c : ℕ) → notes.ends (fate_in_nabc kept c) ≡ true → ((c == 41) || (c == 124)) ≡ true
nabc_mark kept c h = go (c == 37) (c == 41) (c == 124) _ _ h
  where
    go : (percent a l blank viable : Bool) → notes.ends (cond percent Comment (cond (a || l) Ends (cond blank (LeaveOut None) (cond viable Keep (LeaveOut (Some E3)))))) ≡ true → (a || l) ≡ true
    go percent true l blank viable h = refl
    go percent false true blank viable h = refl
    go true false false blank viable h = absurd (true≢false (sym h))
    go false false false true viable h = absurd (true≢false (sym h))
    go false false false false true h = absurd (true≢false (sym h))
    go false false false false false h = absurd (true≢false (sym h))

not_raw : (o : Bool) → (o && in_raw []) ≡ false
not_raw true = refl
not_raw false = refl

module _ (alike : TextsGoByKept) (lines macros : ℕ) (p : Place) (c : ℕ) (t : List ℕ) (line : ℕ) (b : BodyRead) (g : Gathered) (fs : List Finding)
    (s : Stands (InNotes line b.reading.paren (state_of b.reading)) p (c ∷ t) b g fs) where
  abbrev x : Char
  x = record { c = c; place = p }

  abbrev xs : List Char
  xs = placed_characters_from (next_place p c) t

  abbrev r : Reading
  r = b.reading

  abbrev opened : Place
  opened = b.reading.paren

  abbrev b1 : BodyRead
  b1 = record b { reading = record r { part = read.InNotes line } }

  abbrev w : List ℕ
  w = whole_of line r.kept

  scalar_here : scalar c ≡ true
  scalar_here = (and_parts (scalar c) (scalars t) s.fits.scalar).0

  -- after these events the snippet goes on in this state, or has ended
  abbrev Moves : Option SnippetState → List NoteEvent → BodyRead → Type 0
  Moves o es then = StandsAfter (past_notes texts_by_definition lines line opened x xs o) (next_place p c) t then g fs p (of_notes line opened es)

  -- nothing more is kept
  still : (found' : List Finding) (comment : Bool) (found_then : List Finding) → b.found ++ found' ≡ found_then
      → Moves (Some (record { kept = r.kept; inner = r.inner; comment = comment })) (of_findings found') (record b { found = found_then; reading = record r { part = read.InNotes line; comment = comment } })
  still found' comment found_then f = subst (λ (i : Gathered). Stands (InNotes line opened (record { kept = r.kept; inner = r.inner; comment = comment })) (next_place p c) t (record b { found = found_then; reading = record r { part = read.InNotes line; comment = comment } }) i (fs ++ (found (of_notes line opened (of_findings found')) ++ found_first g.first_kind i.first_kind p)))
      (sym (findings_stay line opened found' g))
      (record {
        made_is = s.made_is;
        uncut = s.uncut;
        sounded_is = s.sounded_is;
        found_is = found_only fs (found (of_notes line opened (of_findings found'))) found' g.first_kind g.first_kind p refl (findings_found line opened found') ∙ ap (λ (gs : List Finding). gs ++ found') s.found_is ∙ f;
        fits = fits_next p c t (size (r.before ++ r.kept)) (size (r.before ++ r.kept)) (omega arith) s.fits;
        reads = record {
          part_is = refl;
          state_is = refl;
          paren_is = refl;
          within = record { kept_is = s.reads.within.kept_is; from_is = s.reads.within.from_is; view_is = s.reads.within.view_is; snippets_are = s.reads.within.snippets_are; more = s.reads.within.more; before_is = s.reads.within.before_is; spans = s.reads.within.spans };
          scalar = s.reads.scalar;
          inner_line = s.reads.inner_line;
        };
      })

  -- the character is kept
  abbrev kept_then : Place → List Finding → BodyRead
  kept_then inner found' = record b { found = b.found ++ found'; reading = record r { part = read.InNotes line; kept = r.kept ++ c ∷ []; comment = false; inner = inner } }

  abbrev grown : Gathered
  grown = record g { builder = record g.builder { kept = g.builder.kept ++ encode_utf8 c } }

  keeps : (found' : List Finding) (inner : Place) → (((line == 0) && in_raw (r.kept ++ c ∷ [])) ≡ true → (inner.line == 0) ≡ false)
      → Moves (Some (record { kept = r.kept ++ c ∷ []; inner = inner; comment = false })) (note.Kept x ∷ of_findings found') (kept_then inner found')
  keeps found' inner ok = subst (λ (i : Gathered). Stands (InNotes line opened (record { kept = r.kept ++ c ∷ []; inner = inner; comment = false })) (next_place p c) t (kept_then inner found') i (fs ++ (found (of_notes line opened (of_findings found')) ++ found_first g.first_kind i.first_kind p)))
      (sym (findings_stay line opened found' grown))
      (record {
        made_is = s.made_is;
        uncut = s.uncut;
        sounded_is = s.sounded_is;
        found_is = found_only fs (found (of_notes line opened (of_findings found'))) found' g.first_kind g.first_kind p refl (findings_found line opened found') ∙ ap (λ (gs : List Finding). gs ++ found') s.found_is;
        fits = fits_next p c t (size (r.before ++ r.kept)) (size (r.before ++ (r.kept ++ c ∷ []))) (size_push r.before r.kept c c (omega arith)) s.fits;
        reads = record {
          part_is = refl;
          state_is = refl;
          paren_is = refl;
          within = record {
            kept_is = ap (λ (u : List ℕ). u ++ encode_utf8 c) s.reads.within.kept_is ∙ ap (λ (u : List ℕ). encode_utf8_all (r.before ++ r.kept) ++ u) (sym (append-nil (encode_utf8 c))) ∙ sym (encodes-append (r.before ++ r.kept) (c ∷ [])) ∙ ap encode_utf8_all (append_assoc r.before r.kept (c ∷ []));
            from_is = s.reads.within.from_is;
            view_is = s.reads.within.view_is;
            snippets_are = s.reads.within.snippets_are;
            more = s.reads.within.more;
            before_is = s.reads.within.before_is;
            spans = record { eu_is = s.reads.within.spans.eu_is; nlba_is = s.reads.within.spans.nlba_is; lie = s.reads.within.spans.lie };
          };
          scalar = scalars_push r.kept c s.reads.scalar scalar_here;
          inner_line = ok;
        };
      })

  -- ---- the snippet ends

  abbrev rest : List ℕ
  rest = (whole_is_front line r.kept).0

  kept_split : r.kept ≡ w ++ rest
  kept_split = (whole_is_front line r.kept).1

  abbrev first_then : Option ItemKind
  first_then = cond (awaits g.first_kind line) (first_note_or_clef (items_of (encode_utf8_all w))) g.first_kind

  abbrev before_then : List ℕ
  before_then = r.before ++ (w ++ c ∷ [])

  abbrev snippets_then : List Snippet
  snippets_then = r.snippets ++ snippet_at line (length (encode_utf8_all r.before)) (encode_utf8_all w) ∷ []

  size_whole : size w ≤ size r.kept
  size_whole = let e : size r.kept ≡ size w + size rest = ap size kept_split ∙ size_append w rest in omega (arith, e)

  size_then : size (before_then ++ []) ≤ size (r.before ++ r.kept) + size (c ∷ [])
  size_then =
      let e : size (before_then ++ []) ≡ size r.before + (size w + size (c ∷ [])) = ap size (append-nil before_then) ∙ size_append r.before (w ++ c ∷ []) ∙ ap (λ (n : ℕ). size r.before + n) (size_append w (c ∷ [])) in
      let f = size_append r.before r.kept in omega (arith, e, f, size_whole)

  counted : size w < 2 ^ 64
  counted = let f = s.fits.bytes in let e = size_append r.before r.kept in omega (arith, f, e, size_whole)

  before_split : before_then ≡ r.text ++ (s.reads.within.more ++ (w ++ c ∷ []))
  before_split = ap (λ (u : List ℕ). u ++ (w ++ c ∷ [])) s.reads.within.before_is ∙ append_assoc r.text s.reads.within.more (w ++ c ∷ [])

  module _ (n : ℕ) (found' : List Finding) (sounded : Bool) (found_then : List Finding) (count : n ≡ size w) (some : is_some first_then ≡ sounded)
      (finds : b.found ++ (found' ++ found_first g.first_kind first_then p) ≡ found_then) where
    -- what was found, and what sounded, with the snippet
    abbrev b2 : BodyRead
    b2 = record b1 { found = found_then; sounded = sounded }

    -- what was found is what is found with its end
    ends_found : (e : NoteEvent) (k : Option ItemKind) → found (of_notes line opened (e ∷ [])) ≡ [] → k ≡ first_then
        → fs ++ (found (of_notes line opened (of_findings found' ++ e ∷ [])) ++ found_first g.first_kind k p) ≡ found_then
    ends_found e k h f =
        ap (λ (gs : List Finding). fs ++ (gs ++ found_first g.first_kind k p)) (ended_found line opened found' e h)
        ∙ ap (λ (o : Option ItemKind). fs ++ (found' ++ found_first g.first_kind o p)) f
        ∙ ap (λ (gs : List Finding). gs ++ (found' ++ found_first g.first_kind first_then p)) s.found_is
        ∙ finds

    kept_here : g.builder.kept ≡ encode_utf8_all (r.before ++ (w ++ rest))
    kept_here = s.reads.within.kept_is ∙ ap (λ (u : List ℕ). encode_utf8_all (r.before ++ u)) kept_split

    next : c ≡ 124 → StandsAfter (InNotes (next_line lines line) opened fresh) (next_place p c) t (with_next (next_line lines line) before_then snippets_then b2) g fs p (of_notes line opened (of_findings found' ++ note.Ended note_end.Next n ∷ []))
    next m = subst (λ (i : Gathered). Stands (InNotes (next_line lines line) opened fresh) (next_place p c) t (with_next (next_line lines line) before_then snippets_then b2) i (fs ++ (found (of_notes line opened (of_findings found' ++ note.Ended note_end.Next n ∷ [])) ++ found_first g.first_kind i.first_kind p)))
        (sym (findings_pass line opened found' g (note.Ended note_end.Next n ∷ [])))
        (record {
          made_is = s.made_is;
          uncut = s.uncut;
          sounded_is = ap is_some e.first_is ∙ some;
          found_is = ends_found (note.Ended note_end.Next n) (with_event g (Notes line (note.Ended note_end.Next n))).first_kind refl e.first_is;
          fits = fits_next p c t (size (r.before ++ r.kept)) (size (before_then ++ [])) size_then s.fits;
          reads = record {
            part_is = refl;
            state_is = refl;
            paren_is = refl;
            within = record {
              kept_is = e.kept_is ∙ ap (λ (d : ℕ). encode_utf8_all (r.before ++ (w ++ d ∷ []))) (sym m) ∙ ap encode_utf8_all (sym (append-nil before_then));
              from_is = e.from_is ∙ ap (λ (d : ℕ). size (r.before ++ (w ++ d ∷ []))) (sym m);
              view_is = e.view_is ∙ s.reads.within.view_is;
              snippets_are = e.snippets_are ∙ ap (λ (ss : List Snippet). ss ++ snippet_at line (length (encode_utf8_all r.before)) (encode_utf8_all w) ∷ []) s.reads.within.snippets_are;
              more = s.reads.within.more ++ (w ++ c ∷ []);
              before_is = before_split;
              spans = record { eu_is = s.reads.within.spans.eu_is; nlba_is = s.reads.within.spans.nlba_is; lie = s.reads.within.spans.lie };
            };
            scalar = refl;
            inner_line = λ h. absurd (true≢false (sym h ∙ not_raw (next_line lines line == 0)));
          };
        })
      where
        e : SnippetEnds line 124 w r.before g (with_event g (Notes line (note.Ended note_end.Next n))).builder (with_event g (Notes line (note.Ended note_end.Next n))).first_kind
        e = snippet_ends line 124 n w rest r.before g kept_here s.reads.within.from_is count

    abbrev closed : BodyRead
    closed = record (with_syllable (encode_utf8_all before_then) r.text snippets_then b2) { reading = at_start false }

    bytes_split : encode_utf8_all before_then ≡ encode_utf8_all r.text ++ encode_utf8_all (s.reads.within.more ++ (w ++ c ∷ []))
    bytes_split = ap encode_utf8_all before_split ∙ encodes-append r.text (s.reads.within.more ++ (w ++ c ∷ []))

    span_then : (opening closing : List ℕ) (was : Bool) → open_past opening closing (encode_utf8_all before_then) (view_of_kept r.text).pieces was ≡ open_past opening closing (encode_utf8_all r.text) (view_of_kept r.text).pieces was
    span_then opening closing was =
        ap (λ (u : List ℕ). open_past opening closing u (view_of_kept r.text).pieces was) bytes_split
        ∙ open_front opening closing (encode_utf8_all r.text) (encode_utf8_all (s.reads.within.more ++ (w ++ c ∷ []))) (view_of_kept r.text).pieces was s.reads.within.spans.lie

    eu_then : g.eu ≡ closed.eu
    eu_then = s.reads.within.spans.eu_is ∙ sym (span_then (codes "<eu>") (codes "</eu>") b.eu)

    nlba_then : g.nlba ≡ closed.nlba
    nlba_then = s.reads.within.spans.nlba_is ∙ sym (span_then (codes "<nlba>") (codes "</nlba>") b.nlba)

    -- the text after it
    text_goes : c ≡ 41 → GoesByKept (place_past (next_place p c) t) xs [] no_place false empty_view (texts_by_definition (after_mark p) xs)
    text_goes m = subst (λ (u : List ℕ). GoesByKept (place_past (next_place p c) t) xs [] no_place false empty_view (events_by_point (after_mark p) u)) (sym (codes_placed (next_place p c) t))
        (subst (λ (q : Place). GoesByKept (place_past (next_place p c) t) xs [] no_place false empty_view (events_by_point q t))
        (ap (next_place p) m ∙ sym (after_mark_is p (let f = s.fits.column in omega (arith, f))))
        (alike (next_place p c) t (counts_fit (next_place p c) t 0 (fits_next p c t (size (r.before ++ r.kept)) 0 (omega arith) s.fits))))

    close : c ≡ 41 → StandsAfter (InText (texts_by_definition (after_mark p) xs)) (next_place p c) t closed g fs p (of_notes line opened (of_findings found' ++ note.Ended note_end.Close n ∷ []))
    close m = subst (λ (i : Gathered). Stands (InText (texts_by_definition (after_mark p) xs)) (next_place p c) t closed i (fs ++ (found (of_notes line opened (of_findings found' ++ note.Ended note_end.Close n ∷ [])) ++ found_first g.first_kind i.first_kind p)))
        (sym (findings_pass line opened found' g (note.Ended note_end.Close n ∷ [])))
        (record {
          made_is = made_then;
          uncut = s.uncut;
          sounded_is = ap is_some e.first_is ∙ some;
          found_is = ends_found (note.Ended note_end.Close n) (with_event g (Notes line (note.Ended note_end.Close n))).first_kind refl e.first_is;
          fits = fits_next p c t (size (r.before ++ r.kept)) 0 (omega arith) s.fits;
          reads = record {
            part_is = refl;
            before_is = refl;
            snippets_are = refl;
            no_snippets = refl;
            from_is = refl;
            within = record { kept_is = refl; spans = record { eu_is = eu_then; nlba_is = nlba_then; lie = All-nil (λ (q : Piece). q.span.to ≤ 0) } };
            goes = text_goes m;
          };
        })
      where
        e : SnippetEnds line 41 w r.before g (past_snippet_of line n 41 g) (with_event g (Notes line (note.Ended note_end.Close n))).first_kind
        e = snippet_ends line 41 n w rest r.before g kept_here s.reads.within.from_is count

        kept_is : (past_snippet_of line n 41 g).kept ≡ encode_utf8_all before_then
        kept_is = e.kept_is ∙ ap (λ (d : ℕ). encode_utf8_all (r.before ++ (w ++ d ∷ []))) (sym m)

        snippets_are : (past_snippet_of line n 41 g).snippets ≡ snippets_then
        snippets_are = e.snippets_are ∙ ap (λ (ss : List Snippet). ss ++ snippet_at line (length (encode_utf8_all r.before)) (encode_utf8_all w) ∷ []) s.reads.within.snippets_are

        made_then : g.made ++ record { text = g.builder.view; kept = (past_snippet_of line n 41 g).kept; snippets = (past_snippet_of line n 41 g).snippets; eu = g.eu; nlba = g.nlba } ∷ [] ≡ closed.made
        made_then =
            let m : UnplacedSyllable = record { text = g.builder.view; kept = (past_snippet_of line n 41 g).kept; snippets = (past_snippet_of line n 41 g).snippets; eu = g.eu; nlba = g.nlba } in
            ap (λ (ms : List UnplacedSyllable). ms ++ m ∷ []) s.made_is
            ∙ ap (λ (k : UnplacedSyllable). b.made ++ k ∷ []) (λ i. record { text = s.reads.within.view_is i; kept = kept_is i; snippets = snippets_are i; eu = eu_then i; nlba = nlba_then i })

    ends : ((c == 41) || (c == 124)) ≡ true → Moves None (of_findings found' ++ note.Ended (end_by_mark c) n ∷ []) (past_snippet lines line c b2)
    ends h = by (c == 124) refl h
      where
        by : (m : Bool) → (c == 124) ≡ m → ((c == 41) || m) ≡ true
            → StandsAfter (cond m (InNotes (next_line lines line) opened fresh) (InText (texts_by_definition (after_mark p) xs))) (next_place p c) t (cond m (with_next (next_line lines line) before_then snippets_then b2) closed) g fs p
            (of_notes line opened (of_findings found' ++ note.Ended (cond m note_end.Next note_end.Close) n ∷ []))
        by true e k = next (eqb-true c 124 e)
        by false e k = close (eqb-true c 41 (or_left (c == 41) k))

  -- ---- by the fate

  -- in GABC
  module _ (z : (line == 0) ≡ true) where
    abbrev sound : Option Bool
    sound = first_sound (items_by gabc (whole_front gabc r.kept))

    whole_is : w ≡ whole_front gabc r.kept
    whole_is = ap (λ (o : Bool). cond o (whole_front gabc r.kept) (whole_front nabc_table r.kept)) z

    sounds_so : Sounds g.first_kind first_then sound p
    sounds_so = subst (λ (u : List ℕ). Sounds g.first_kind first_then (first_sound (items_by gabc u)) p) whole_is
        (sounds g.first_kind line w p (scalars_front w rest (subst (λ (u : List ℕ). scalars u ≡ true) kept_split s.reads.scalar)) z)

    -- its end, with what is found there
    abbrev found_there : List Finding
    found_there = found_at (notes_at_end r.kept) p

    abbrev sounded_then : List Finding
    sounded_then = found_at (sound_codes b.sounded sound) p

    finds : b.found ++ (found_there ++ found_first g.first_kind first_then p) ≡ (b.found ++ found_there) ++ sounded_then
    finds =
        ap (λ (gs : List Finding). b.found ++ (found_there ++ gs)) (sounds_so.found ∙ ap (λ (o : Bool). found_at (sound_codes o sound) p) s.sounded_is)
        ∙ sym (append_assoc b.found found_there sounded_then)

    abbrev Then : Bool → BodyRead
    Then o = past_snippet lines line c (cond o (read.with_sound sound p (with_found found_there b1)) (with_found (found_at (nabc_at_end r.kept) p) b1))

    ends_notes : ((c == 41) || (c == 124)) ≡ true → Moves None (notes.emitted_by macros Ends r.kept r.inner x) (with_fate lines macros b1 x Ends)
    ends_notes h =
        subst (λ (o : Bool). Moves None (notes.emitted_by macros Ends r.kept r.inner x) (Then o)) (sym z)
        (subst (λ (es : List NoteEvent). Moves None (es ++ note.Ended (end_by_mark c) (bytes_of (whole_front gabc r.kept)) ∷ []) (Then true)) (sym (notes_end_found r.kept r.inner p))
        (ends (bytes_of (whole_front gabc r.kept)) found_there (b.sounded || is_some sound) ((b.found ++ found_there) ++ sounded_then)
        (ap bytes_of (sym whole_is) ∙ count_notes w counted)
        (sounds_so.some ∙ ap (λ (o : Bool). o || is_some sound) s.sounded_is) finds h))

    abbrev Kept : Bool → BodyRead
    Kept o = record b { found = b.found ++ cond o (found_within (found_in_notes macros (r.kept ++ c ∷ [])) r.inner p) (found_at (found_in_nabc r.kept c) p); reading = record r { part = read.InNotes line; kept = r.kept ++ c ∷ []; comment = false; inner = cond (not o || in_raw r.kept) r.inner p } }

    inner_then : (o : Bool) → in_raw r.kept ≡ o → (cond o r.inner p).line == 0 ≡ false
    inner_then true e = s.reads.inner_line (rw (z, e) refl)
    inner_then false e = by (p.line) s.fits.line
      where
        by : (n : ℕ) → 1 ≤ n → (n == 0) ≡ false
        by n h = grind (arith, nat_tests)

    keeps_notes : Moves (Some (record { kept = r.kept ++ c ∷ []; inner = cond (in_raw r.kept) r.inner p; comment = false })) (notes.emitted_by macros Keep r.kept r.inner x) (with_fate lines macros b1 x Keep)
    keeps_notes =
        subst (λ (o : Bool). Moves (Some (record { kept = r.kept ++ c ∷ []; inner = cond (in_raw r.kept) r.inner p; comment = false })) (notes.emitted_by macros Keep r.kept r.inner x) (Kept o)) (sym z)
        (subst (λ (es : List NoteEvent). Moves (Some (record { kept = r.kept ++ c ∷ []; inner = cond (in_raw r.kept) r.inner p; comment = false })) (note.Kept x ∷ es) (Kept true)) (sym (notes_within macros (r.kept ++ c ∷ []) r.inner p))
        (keeps (found_within (found_in_notes macros (r.kept ++ c ∷ [])) r.inner p) (cond (in_raw r.kept) r.inner p) (λ h. inner_then (in_raw r.kept) refl)))

    notes_fate : (fate : Fate) → (notes.ends fate ≡ true → ((c == 41) || (c == 124)) ≡ true)
        → Moves (cond (notes.ends fate) None (Some (record { kept = notes.kept_by fate r.kept c; inner = notes.inner_by fate r.kept r.inner p; comment = notes.opens fate }))) (notes.emitted_by macros fate r.kept r.inner x) (with_fate lines macros b1 x fate)
    notes_fate Keep m = keeps_notes
    notes_fate Comment m = still [] true b.found (append-nil b.found)
    notes_fate (LeaveOut None) m = still [] false b.found (append-nil b.found)
    notes_fate (LeaveOut (Some code)) m = still (found_at (code ∷ []) p) false (b.found ++ found_at (code ∷ []) p) refl
    notes_fate Ends m = ends_notes (m refl)

    abbrev Choice : Bool → Fate → List NoteEvent × Option SnippetState
    Choice o fate = cond o ([], Some (record { kept = r.kept; inner = r.inner; comment = true }))
        (notes.emitted_by macros fate r.kept r.inner x, cond (notes.ends fate) None (Some (record { kept = notes.kept_by fate r.kept c; inner = notes.inner_by fate r.kept r.inner p; comment = notes.opens fate })))

    notes_move : (o : Bool) → (r.comment && not (c == 10)) ≡ o → (fate : Fate) → (notes.ends fate ≡ true → ((c == 41) || (c == 124)) ≡ true)
        → Moves (Choice o fate).1 (Choice o fate).0 (cond o b1 (with_fate lines macros b1 x fate))
    notes_move true e fate m =
        subst (λ (o : Bool). Moves (Some (record { kept = r.kept; inner = r.inner; comment = true })) [] (record b { reading = record r { part = read.InNotes line; comment = o } })) (sym (and_parts r.comment (not (c == 10)) e).0)
        (still [] true b.found (append-nil b.found))
    notes_move false e fate m = notes_fate fate m

  -- in NABC
  module _ (z : (line == 0) ≡ false) where
    whole_is_nabc : w ≡ whole_front nabc_table r.kept
    whole_is_nabc = ap (λ (o : Bool). cond o (whole_front gabc r.kept) (whole_front nabc_table r.kept)) z

    first_stays : first_then ≡ g.first_kind
    first_stays = unsounded g.first_kind line (first_note_or_clef (items_of (encode_utf8_all w))) z

    abbrev found_nabc : List Finding
    found_nabc = found_at (nabc_at_end r.kept) p

    abbrev ThenNabc : Bool → BodyRead
    ThenNabc o = past_snippet lines line c (cond o (read.with_sound (first_sound (items_by gabc (whole_front gabc r.kept))) p (with_found (found_at (notes_at_end r.kept) p) b1)) (with_found found_nabc b1))

    ends_nabc : ((c == 41) || (c == 124)) ≡ true → Moves None (nabc.emitted_by Ends r.kept x) (with_fate lines macros b1 x Ends)
    ends_nabc h =
        subst (λ (o : Bool). Moves None (nabc.emitted_by Ends r.kept x) (ThenNabc o)) (sym z)
        (subst (λ (es : List NoteEvent). Moves None (es ++ note.Ended (end_by_mark c) (bytes_in (whole_front nabc_table r.kept)) ∷ []) (ThenNabc false)) (sym (nabc_found (nabc_at_end r.kept) p))
        (ends (bytes_in (whole_front nabc_table r.kept)) found_nabc b.sounded (b.found ++ found_nabc)
        (ap bytes_in (sym whole_is_nabc) ∙ count_nabc w counted)
        (ap is_some first_stays ∙ s.sounded_is)
        (ap (λ (o : Option ItemKind). b.found ++ (found_nabc ++ found_first g.first_kind o p)) first_stays ∙ ap (λ (gs : List Finding). b.found ++ (found_nabc ++ gs)) (silent g.first_kind p) ∙ ap (λ (gs : List Finding). b.found ++ gs) (append-nil found_nabc)) h))

    abbrev KeptNabc : Bool → BodyRead
    KeptNabc o = record b { found = b.found ++ cond o (found_within (found_in_notes macros (r.kept ++ c ∷ [])) r.inner p) (found_at (found_in_nabc r.kept c) p); reading = record r { part = read.InNotes line; kept = r.kept ++ c ∷ []; comment = false; inner = cond (not o || in_raw r.kept) r.inner p } }

    keeps_nabc : Moves (Some (record { kept = r.kept ++ c ∷ []; inner = r.inner; comment = false })) (nabc.emitted_by Keep r.kept x) (with_fate lines macros b1 x Keep)
    keeps_nabc =
        subst (λ (o : Bool). Moves (Some (record { kept = r.kept ++ c ∷ []; inner = r.inner; comment = false })) (nabc.emitted_by Keep r.kept x) (KeptNabc o)) (sym z)
        (subst (λ (es : List NoteEvent). Moves (Some (record { kept = r.kept ++ c ∷ []; inner = r.inner; comment = false })) (note.Kept x ∷ es) (KeptNabc false)) (sym (nabc_found (found_in_nabc r.kept c) p))
        (keeps (found_at (found_in_nabc r.kept c) p) r.inner (λ h. absurd (true≢false (sym (and_parts (line == 0) (in_raw (r.kept ++ c ∷ [])) h).0 ∙ z)))))

    nabc_fate : (fate : Fate) → (notes.ends fate ≡ true → ((c == 41) || (c == 124)) ≡ true)
        → Moves (cond (notes.ends fate) None (Some (record { kept = notes.kept_by fate r.kept c; inner = r.inner; comment = notes.opens fate }))) (nabc.emitted_by fate r.kept x) (with_fate lines macros b1 x fate)
    nabc_fate Keep m = keeps_nabc
    nabc_fate Comment m = still [] true b.found (append-nil b.found)
    nabc_fate (LeaveOut None) m = still [] false b.found (append-nil b.found)
    nabc_fate (LeaveOut (Some code)) m = still (found_at (code ∷ []) p) false (b.found ++ found_at (code ∷ []) p) refl
    nabc_fate Ends m = ends_nabc (m refl)

    -- an LF ends a comment
    line_end : (c == 10) ≡ true → fate_in_nabc r.kept c ≡ LeaveOut None
    line_end e = ap (fate_in_nabc r.kept) (eqb-true c 10 e)

    abbrev ChoiceNabc : Bool → Bool → Fate → List NoteEvent × Option SnippetState
    ChoiceNabc o feed fate = cond o ([], Some (record { kept = r.kept; inner = r.inner; comment = not feed }))
        (nabc.emitted_by fate r.kept x, cond (notes.ends fate) None (Some (record { kept = notes.kept_by fate r.kept c; inner = r.inner; comment = notes.opens fate })))

    nabc_move : (o feed : Bool) → r.comment ≡ o → (c == 10) ≡ feed → (fate : Fate) → (feed ≡ true → fate ≡ LeaveOut None) → (notes.ends fate ≡ true → ((c == 41) || (c == 124)) ≡ true)
        → Moves (ChoiceNabc o feed fate).1 (ChoiceNabc o feed fate).0 (cond (o && not feed) b1 (with_fate lines macros b1 x fate))
    nabc_move true false e f fate l m =
        subst (λ (o : Bool). Moves (Some (record { kept = r.kept; inner = r.inner; comment = true })) [] (record b { reading = record r { part = read.InNotes line; comment = o } })) (sym e)
        (still [] true b.found (append-nil b.found))
    nabc_move true true e f fate l m =
        subst (λ (k : Fate). Moves (Some (record { kept = r.kept; inner = r.inner; comment = false })) [] (with_fate lines macros b1 x k)) (sym (l refl))
        (still [] false b.found (append-nil b.found))
    nabc_move false feed e f fate l m = nabc_fate fate m

  pub move : Moves (step lines macros line (state_of r) x).1 (step lines macros line (state_of r) x).0 (past lines macros b1 x)
  move = by (line == 0) refl
    where
      by : (o : Bool) → (line == 0) ≡ o
          → Moves (cond o (notes_step (nat_lt 0 lines) macros (state_of r) x) (nabc_step (state_of r) x)).1 (cond o (notes_step (nat_lt 0 lines) macros (state_of r) x) (nabc_step (state_of r) x)).0
          (cond (r.comment && not (c == 10)) b1 (with_fate lines macros b1 x (cond o (fate_in_notes (nat_lt 0 lines) r.kept c) (fate_in_nabc r.kept c))))
      by true z = notes_move z (r.comment && not (c == 10)) refl (fate_in_notes (nat_lt 0 lines) r.kept c) (notes_mark (nat_lt 0 lines) r.kept c)
      by false z = nabc_move z r.comment (c == 10) refl refl (fate_in_nabc r.kept c) (line_end z) (nabc_mark r.kept c)

-- a character of a snippet
pub snippet_step : TextsGoByKept → (lines macros : ℕ) (p : Place) (c : ℕ) (t : List ℕ) (line : ℕ) (paren : Place) (state : SnippetState) (b : BodyRead) (g : Gathered) (fs : List Finding)
    → Stands (InNotes line paren state) p (c ∷ t) b g fs
    → let x : Char = record { c = c; place = p } in
    StandsAfter (part_after texts_by_definition lines macros (InNotes line paren state) x (placed_characters_from (next_place p c) t)) (next_place p c) t (past lines macros b x) g fs p (emitted lines macros (InNotes line paren state) x)
snippet_step alike lines macros p c t line paren state b g fs s =
    let x : Char = record { c = c; place = p } in
    let xs = placed_characters_from (next_place p c) t in
    subst (λ (q : Place). StandsAfter (part_after texts_by_definition lines macros (InNotes line q state) x xs) (next_place p c) t (past lines macros b x) g fs p (emitted lines macros (InNotes line q state) x)) (sym s.reads.paren_is)
    (subst (λ (u : SnippetState). StandsAfter (part_after texts_by_definition lines macros (InNotes line b.reading.paren u) x xs) (next_place p c) t (past lines macros b x) g fs p (emitted lines macros (InNotes line b.reading.paren u) x)) (sym s.reads.state_is)
    (subst (λ (q : Part). StandsAfter (part_after texts_by_definition lines macros (InNotes line b.reading.paren (state_of b.reading)) x xs) (next_place p c) t (past lines macros (record b { reading = record b.reading { part = q } }) x) g fs p (emitted lines macros (InNotes line b.reading.paren (state_of b.reading)) x)) (sym s.reads.part_is)
    (move alike lines macros p c t line b g fs (record {
      made_is = s.made_is;
      uncut = s.uncut;
      sounded_is = s.sounded_is;
      found_is = s.found_is;
      fits = s.fits;
      reads = record { part_is = s.reads.part_is; state_is = refl; paren_is = refl; within = s.reads.within; scalar = s.reads.scalar; inner_line = s.reads.inner_line };
    }))))
