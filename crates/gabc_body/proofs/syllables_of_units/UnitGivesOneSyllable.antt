-- A unit gives one syllable, with its last character.
use Rattle.std.proofs.Common.{◌≡◌, ℕ, suc, ◌+◌, ◌<◌, ◌≤◌, ◌^◌, Bool, List, [], ◌∷◌, ◌++◌, map, length, refl, sym, ap, subst, ◌∙◌, arith, append_assoc, length-append, append-nil, take, drop, take_at, drop_at, take-take, take-append-drop, codes}
use Rattle.std.specs.Prelude.{filter}
use Rattle.std.specs.List.{All}
use Rattle.std.proofs.lemmas.Bool.{lt-ltb, cond_both}
use Rattle.std.proofs.lemmas.List.Elements.{All-nil, All-cons, All-head, All-append}
use lib.Utf8.{encodes}
use Rattle.gabc_places.proofs.PushesAreOne.{joined-append}
use Rattle.gabc_places.specs.StageLaw.{concat_of}
use Rattle.gabc_places.specs.declared.place.Place.{Place}
use Rattle.gabc_places.specs.declared.place.Char.{Char}
use Rattle.gabc_text.specs.BuiltText.{with_events, empty_text, text_built_at, found_in}
use Rattle.gabc_text.specs.declared.view.Piece.{Piece}
use Rattle.gabc_text.specs.declared.text_event.TextEnd.TheVariants as text_end
use Rattle.gabc_text.specs.Ends.{EndsOnce}
use Rattle.gabc_text.specs.Events.{codes_of, events_of, events_by_point}
use Rattle.gabc_text.specs.View.{PieceFacts, kept, findings}
use Rattle.gabc_text.specs.ViewFacts.{StandsForView, ArePiecesOf, kept_of_piece, span_tags, is_mark}
use Rattle.gabc_text.specs.TextRead.{view_in}
use Rattle.gabc_text.specs.TextView.{ViewContent}
use Rattle.gabc_notes.specs.ReadAgain.{IsWarning}
use Rattle.gabc_notes.specs.SnippetRead.{findings_of as notes_found}
use Rattle.gabc_body.specs.declared.events.BodyEvent.{BodyEvent}
use Rattle.gabc_body.specs.Body.{events_onto, findings_of, cut_of}
use Rattle.gabc_body.specs.Events.{PartAhead, texts_by_definition, text_from, snippet_from, next_line, after_mark, events_from}
use Rattle.gabc_body.specs.FoundInParts.{TextWarns, SnippetsWarn, snippet_events}
use Rattle.gabc_body.specs.Syllable.{UnplacedSyllable, closes, since_close, kept_of, all_syllables, is_eu, is_nlba, slice, is_open_after}
use Rattle.gabc_body.specs.WithinLimits.{KeepsWithin}
use Rattle.gabc_body.specs.Units.{Opens, Next, Closes, CutPart, EndedPart, BodyUnit, LastUnit, cut_part, whole, events_through, snippets_with, units_pieces, last_characters, Cuts, events_of_cutting}
use Rattle.gabc_body.specs.SpansPast.{open_past, eu_past, nlba_past}
use Rattle.gabc_body.specs.SyllablesOfUnits.{with_ends, snippets_in, characters_in, characters_from, ScoreUnit, score_unit, HoldsUnit}
use Rattle.gabc_body.specs.UnitRead.{first_events, GivesOneSyllable}
use Rattle.gabc_body.proofs.texts_of_body.SeamsOfCharacters.{size}
use Rattle.gabc_body.proofs.holding.SnippetsLieInKeptText.{bytes_stand}
use Rattle.gabc_body.proofs.order.FindingsOfParts.{Warn, found, found_onto, joined_found, snippet_some, text_some}
use Rattle.gabc_body.proofs.stopped_scores.PrefixHasTheSameUnits.{through_length}
use Rattle.gabc_body.proofs.stopped_scores.ClosedWithin.{close_of, close_count, count_one, pieces_count, units_within_are}
use Rattle.gabc_body.proofs.syllables_of_units.LastTagOpensTheSpan.{after_tags}
use Rattle.gabc_body.proofs.syllables_of_units.UnitsGiveSyllables.{through_more, snippets_whole, unit_whole, units_whole, unit_emits}
use Rattle.gabc_body.proofs.snippets_of_body.SnippetEmitsThroughEnd.{line_emitted}
use Rattle.gabc_body.proofs.texts_of_body.TextEmitsThroughEnd.{text_ended}
use Rattle.gabc_body.proofs.holding.SyllablesHoldParts.{fits_prefix, fits_back}
use Rattle.gabc_body.proofs.within_limits.KeptSoFar.{bytes_kept, all_kept, kept_append, kept_few, since_on}
use Rattle.gabc_body.proofs.within_limits.UnitsKeepFew.{line_few, text_few, size_with_end}
use Rattle.gabc_body.proofs.units.BodyHasOneCutting.{cuts_emitted}

-- ---- events

tail_same : (t : BodyEvent) (a b : List BodyEvent) → t ∷ a ≡ t ∷ b → a ≡ b
tail_same t a b e = cc

-- what was emitted before is known from all
onto_cancel : (ts a b : List BodyEvent) → events_onto ts a ≡ events_onto ts b → a ≡ b
onto_cancel [] a b e = e
onto_cancel (t ∷ ts) a b e = tail_same t a b (onto_cancel ts (t ∷ a) (t ∷ b) e)

-- where no `)` is emitted no syllable is made
none_made : (ts before : List BodyEvent) → close_count ts ≡ 0 → all_syllables (events_onto ts before) ≡ all_syllables before
none_made [] before h = refl
none_made (t ∷ ts) before h =
    let all : close_count (t ∷ ts) ≡ close_of t + close_count ts = count_one t ts in
    let here : close_of t ≡ 0 = omega arith in
    let later : close_count ts ≡ 0 = omega arith in
    none_made ts (t ∷ before) later ∙ cond_both (closes t) _ _ (λ (ms : List UnplacedSyllable). ms ≡ all_syllables before) (λ e. absurd (omega (arith, rw e at here))) (λ e. refl)

-- no syllable that is made by these events keeps more than that, if they do not, with what has been kept since the last `)`
record MadeFew (limit : ℕ) (before after : List UnplacedSyllable) : Type 0 where
  more : List UnplacedSyllable
  made_are : after ≡ before ++ more
  few : All (λ (m : UnplacedSyllable). length m.kept ≤ limit) more

one_few : (limit : ℕ) (t : BodyEvent) (before : List BodyEvent) → bytes_kept t + all_kept (since_close before) ≤ limit → MadeFew limit (all_syllables before) (all_syllables (t ∷ before))
one_few limit t before h =
    let kept : length (kept_of (t ∷ since_close before)) ≤ limit = let k = kept_few (t ∷ since_close before) in omega arith in
    let none = All-nil (λ (m : UnplacedSyllable). length m.kept ≤ limit) in
    cond_both (closes t) _ _ (MadeFew limit (all_syllables before)) (λ e. record { more = _ ∷ []; made_are = refl; few = All-cons (λ (m : UnplacedSyllable). length m.kept ≤ limit) _ [] kept none })
    (λ e. record { more = []; made_are = sym (append-nil (all_syllables before)); few = none })

made_few : (limit : ℕ) (ts before : List BodyEvent) → all_kept (since_close before) + all_kept ts ≤ limit → MadeFew limit (all_syllables before) (all_syllables (events_onto ts before))
made_few limit [] before h = record { more = []; made_are = sym (append-nil (all_syllables before)); few = All-nil (λ (m : UnplacedSyllable). length m.kept ≤ limit) }
made_few limit (t ∷ ts) before h =
    let one = one_few limit t before (omega (arith, h)) in
    let on : all_kept (since_close (events_onto (t ∷ []) before)) ≤ all_kept (since_close before) + all_kept (t ∷ []) = since_on (t ∷ []) before in
    let r = made_few limit ts (t ∷ before) (omega (arith, h, on)) in
    record {
      more = one.more ++ r.more;
      made_are = r.made_are ∙ ap (λ (ms : List UnplacedSyllable). ms ++ r.more) one.made_are ∙ append_assoc (all_syllables before) one.more r.more;
      few = All-append (λ (m : UnplacedSyllable). length m.kept ≤ limit) one.more r.more one.few r.few;
    }

-- what stands after a list is known from all
rest_same : (ms xs ys : List UnplacedSyllable) → ms ++ xs ≡ ms ++ ys → xs ≡ ys
rest_same ms xs ys e = sym (drop_at ms xs (length ms) refl) ∙ ap (drop (length ms)) e ∙ drop_at ms ys (length ms) refl

joined_kept : (xs ys : List (List BodyEvent)) → all_kept (concat_of (xs ++ ys)) ≡ all_kept (concat_of xs) + all_kept (concat_of ys)
joined_kept xs ys = ap all_kept (joined-append xs ys) ∙ kept_append (concat_of xs) (concat_of ys)

-- some of the events keep no more than all
some_kept : (n : ℕ) (lists : List (List BodyEvent)) → all_kept (concat_of (take n lists)) ≤ all_kept (concat_of lists)
some_kept n lists =
    let parts = joined_kept (take n lists) (drop n lists) in
    let all = ap (λ (ls : List (List BodyEvent)). all_kept (concat_of ls)) (take-append-drop n lists) in
    omega (arith, parts, all)

-- ---- spans

abbrev tags_of : List PieceFacts → List (List ℕ)
tags_of qs = map (λ (p : PieceFacts). p.text) (filter (λ (p : PieceFacts). is_mark p.kind) qs)

module _ (opening closing whole : List ℕ) where
  piece_past : (p : Piece) (q : PieceFacts) (was : Bool) → p.kind ≡ q.kind → slice p.span (encodes whole) ≡ encodes (kept_of_piece q)
      → is_open_after opening closing was p.kind (slice p.span (encodes whole)) ≡ after_tags opening closing was (tags_of (q ∷ []))
  piece_past p q was kind spelled = grind arith

  tags_past : (was : Bool) (q : PieceFacts) (qs : List PieceFacts) → after_tags opening closing (after_tags opening closing was (tags_of (q ∷ []))) (tags_of qs) ≡ after_tags opening closing was (tags_of (q ∷ qs))
  tags_past was q qs = grind arith

  -- after pieces a span is open as after the tags among what they say
  pieces_past : (ps : List Piece) (qs : List PieceFacts) (was : Bool) → ArePiecesOf whole ps qs → open_past opening closing (encodes whole) ps was ≡ after_tags opening closing was (tags_of qs)
  pieces_past [] [] was h = refl
  pieces_past [] (q ∷ qs) was h = absurd h
  pieces_past (p ∷ ps) [] was h = absurd h
  pieces_past (p ∷ ps) (q ∷ qs) was h =
      pieces_past ps qs (is_open_after opening closing was p.kind (slice p.span (encodes whole))) h.1
      ∙ ap (λ (b : Bool). after_tags opening closing b (tags_of qs)) (piece_past p q was h.0.kind_is (bytes_stand whole p.span (kept_of_piece q) h.0.stands))
      ∙ tags_past was q qs

-- after the pieces of a view that stand for a text a span is open as after the tags of the text
pub view_past : (opening closing whole t : List ℕ) (v : ViewContent) (was : Bool) → StandsForView whole v t → open_past opening closing (encodes whole) v.pieces was ≡ after_tags opening closing was (span_tags t)
view_past opening closing whole t v was h = pieces_past opening closing whole v.pieces _ was h.pieces

-- so after a syllable of a unit
pub unit_past : (opening closing : List ℕ) (lines : ℕ) (u : ScoreUnit) (m : UnplacedSyllable) (was : Bool) → HoldsUnit lines u m
    → open_past opening closing m.kept m.text.pieces was ≡ after_tags opening closing was (span_tags u.text)
unit_past opening closing lines u m was h = grind (arith, view_past)

-- ---- the lists of a unit

-- These lists are one for each of n characters and then those. What is found in the first are warnings, if so much is known, and they keep no more than that, where the parts are cut so.
pub record Front (n bytes : ℕ) (Known Cut : Type 0) (all later : List (List BodyEvent)) : Type 0 where
  pub front : List (List BodyEvent)
  pub all_is : all ≡ front ++ later
  pub count : length front ≡ n
  pub warns : Known → Warn (found (concat_of front))
  pub few : Cut → all_kept (concat_of front) ≤ bytes

module _ (lines macros : ℕ) where
  abbrev pub lists_of : PartAhead → List CutPart → List Char → List (List BodyEvent)
  lists_of part pieces last = events_of_cutting texts_by_definition lines macros part pieces last

  -- texts end once and build their view, and the characters are few and cut so
  abbrev pub IsCutShort : PartAhead → List CutPart → List Char → Type 0
  IsCutShort part pieces last = ((at : Place) (t : List ℕ) → EndsOnce at t) × ((at : Place) (t : List ℕ) → with_events empty_text (concat_of (events_by_point at t)) ≡ text_built_at at t)
      × (size (codes_of (whole pieces last)) < 2 ^ 63) × Cuts texts_by_definition lines macros part pieces last

  notes_front : (nexts : List EndedPart) (final : EndedPart) (more : List CutPart) (last : List Char) (line : ℕ) (opened : Place)
      → (let pieces = snippets_with lines line opened nexts (cut_part final Closes ∷ more) in
      Front (length (with_ends (nexts ++ final ∷ []))) (size (codes_of (with_ends (nexts ++ final ∷ [])))) (SnippetsWarn lines macros line (nexts ++ final ∷ []) (whole more last))
      (IsCutShort (snippet_from lines macros line opened (whole pieces last)) pieces last) (lists_of (snippet_from lines macros line opened (whole pieces last)) pieces last)
      (lists_of (text_from texts_by_definition (after_mark final.end.place) (whole more last)) more last))
  notes_front [] final more last line opened =
      let xs = final.characters ++ final.end ∷ whole more last in
      let part = snippet_from lines macros line opened xs in
      let size_is : length (events_through part final.characters) ≡ suc (length final.characters) = through_length part final.characters in
      let all : length (final.characters ++ final.end ∷ []) ≡ length final.characters + 1 = length-append final.characters (final.end ∷ []) in
      record {
        front = events_through part final.characters;
        all_is = refl;
        count = omega arith;
        warns = λ h. snippet_some line opened (snippet_events lines macros line xs) final.characters h.0;
        few = λ h.
            let rest = whole more last in
            let l = line_emitted lines macros opened line final.characters final.end rest Closes (fits_prefix final.characters (final.end ∷ rest) h.2) h.3.0 in
            let now = line_few lines line opened final.characters final.end Closes (concat_of (events_through part final.characters)) l in
            omega (arith, now, size_with_end final.characters final.end []);
      }
  notes_front (e ∷ nexts) final more last line opened =
      let next = next_line lines line in
      let pieces = snippets_with lines next opened nexts (cut_part final Closes ∷ more) in
      let rest = whole pieces last in
      let xs = e.characters ++ e.end ∷ rest in
      let part = snippet_from lines macros line opened xs in
      let first = events_through part e.characters in
      let r = notes_front nexts final more last next opened in
      let rest_is : rest ≡ with_ends (nexts ++ final ∷ []) ++ whole more last = snippets_whole lines next opened nexts final more last in
      let size_is : length first ≡ suc (length e.characters) = through_length part e.characters in
      let all : length (e.characters ++ e.end ∷ with_ends (nexts ++ final ∷ [])) ≡ length e.characters + suc (length (with_ends (nexts ++ final ∷ []))) = length-append e.characters (e.end ∷ with_ends (nexts ++ final ∷ [])) in
      let both : length (first ++ r.front) ≡ length first + length r.front = length-append first r.front in
      let later = r.count in
      record {
        front = first ++ r.front;
        all_is = ap (λ (ls : List (List BodyEvent)). first ++ ls) r.all_is ∙ sym (append_assoc first r.front _);
        count = omega arith;
        few = λ h.
            let l = line_emitted lines macros opened line e.characters e.end rest (Next next opened) (fits_prefix e.characters (e.end ∷ rest) h.2) h.3.0 in
            let now = line_few lines line opened e.characters e.end (Next next opened) (concat_of first) l in
            let on = r.few (h.0, h.1, fits_back (e.end ∷ []) rest (fits_back e.characters (e.end ∷ rest) h.2), h.3.1) in
            omega (arith, now, size_with_end e.characters e.end (with_ends (nexts ++ final ∷ [])), on, joined_kept first r.front);
        warns = λ h. subst Warn (sym (joined_found first r.front))
            (All-append IsWarning (found (concat_of first)) (found (concat_of r.front))
            (snippet_some line opened (snippet_events lines macros line xs) e.characters
            (subst (λ (ys : List Char). Warn (notes_found (concat_of (snippet_events lines macros line (e.characters ++ e.end ∷ ys))))) (sym rest_is) h.0))
            (r.warns h.1));
      }

  -- they are what its characters emit
  first_is : (xs : List Char) (n : ℕ) (at : Place) (front later : List (List BodyEvent)) → events_from texts_by_definition lines macros (text_from texts_by_definition at xs) xs ≡ front ++ later → length front ≡ n
      → first_events lines macros at xs n ≡ concat_of front
  first_is xs n at front later e k = ap (λ (ls : List (List BodyEvent)). concat_of (take n ls)) e ∙ ap concat_of (take_at front later n k)

module _ (all_found : (at : Place) (t : List ℕ) → found_in (concat_of (events_by_point at t)) ≡ findings at t) (lines macros : ℕ) where
  pub unit_front : (at : Place) (u : BodyUnit) (more : List CutPart) (last : List Char)
      → (let pieces = cut_part u.text Opens ∷ snippets_with lines 0 u.text.end.place u.nexts (cut_part u.final Closes ∷ more) in
      let v = score_unit u (whole more last) in
      Front (length (characters_in u)) (size (kept v.text) + size v.notes) (TextWarns v.text × SnippetsWarn lines macros 0 (snippets_in u) (whole more last))
      (IsCutShort lines macros (text_from texts_by_definition at (whole pieces last)) pieces last) (lists_of lines macros (text_from texts_by_definition at (whole pieces last)) pieces last)
      (lists_of lines macros (text_from texts_by_definition (after_mark u.final.end.place) (whole more last)) more last))
  unit_front at u more last =
      let pieces = snippets_with lines 0 u.text.end.place u.nexts (cut_part u.final Closes ∷ more) in
      let xs = u.text.characters ++ u.text.end ∷ whole pieces last in
      let part = text_from texts_by_definition at xs in
      let first = events_through part u.text.characters in
      let r = notes_front lines macros u.nexts u.final more last 0 u.text.end.place in
      let text_is : codes_of xs ≡ (score_unit u (whole more last)).text = ap codes_of (unit_whole lines u more last) in
      let size_is : length first ≡ suc (length u.text.characters) = through_length part u.text.characters in
      let all : length (characters_in u) ≡ length u.text.characters + suc (length (with_ends (snippets_in u))) = length-append u.text.characters (u.text.end ∷ with_ends (snippets_in u)) in
      let both : length (first ++ r.front) ≡ length first + length r.front = length-append first r.front in
      let later = r.count in
      record {
        front = first ++ r.front;
        all_is = ap (λ (ls : List (List BodyEvent)). first ++ ls) r.all_is ∙ sym (append_assoc first r.front _);
        count = omega arith;
        warns = λ h. subst Warn (sym (joined_found first r.front))
            (All-append IsWarning (found (concat_of first)) (found (concat_of r.front))
            (text_some (events_by_point at (codes_of xs)) u.text.characters (subst Warn (sym (all_found at (codes_of xs) ∙ ap (findings at) text_is)) (h.0 at)))
            (r.warns h.1));
        few = λ h.
            let rest = whole pieces last in
            let e = text_ended h.0 h.1 lines at u.text.characters u.text.end rest Opens h.3.0 in
            let now = text_few (codes_of xs) text_end.Notes (concat_of first) e.0 in
            let same = ap (λ (t : List ℕ). size (kept t)) text_is in
            let on = r.few (h.0, h.1, fits_back (u.text.end ∷ []) rest (fits_back u.text.characters (u.text.end ∷ rest) h.2), h.3.1) in
            omega (arith, now, same, size_with_end [] u.text.end (with_ends (snippets_in u)), on, joined_kept first r.front);
      }

module _ (ends : (at : Place) (t : List ℕ) → EndsOnce at t) (emits : (at : Place) (t : List ℕ) → with_events empty_text (concat_of (events_by_point at t)) ≡ text_built_at at t)
    (spans : (t : List ℕ) → StandsForView (kept t) (view_in t) t) (in_order : (at : Place) (t : List ℕ) → concat_of (events_by_point at t) ≡ events_of at t)
    (all_found : (at : Place) (t : List ℕ) → found_in (concat_of (events_by_point at t)) ≡ findings at t) (lines macros : ℕ) where
  module _ (at : Place) (u : BodyUnit) (units : List BodyUnit) (last : LastUnit) (fits : size (codes_of (characters_from (u ∷ units) last)) < 2 ^ 63)
      (cuts : Cuts texts_by_definition lines macros (text_from texts_by_definition at (characters_from (u ∷ units) last)) (units_pieces lines (u ∷ units) last) (last_characters last)) where
    abbrev further : List Char
    further = characters_from units last

    abbrev all : List Char
    all = characters_in u ++ further

    abbrev more : List CutPart
    more = units_pieces lines units last

    abbrev pieces : List CutPart
    pieces = units_pieces lines (u ∷ units) last

    abbrev end : List Char
    end = last_characters last

    whole_is : whole pieces end ≡ all
    whole_is = units_whole lines (u ∷ units) last

    after_is : whole more end ≡ further
    after_is = units_whole lines units last

    cut : Cuts texts_by_definition lines macros (text_from texts_by_definition at (whole pieces end)) pieces end
    cut = subst (λ (ys : List Char). Cuts texts_by_definition lines macros (text_from texts_by_definition at ys) pieces end) (sym whole_is) cuts

    short : size (codes_of (whole pieces end)) < 2 ^ 63
    short = subst (λ (ys : List Char). size (codes_of ys) < 2 ^ 63) (sym whole_is) fits

    lists_are : events_from texts_by_definition lines macros (text_from texts_by_definition at all) all ≡ lists_of lines macros (text_from texts_by_definition at (whole pieces end)) pieces end
    lists_are =
        rw (← whole_is) (cuts_emitted texts_by_definition lines macros (text_from texts_by_definition at (whole pieces end)) pieces end tt cut)

    abbrev parts : Front (length (characters_in u)) (size (kept (score_unit u (whole more end)).text) + size (score_unit u (whole more end)).notes)
        (TextWarns (score_unit u (whole more end)).text × SnippetsWarn lines macros 0 (snippets_in u) (whole more end)) (IsCutShort lines macros (text_from texts_by_definition at (whole pieces end)) pieces end)
        (lists_of lines macros (text_from texts_by_definition at (whole pieces end)) pieces end)
        (lists_of lines macros (text_from texts_by_definition (after_mark u.final.end.place) (whole more end)) more end)
    parts = unit_front all_found lines macros at u more end

    emitted_is : first_events lines macros at all (length (characters_in u)) ≡ concat_of parts.front
    emitted_is = first_is lines macros all (length (characters_in u)) at parts.front _ (lists_are ∙ parts.all_is) parts.count

    pub unit_warns : TextWarns (score_unit u further).text → SnippetsWarn lines macros 0 (snippets_in u) further → Warn (findings_of (events_onto (first_events lines macros at all (length (characters_in u))) []))
    unit_warns h k =
        subst Warn (sym (ap (λ (ts : List BodyEvent). findings_of (events_onto ts [])) emitted_is ∙ found_onto (concat_of parts.front) []))
        (parts.warns (subst (λ (ys : List Char). TextWarns (score_unit u ys).text × SnippetsWarn lines macros 0 (snippets_in u) ys) (sym after_is) (h, k)))

    pub one_syllable : (before : List BodyEvent) → since_close before ≡ [] → GivesOneSyllable lines macros at u further before
    one_syllable before since =
        let g = unit_emits ends emits spans in_order lines macros at u more end before since short cut in
        let later = concat_of (lists_of lines macros (text_from texts_by_definition (after_mark u.final.end.place) (whole more end)) more end) in
        let mid_is : events_onto (first_events lines macros at all (length (characters_in u))) before ≡ g.mid =
        ap (λ (ts : List BodyEvent). events_onto ts before) emitted_is
        ∙ onto_cancel later (events_onto (concat_of parts.front) before) g.mid
        (sym (through_more parts.front (lists_of lines macros (text_from texts_by_definition (after_mark u.final.end.place) (whole more end)) more end) before)
        ∙ ap (λ (ls : List (List BodyEvent)). events_onto (concat_of ls) before) (sym parts.all_is) ∙ g.events_are) in
        let holds : HoldsUnit lines (score_unit u further) g.step.made = subst (λ (ys : List Char). HoldsUnit lines (score_unit u ys) g.step.made) after_is g.step.holds in
        let tags : span_tags (score_unit u (whole more end)).text ≡ span_tags (score_unit u further).text = ap (λ (ys : List Char). span_tags (score_unit u ys).text) after_is in
        let eu_is : g.step.made.eu ≡ eu_past g.step.made (is_eu before) =
        g.step.made_eu ∙ ap (after_tags (codes "<eu>") (codes "</eu>") (is_eu before)) tags ∙ sym (unit_past (codes "<eu>") (codes "</eu>") lines (score_unit u further) g.step.made (is_eu before) holds) in
        let nlba_is : g.step.made.nlba ≡ nlba_past g.step.made (is_nlba before) =
        g.step.made_nlba ∙ ap (after_tags (codes "<nlba>") (codes "</nlba>") (is_nlba before)) tags ∙ sym (unit_past (codes "<nlba>") (codes "</nlba>") lines (score_unit u further) g.step.made (is_nlba before) holds) in
        record {
          made = g.step.made;
          none_earlier = λ n few. none_made (first_events lines macros at all n) before (none_within n few);
          given = ap all_syllables mid_is ∙ g.step.made_is;
          nothing_after = ap since_close mid_is ∙ g.step.since;
          holds = holds;
          few_on_the_way = λ limit n few small. few_kept limit n few small;
          few = λ limit k. few_made limit k g.step.made (ap all_syllables mid_is ∙ g.step.made_is);
          eu_is = eu_is;
          nlba_is = nlba_is;
          open_eu = ap is_eu mid_is ∙ g.step.eu ∙ sym g.step.made_eu;
          open_nlba = ap is_nlba mid_is ∙ g.step.nlba ∙ sym g.step.made_nlba;
          uncut = ap cut_of mid_is ∙ g.step.uncut;
        }
      where
        total : (limit : ℕ) → KeepsWithin limit (score_unit u further) → all_kept (first_events lines macros at all (length (characters_in u))) ≤ limit
        total limit few =
            let few_there : KeepsWithin limit (score_unit u (whole more end)) = subst (λ (ys : List Char). KeepsWithin limit (score_unit u ys)) (sym after_is) few in
            rw emitted_is (let bound = parts.few (ends, emits, short, cut) in omega (arith, bound, few_there))

        few_kept : (limit n : ℕ) → KeepsWithin limit (score_unit u further) → n ≤ length (characters_in u) → length (kept_of (since_close (events_onto (first_events lines macros at all n) before))) ≤ limit
        few_kept limit n few small =
            let lists = events_from texts_by_definition lines macros (text_from texts_by_definition at all) all in
            let ts = first_events lines macros at all n in
            let after : length (kept_of (since_close (events_onto ts before))) ≤ all_kept (since_close (events_onto ts before)) = kept_few (since_close (events_onto ts before)) in
            let on : all_kept (since_close (events_onto ts before)) ≤ all_kept (since_close before) + all_kept ts = since_on ts before in
            let some = rw (take-take n (length (characters_in u)) lists small) at (some_kept n (take (length (characters_in u)) lists)) in
            let bound : all_kept (first_events lines macros at all (length (characters_in u))) ≤ limit = total limit few in
            omega (arith, after, on, some, bound, ap all_kept since)

        few_made : (limit : ℕ) → KeepsWithin limit (score_unit u further) → (made : UnplacedSyllable)
            → all_syllables (events_onto (first_events lines macros at all (length (characters_in u))) before) ≡ all_syllables before ++ made ∷ [] → length made.kept ≤ limit
        few_made limit few made given =
            let bound : all_kept (first_events lines macros at all (length (characters_in u))) ≤ limit = total limit few in
            let m = made_few limit (first_events lines macros at all (length (characters_in u))) before (omega (arith, bound, ap all_kept since)) in
            let Few : UnplacedSyllable → Type 0 = λ (m : UnplacedSyllable). length m.kept ≤ limit in
            All-head Few made [] (subst (All Few) (rest_same (all_syllables before) m.more (made ∷ []) (sym m.made_are ∙ given)) m.few)

        none_within : (n : ℕ) → n < length (characters_in u) → close_count (first_events lines macros at all n) ≡ 0
        none_within n few =
            let size_is : length (whole pieces end) ≡ length (characters_in u) + length further = ap (length {A = Char}) whole_is ∙ length-append (characters_in u) further in
            let some : n ≤ length (whole pieces end) = omega arith in
            ap (λ (ls : List (List BodyEvent)). close_count (concat_of (take n ls))) lists_are
            ∙ pieces_count lines macros (text_from texts_by_definition at (whole pieces end)) pieces end tt short cut n some
            ∙ units_within_are lines (u ∷ units) last n
            ∙ rw (lt-ltb n (length (characters_in u)) few) refl
