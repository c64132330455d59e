-- While the units of a body are read, no more is kept at any point than the unit keeps in all.
use Rattle.std.proofs.Common.{◌≡◌, ℕ, ◌+◌, ◌<◌, ◌≤◌, ◌^◌, List, [], ◌∷◌, ◌++◌, length, map, refl, sym, ap, subst, ◌∙◌, arith, length-append}
use Rattle.std.specs.List.{All}
use Rattle.std.proofs.lemmas.List.Elements.{All-head, All-tail}
use Rattle.std.proofs.lemmas.Str.{length-encode, len_utf8_bounds}
use lib.Utf8.{encode}
use Rattle.gabc_places.specs.StageLaw.{concat_of}
use Rattle.gabc_places.specs.declared.place.Place.{Place}
use Rattle.gabc_places.specs.declared.place.Char.{Char}
use Rattle.gabc_text.specs.BuiltText.{BuiltText as Gathered, with_events, with_event, empty_text, text_built_at}
use Rattle.gabc_text.specs.Ends.{EndsOnce, ends_in}
use Rattle.gabc_text.specs.Events.{codes_of, events_by_point}
use Rattle.gabc_text.specs.View.{kept}
use Rattle.gabc_text.specs.declared.text_event.TextEnd.{TextEnd}
use Rattle.gabc_text.specs.declared.text_event.TextEnd.TheVariants as text_end
use Rattle.gabc_text.specs.declared.text_event.TextEvent.{TextEvent}
use Rattle.gabc_text.specs.declared.text_event.TextEvent.TheVariants as text
use Rattle.gabc_notes.specs.declared.stage.NoteEnd.{NoteEnd}
use Rattle.gabc_notes.specs.declared.stage.NoteEvent.{NoteEvent}
use Rattle.gabc_notes.specs.declared.stage.NoteEvent.TheVariants as note
use Rattle.gabc_notes.specs.SnippetRead.{kept_of as kept_in_notes, ends_of}
use Rattle.gabc_body.specs.declared.events.BodyEvent.{BodyEvent}
use Rattle.gabc_body.specs.declared.events.BodyEvent.TheVariants.{Text, Notes}
use Rattle.gabc_body.specs.Body.{events_onto}
use Rattle.gabc_body.specs.Events.{InText, note_event, texts_by_definition, text_from, snippet_from, next_line, after_mark}
use Rattle.gabc_body.specs.Syllable.{since_close}
use Rattle.gabc_body.specs.SyllablesOfUnits.{score_unit, with_ends, snippets_in, characters_in, closed_units, characters_from}
use Rattle.gabc_body.specs.Units.{Mark, Opens, Next, Closes, CutPart, EndedPart, BodyUnit, LastUnit, cut_part, whole, events_through, snippets_with, last_pieces, units_pieces, last_characters, Cuts, events_of_cutting}
use Rattle.gabc_body.specs.WithinLimits.{KeepsWithin}
use Rattle.gabc_body.specs.witness.TextEvents.{text_events}
use Rattle.gabc_body.proofs.texts_of_body.SeamsOfCharacters.{size, size_append}
use Rattle.gabc_body.proofs.texts_of_body.TextEmitsThroughEnd.{TextEmitted, codes_append, text_ended}
use Rattle.gabc_body.proofs.emitted.EventsOfSyllableParts.{onto_append}
use Rattle.gabc_body.proofs.holding.SyllablesHoldParts.{fits_prefix, fits_back}
use Rattle.gabc_body.proofs.snippets_of_body.SnippetEmitsThroughEnd.{LineEmitted, line_emitted}
use Rattle.gabc_body.proofs.syllables_of_units.UnitsGiveSyllables.{through_more, all_events, unit_whole, units_whole}
use Rattle.gabc_body.proofs.within_limits.KeptSoFar.{bytes_kept, all_kept, kept_append, since_on, text_end_keeps, StaysWithin, stays_on}

-- ---- texts

-- the events of a text keep what they gather
text_keeps : (os : List TextEvent) (g : Gathered) → ends_in os ≡ [] → length g.kept + all_kept (text_events os) ≡ length (with_events g os).kept
text_keeps [] g h = omega arith
text_keeps (text.Kept x ∷ os) g h = omega (arith, text_keeps os (with_event g (text.Kept x)) h, length-append g.kept (encode x.c))
text_keeps (text.Ended how ∷ os) g h = cc
text_keeps (o ∷ os) g h = let on : length g.kept + all_kept (text_events os) ≡ length (with_events g (o ∷ os)).kept = text_keeps os (with_event g o) h in omega arith

-- a text keeps its kept text, and its `(` if it has one
pub text_few : (t : List ℕ) (how : TextEnd) (events : List BodyEvent) → TextEmitted t how events → all_kept events ≤ size (kept t) + 1
text_few t how events e =
    let all : all_kept events ≡ all_kept (text_events e.mids) + all_kept (Text (text.Ended how) ∷ []) = ap all_kept e.emitted_are ∙ kept_append (text_events e.mids) (Text (text.Ended how) ∷ []) in
    let kept_is : length (with_events empty_text e.mids).kept ≡ size (kept t) = ap length e.kept_is in
    omega (arith, text_keeps e.mids empty_text e.silent, text_end_keeps how)

-- ---- snippets

-- the events of a snippet before its end keep what they say
notes_keep : (line : ℕ) (opened : Place) (os : List NoteEvent) → ends_of os ≡ [] → all_kept (map (note_event line opened) os) ≡ size (kept_in_notes os)
notes_keep line opened [] h = refl
notes_keep line opened (note.Kept x ∷ os) h = grind (arith, notes_keep line opened os h, length-append)
notes_keep line opened (note.Found f ∷ os) h = let on : all_kept (map (note_event line opened) os) ≡ size (kept_in_notes os) = notes_keep line opened os h in omega arith
notes_keep line opened (note.Ended how n ∷ os) h = cc

mark_keeps : (line n : ℕ) (how : NoteEnd) → bytes_kept (Notes line (note.Ended how n)) ≤ 1
mark_keeps line n how = grind arith

-- a snippet keeps no more than its characters, and its mark
pub line_few : (lines line : ℕ) (opened : Place) (prefix : List Char) (end : Char) (mark : Mark) (events : List BodyEvent) → LineEmitted lines line opened prefix end mark events
    → all_kept events ≤ size (codes_of prefix) + 1
line_few lines line opened prefix end mark events l =
    let last = Notes line (note.Ended l.how (size l.kept)) in
    let all : all_kept events ≡ all_kept (map (note_event line opened) l.mids) + all_kept (last ∷ []) = ap all_kept l.emitted_are ∙ kept_append (map (note_event line opened) l.mids) (last ∷ []) in
    omega (arith, notes_keep line opened l.mids l.silent, mark_keeps line (size l.kept) l.how)

-- after a `)` nothing is kept
closed_since : (lines line : ℕ) (opened : Place) (prefix : List Char) (end : Char) (events before : List BodyEvent) → LineEmitted lines line opened prefix end Closes events → since_close (events_onto events before) ≡ []
closed_since lines line opened prefix end events before l = grind (arith, onto_append)

-- ---- units

one_byte : (c : ℕ) → 1 ≤ length (encode c)
one_byte c = omega (arith, length-encode c, (len_utf8_bounds c).0)

-- the bytes of characters, of a part that ends at a character
pub size_with_end : (xs : List Char) (x : Char) (ys : List Char) → size (codes_of xs) + 1 + size (codes_of ys) ≤ size (codes_of (xs ++ x ∷ ys))
size_with_end xs x ys = grind (arith, codes_append, size_append, length-append, one_byte)

-- after these parts the text goes on with `more`, and so far no more is kept than that
record StaysOn (lines macros limit : ℕ) (all : List BodyEvent) (more : List CutPart) (last : List Char) (at : Place) : Type 0 where
  mid : List BodyEvent
  stays : StaysWithin limit mid
  since : since_close mid ≡ []
  events_are : all ≡ all_events lines macros (text_from texts_by_definition at (whole more last)) more last mid
  cuts : Cuts texts_by_definition lines macros (text_from texts_by_definition at (whole more last)) more last

module _ (ends : (at : Place) (t : List ℕ) → EndsOnce at t) (emits : (at : Place) (t : List ℕ) → with_events empty_text (concat_of (events_by_point at t)) ≡ text_built_at at t) (lines macros limit : ℕ) where
  notes_stay : (nexts : List EndedPart) (final : EndedPart) (more : List CutPart) (last : List Char) (line : ℕ) (opened_at : Place) (before : List BodyEvent)
      → (let pieces = snippets_with lines line opened_at nexts (cut_part final Closes ∷ more) in let xs = whole pieces last in let part = snippet_from lines macros line opened_at xs in
      size (codes_of xs) < 2 ^ 63 → Cuts texts_by_definition lines macros part pieces last → StaysWithin limit before
      → all_kept (since_close before) + size (codes_of (with_ends (nexts ++ final ∷ []))) ≤ limit
      → StaysOn lines macros limit (all_events lines macros part pieces last before) more last (after_mark final.end.place))
  notes_stay [] final more last line opened_at before fits h stays few =
      let rest = whole more last in
      let part = snippet_from lines macros line opened_at (final.characters ++ final.end ∷ rest) in
      let events = concat_of (events_through part final.characters) in
      let l = line_emitted lines macros opened_at line final.characters final.end rest Closes (fits_prefix final.characters (final.end ∷ rest) fits) h.0 in
      let few_now : all_kept events ≤ size (codes_of final.characters) + 1 = line_few lines line opened_at final.characters final.end Closes events l in
      let size_is : size (codes_of final.characters) + 1 + size (codes_of []) ≤ size (codes_of (with_ends (final ∷ []))) = size_with_end final.characters final.end [] in
      record {
        mid = events_onto events before;
        stays = stays_on limit events before stays (omega arith);
        since = closed_since lines line opened_at final.characters final.end events before l;
        events_are = through_more (events_through part final.characters) (events_of_cutting texts_by_definition lines macros (text_from texts_by_definition (after_mark final.end.place) rest) more last) before;
        cuts = h.1;
      }
  notes_stay (e ∷ nexts) final more last line opened_at before fits h stays few =
      let next = next_line lines line in
      let pieces = snippets_with lines next opened_at nexts (cut_part final Closes ∷ more) in
      let rest = whole pieces last in
      let part = snippet_from lines macros line opened_at (e.characters ++ e.end ∷ rest) in
      let events = concat_of (events_through part e.characters) in
      let l = line_emitted lines macros opened_at line e.characters e.end rest (Next next opened_at) (fits_prefix e.characters (e.end ∷ rest) fits) h.0 in
      let few_now : all_kept events ≤ size (codes_of e.characters) + 1 = line_few lines line opened_at e.characters e.end (Next next opened_at) events l in
      let size_is : size (codes_of e.characters) + 1 + size (codes_of (with_ends (nexts ++ final ∷ []))) ≤ size (codes_of (with_ends ((e ∷ nexts) ++ final ∷ []))) =
      size_with_end e.characters e.end (with_ends (nexts ++ final ∷ [])) in
      let after : all_kept (since_close (events_onto events before)) ≤ all_kept (since_close before) + all_kept events = since_on events before in
      let r = notes_stay nexts final more last next opened_at (events_onto events before) (fits_back (e.end ∷ []) rest (fits_back e.characters (e.end ∷ rest) fits)) h.1
      (stays_on limit events before stays (omega arith)) (omega arith) in
      record {
        mid = r.mid;
        stays = r.stays;
        since = r.since;
        events_are = through_more (events_through part e.characters) (events_of_cutting texts_by_definition lines macros (snippet_from lines macros next opened_at rest) pieces last) before ∙ r.events_are;
        cuts = r.cuts;
      }

  unit_stays : (at : Place) (u : BodyUnit) (more : List CutPart) (last : List Char) (before : List BodyEvent) → since_close before ≡ []
      → (let pieces = cut_part u.text Opens ∷ snippets_with lines 0 u.text.end.place u.nexts (cut_part u.final Closes ∷ more) in let xs = whole pieces last in
      size (codes_of xs) < 2 ^ 63 → Cuts texts_by_definition lines macros (text_from texts_by_definition at xs) pieces last → StaysWithin limit before → KeepsWithin limit (score_unit u (whole more last))
      → StaysOn lines macros limit (all_events lines macros (text_from texts_by_definition at xs) pieces last before) more last (after_mark u.final.end.place))
  unit_stays at u more last before since fits h stays few =
      let prefix = u.text.characters in
      let end = u.text.end in
      let pieces = snippets_with lines 0 end.place u.nexts (cut_part u.final Closes ∷ more) in
      let rest = whole pieces last in
      let xs = prefix ++ end ∷ rest in
      let part = InText (texts_by_definition at xs) in
      let events = concat_of (events_through part prefix) in
      let v = score_unit u (whole more last) in
      let text_is : v.text ≡ codes_of xs = ap codes_of (sym (unit_whole lines u more last)) in
      let e = text_ended ends emits lines at prefix end rest Opens h.0 in
      let few_now : all_kept events ≤ size (kept (codes_of xs)) + 1 = text_few (codes_of xs) text_end.Notes events e.0 in
      let same : size (kept v.text) ≡ size (kept (codes_of xs)) = ap (λ t. size (kept t)) text_is in
      let notes_are : size (codes_of []) + 1 + size (codes_of (with_ends (snippets_in u))) ≤ size v.notes = size_with_end [] end (with_ends (snippets_in u)) in
      let none : all_kept (since_close before) ≡ 0 = ap all_kept since in
      let after : all_kept (since_close (events_onto events before)) ≤ all_kept (since_close before) + all_kept events = since_on events before in
      let r = notes_stay u.nexts u.final more last 0 end.place (events_onto events before) (fits_back (end ∷ []) rest (fits_back prefix (end ∷ rest) fits)) h.1
      (stays_on limit events before stays (omega (arith, few))) (omega (arith, few)) in
      record {
        mid = r.mid;
        stays = r.stays;
        since = r.since;
        events_are = through_more (events_through part prefix) (events_of_cutting texts_by_definition lines macros (snippet_from lines macros 0 end.place rest) pieces last) before ∙ r.events_are;
        cuts = r.cuts;
      }

  -- after all units stands what is after the last `)`
  pub record UnitsStay (all : List BodyEvent) (last : LastUnit) : Type 0 where
    pub at : Place
    pub mid : List BodyEvent
    pub stays : StaysWithin limit mid
    pub since : since_close mid ≡ []
    pub events_are : all ≡ all_events lines macros (text_from texts_by_definition at (whole (last_pieces lines last) (last_characters last))) (last_pieces lines last) (last_characters last) mid
    pub cuts : Cuts texts_by_definition lines macros (text_from texts_by_definition at (whole (last_pieces lines last) (last_characters last))) (last_pieces lines last) (last_characters last)

  pub units_stay : (units : List BodyUnit) (last : LastUnit) (at : Place) (before : List BodyEvent) → since_close before ≡ []
      → (let pieces = units_pieces lines units last in let xs = whole pieces (last_characters last) in size (codes_of xs) < 2 ^ 63
      → Cuts texts_by_definition lines macros (text_from texts_by_definition at xs) pieces (last_characters last)
      → StaysWithin limit before → All (KeepsWithin limit) (closed_units units last)
      → UnitsStay (all_events lines macros (text_from texts_by_definition at xs) pieces (last_characters last) before) last)
  units_stay [] last at before since fits h stays few = record { at = at; mid = before; stays = stays; since = since; events_are = refl; cuts = h }
  units_stay (u ∷ units) last at before since fits h stays few =
      let more = units_pieces lines units last in
      let ends_with = last_characters last in
      let v = score_unit u (characters_from units last) in
      let same : score_unit u (whole more ends_with) ≡ v = ap (score_unit u) (units_whole lines units last) in
      let one = unit_stays at u more ends_with before since fits h stays (subst (KeepsWithin limit) (sym same) (All-head (KeepsWithin limit) v (closed_units units last) few)) in
      let after_fits : size (codes_of (whole more ends_with)) < 2 ^ 63 =
      fits_back (characters_in u) (whole more ends_with) (subst (λ cs. size (codes_of cs) < 2 ^ 63) (unit_whole lines u more ends_with) fits) in
      let r = units_stay units last (after_mark u.final.end.place) one.mid one.since after_fits one.cuts one.stays (All-tail (KeepsWithin limit) v (closed_units units last) few) in
      record { at = r.at; mid = r.mid; stays = r.stays; since = r.since; events_are = one.events_are ∙ r.events_are; cuts = r.cuts }
