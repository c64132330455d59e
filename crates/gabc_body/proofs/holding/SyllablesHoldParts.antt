-- What the syllables of a body hold, part by part.
use Rattle.std.proofs.Common.{append_assoc, ◌≡◌, ℕ, ◌<◌, ◌^◌, true, Option, Some, None, List, [], ◌∷◌, ◌++◌, map, refl, sym, ap, subst, ◌∙◌, arith}
use Rattle.std.specs.List.{All}
use Rattle.std.specs.Option.{option_map}
use Rattle.std.proofs.lemmas.List.Elements.{All-nil, All-push}
use Rattle.std.proofs.lemmas.Grind.{flat_map-append}
use Rattle.gabc_places.specs.StageLaw.{concat_of}
use Rattle.gabc_places.specs.declared.place.Place.{Place}
use Rattle.gabc_places.specs.declared.place.Char.{Char}
use Rattle.gabc_text.specs.BuiltText.{with_events, empty_text, text_built_at}
use Rattle.gabc_text.specs.Ends.{EndsOnce}
use Rattle.gabc_text.specs.Events.{codes_of, events_by_point}
use Rattle.gabc_body.specs.declared.events.BodyEvent.{BodyEvent}
use Rattle.gabc_body.specs.Syllable.{since_close, all_syllables}
use Rattle.gabc_body.specs.Body.{events_onto, has_last, last_syllable, cut_of}
use Rattle.gabc_body.specs.Events.{PartAhead, InComment, InText, InNotes, texts_by_definition, snippet_from, after_mark, body_events}
use Rattle.gabc_body.specs.Units.{Mark, Opens, Next, Closes, CutPart, Cutting, whole, events_through, Endless, EndsAfter, part_following, Cuts, events_of_cutting, cutting_of, BeginsWithLf, first_text, IsCutFrom, events_of_parts}
use Rattle.gabc_body.specs.Holding.{HoldsNoNotes, Holds, HoldsWithNotes}
use Rattle.gabc_body.proofs.texts_of_body.SeamsOfCharacters.{size, size_append}
use Rattle.gabc_body.proofs.emitted.EventsOfSyllableParts.{onto_append}
use Rattle.gabc_body.proofs.texts_of_body.TextEmitsThroughEnd.{codes_append, text_mark, text_ended, text_endless}
use Rattle.gabc_body.proofs.snippets_of_body.GrammarEmitsThroughEnd.{IsMark}
use Rattle.gabc_body.proofs.snippets_of_body.SnippetEmitsThroughEnd.{line_emitted, line_cut}
use Rattle.gabc_text.specs.ViewFacts.{StandsForView}
use Rattle.gabc_text.specs.View.{kept}
use Rattle.gabc_text.specs.TextRead.{view_in}
use Rattle.gabc_body.proofs.holding.SyllableHoldsPartByPart.{IsBack, SoFar, text_opens, last_text, close_made, next_far, next_made, cut_is}
use Rattle.gabc_body.proofs.units.BodyHasOneCutting.{one, body_emits_all}

abbrev pub nothing_of : Char → List BodyEvent
nothing_of x = []

-- ---- bytes

pub fits_prefix : (xs ys : List Char) → size (codes_of (xs ++ ys)) < 2 ^ 63 → size (codes_of xs) < 2 ^ 63
fits_prefix xs ys h = omega (arith, h, ap size (codes_append xs ys) ∙ size_append (codes_of xs) (codes_of ys))

pub fits_back : (xs ys : List Char) → size (codes_of (xs ++ ys)) < 2 ^ 63 → size (codes_of ys) < 2 ^ 63
fits_back xs ys h = omega (arith, h, ap size (codes_append xs ys) ∙ size_append (codes_of xs) (codes_of ys))

-- what stands after a prefix of a back of the input is a back of it
back_after : (input : List ℕ) (xs ys : List Char) → IsBack input (codes_of (xs ++ ys)) → IsBack input (codes_of ys)
back_after input xs ys b = (b.0 ++ codes_of xs, b.1 ∙ ap (λ cs. b.0 ++ cs) (codes_append xs ys) ∙ sym (append_assoc b.0 (codes_of xs) (codes_of ys)))

-- ---- parts

module _ (ends : (at : Place) (t : List ℕ) → EndsOnce at t) (emits : (at : Place) (t : List ℕ) → with_events empty_text (concat_of (events_by_point at t)) ≡ text_built_at at t) (spans : (t : List ℕ) → StandsForView (kept t) (view_in t) t) (input : List ℕ) (lines macros : ℕ) where
  abbrev pub AllHold : List BodyEvent → Type 0
  AllHold before = All (HoldsWithNotes input lines) (all_syllables before)

  -- where a part begins with these characters, after what was emitted before
  abbrev Begins : PartAhead → List BodyEvent → List Char → Type 0
  Begins InComment before xs = ⊥
  Begins (InText lists) before xs = ((at : Place) × (lists ≡ texts_by_definition at xs)) × (since_close before ≡ [])
  Begins (InNotes line opened lists) before xs = (InNotes line opened lists ≡ snippet_from lines macros line opened xs) × SoFar input lines line xs (since_close before)

  abbrev through : PartAhead → List Char → List BodyEvent → List BodyEvent
  through part prefix before = events_onto (concat_of (events_through part prefix)) before

  -- the part after a part, and the syllables so far
  abbrev Follows : Mark → Char → List Char → List BodyEvent → Type 0
  Follows mark end rest after = Begins (part_following texts_by_definition lines macros mark end rest) after rest × AllHold after

  same_made : (before after : List BodyEvent) → all_syllables after ≡ all_syllables before → AllHold before → AllHold after
  same_made before after h k = subst (All (HoldsWithNotes input lines)) (sym h) k

  text_follows : (at : Place) (prefix : List Char) (end : Char) (rest : List Char) (mark : Mark) (before : List BodyEvent) → IsBack input (codes_of (prefix ++ end ∷ rest)) → since_close before ≡ []
      → EndsAfter lines (InText (texts_by_definition at (prefix ++ end ∷ rest))) prefix mark → AllHold before → Follows mark end rest (through (InText (texts_by_definition at (prefix ++ end ∷ rest))) prefix before)
  text_follows at prefix end rest mark before b since h k =
      let part = InText (texts_by_definition at (prefix ++ end ∷ rest)) in
      let e = text_ended ends emits lines at prefix end rest mark h in
      let o = text_opens input lines prefix end rest (concat_of (events_through part prefix)) b (text_mark ends lines at prefix end rest mark h) e.0 before since in
      subst (λ m. Follows m end rest (through part prefix before)) (sym e.1) ((refl, o.0), same_made before (through part prefix before) o.1 k)

  notes_follow : (line : ℕ) (opened : Place) (prefix : List Char) (end : Char) (rest : List Char) (mark : Mark) (before : List BodyEvent) → SoFar input lines line (prefix ++ end ∷ rest) (since_close before) → size (codes_of prefix) < 2 ^ 63
      → EndsAfter lines (snippet_from lines macros line opened (prefix ++ end ∷ rest)) prefix mark → AllHold before → Follows mark end rest (through (snippet_from lines macros line opened (prefix ++ end ∷ rest)) prefix before)
  notes_follow line opened prefix end rest Opens before far fits h k = absurd (line_emitted lines macros opened line prefix end rest Opens fits h).marks
  notes_follow line opened prefix end rest (Next l o) before far fits h k =
      let part = snippet_from lines macros line opened (prefix ++ end ∷ rest) in
      let events = concat_of (events_through part prefix) in
      let t = line_emitted lines macros opened line prefix end rest (Next l o) fits h in (
        (refl, subst (λ n. SoFar input lines n rest (since_close (events_onto events before))) (sym t.marks.1) (next_far input lines line opened prefix end rest (Next l o) events t before far (spans far.text) t.marks.0 (subst (IsMark end.c) t.marks.0 t.is_mark))),
        same_made before (events_onto events before) (next_made input lines line opened prefix end rest (Next l o) events t before far (spans far.text) t.marks.0) k,
      )
  notes_follow line opened prefix end rest Closes before far fits h k =
      let part = snippet_from lines macros line opened (prefix ++ end ∷ rest) in
      let events = concat_of (events_through part prefix) in
      let t = line_emitted lines macros opened line prefix end rest Closes fits h in
      let m = close_made input lines line opened prefix end rest Closes events t before far (spans far.text) t.marks (subst (IsMark end.c) t.marks t.is_mark) in (
        ((after_mark end.place, refl), m.3),
        subst (All (HoldsWithNotes input lines)) (sym m.1) (All-push (HoldsWithNotes input lines) (all_syllables before) m.0 k m.2),
      )

  part_follows : (part : PartAhead) (prefix : List Char) (end : Char) (rest : List Char) (mark : Mark) (before : List BodyEvent) → IsBack input (codes_of (prefix ++ end ∷ rest)) → Begins part before (prefix ++ end ∷ rest) → size (codes_of prefix) < 2 ^ 63
      → EndsAfter lines part prefix mark → AllHold before → Follows mark end rest (through part prefix before)
  part_follows InComment prefix end rest mark before back b fits h k = absurd b
  part_follows (InText lists) prefix end rest mark before back b fits h k =
      subst (λ ls. Follows mark end rest (through (InText ls) prefix before)) (sym b.0.1)
      (text_follows b.0.0 prefix end rest mark before back b.1 (subst (λ ls. EndsAfter lines (InText ls) prefix mark) b.0.1 h) k)
  part_follows (InNotes line opened lists) prefix end rest mark before back b fits h k =
      subst (λ part. Follows mark end rest (through part prefix before)) (sym b.0)
      (notes_follow line opened prefix end rest mark before b.1 fits (subst (λ part. EndsAfter lines part prefix mark) b.0 h) k)

  -- ---- the last part

  -- what is said where all was emitted: the syllables hold, and where nothing is cut so does a last text
  pub record AtEnd (all : List BodyEvent) : Type 0 where
    pub made : AllHold all
    pub last : cut_of all ≡ None → has_last all ≡ true → Holds HoldsNoNotes input (last_syllable all)

  text_at_end : (at : Place) (last : List Char) (before : List BodyEvent) → IsBack input (codes_of last) → since_close before ≡ [] → Endless lines (InText (texts_by_definition at last)) last → AllHold before → AtEnd (through (InText (texts_by_definition at last)) last before)
  text_at_end at last before b since h k =
      let part = InText (texts_by_definition at last) in
      let e = text_endless ends emits lines at last h in
      let o = last_text input (codes_of last) e.0 (concat_of (events_through part last)) b (spans (codes_of last)) e.2 e.1 before since in
      record { made = same_made before (through part last before) o.1 k; last = λ none has. o.0 }

  notes_at_end : (line : ℕ) (opened : Place) (last : List Char) (before : List BodyEvent) → Endless lines (snippet_from lines macros line opened last) last → AllHold before
      → AtEnd (through (snippet_from lines macros line opened last) last before)
  notes_at_end line opened last before h k =
      let part = snippet_from lines macros line opened last in
      let c = line_cut lines macros opened line last h in
      let o = cut_is line opened (concat_of (events_through part last)) c before in
      record { made = same_made before (through part last before) o.1 k; last = λ none has. absurd (let e = o.0 in cc) }

  part_at_end : (part : PartAhead) (last : List Char) (before : List BodyEvent) → IsBack input (codes_of last) → Begins part before last → Endless lines part last → AllHold before → AtEnd (through part last before)
  part_at_end InComment last before back b h k = absurd b
  part_at_end (InText lists) last before back b h k = grind (arith, text_at_end)
  part_at_end (InNotes line opened lists) last before back b h k =
      subst (λ part. AtEnd (through part last before)) (sym b.0)
      (notes_at_end line opened last before (subst (λ part. Endless lines part last) b.0 h) k)

  -- ---- all parts

  pieces_hold : (part : PartAhead) (pieces : List CutPart) (last : List Char) (before : List BodyEvent) → IsBack input (codes_of (whole pieces last)) → Begins part before (whole pieces last) → size (codes_of (whole pieces last)) < 2 ^ 63
      → Cuts texts_by_definition lines macros part pieces last → AllHold before → AtEnd (events_onto (concat_of (events_of_cutting texts_by_definition lines macros part pieces last)) before)
  pieces_hold part [] last before back b fits h k = part_at_end part last before back b h k
  pieces_hold part (p ∷ pieces) last before back b fits h k =
      let rest = whole pieces last in
      let next = part_following texts_by_definition lines macros p.mark p.end rest in
      let f = part_follows part p.characters p.end rest p.mark before back b (fits_prefix p.characters (p.end ∷ rest) fits) h.0 k in
      subst (λ all. AtEnd all)
      (sym (ap (λ ts. events_onto ts before) (flat_map-append (λ (ts : List BodyEvent). ts) (events_through part p.characters) (events_of_cutting texts_by_definition lines macros next pieces last))
      ∙ onto_append (concat_of (events_through part p.characters)) (concat_of (events_of_cutting texts_by_definition lines macros next pieces last)) before))
      (pieces_hold next pieces last (through part p.characters before) (back_after input (p.end ∷ []) rest (back_after input p.characters (p.end ∷ rest) back)) f.0 (fits_back (p.end ∷ []) rest (fits_back p.characters (p.end ∷ rest) fits)) h.1 f.1)

  -- ---- a body

  pub comment_emits : (comment : List Char) → concat_of (map nothing_of comment) ≡ []
  comment_emits [] = refl
  comment_emits (x ∷ comment) = comment_emits comment

  first_holds : (ys : List Char) (d : Cutting) → IsBack input (codes_of ys) → ys ≡ whole d.pieces d.last → BeginsWithLf ys → size (codes_of ys) < 2 ^ 63 → Cuts texts_by_definition lines macros (first_text texts_by_definition ys) d.pieces d.last
      → AtEnd (events_onto (concat_of (events_of_cutting texts_by_definition lines macros (first_text texts_by_definition ys) d.pieces d.last)) [])
  first_holds [] d back e b fits h = absurd b
  first_holds (x ∷ ys) d back e b fits h =
      let part = InText (texts_by_definition x.place (x ∷ ys)) in
      pieces_hold part d.pieces d.last [] (subst (λ zs. IsBack input (codes_of zs)) e back) ((x.place, ap (texts_by_definition x.place) e), refl) (subst (λ zs. size (codes_of zs) < 2 ^ 63) e fits) h (All-nil (HoldsWithNotes input lines))

  cut_holds : (xs comment : List Char) (o : Option Cutting) → IsBack input (codes_of xs) → size (codes_of xs) < 2 ^ 63 → IsCutFrom texts_by_definition lines macros xs comment o
      → AtEnd (events_onto (concat_of (events_of_parts texts_by_definition lines macros o)) [])
  cut_holds xs comment None back fits h = record { made = All-nil (HoldsWithNotes input lines); last = λ none has. cc }
  cut_holds xs comment (Some d) back fits h =
      let ys = whole d.pieces d.last in
      first_holds ys d (back_after input comment ys (subst (λ zs. IsBack input (codes_of zs)) h.0 back)) refl h.1.1.0 (fits_back comment ys (subst (λ zs. size (codes_of zs) < 2 ^ 63) h.0 fits)) h.1.1.1

  pub body_holds : (xs : List Char) → IsBack input (codes_of xs) → size (codes_of xs) < 2 ^ 63 → AtEnd (events_onto (concat_of (body_events lines macros xs)) [])
  body_holds xs back fits =
      let c = one texts_by_definition lines macros xs in
      let o = option_map (cutting_of lines) c.0.units in
      subst (λ ts. AtEnd (events_onto ts []))
      (sym (ap concat_of (body_emits_all texts_by_definition lines macros xs c.0 c.1)
      ∙ flat_map-append (λ (ts : List BodyEvent). ts) (map nothing_of c.0.comment) (events_of_parts texts_by_definition lines macros o)
      ∙ ap (λ ts. ts ++ concat_of (events_of_parts texts_by_definition lines macros o)) (comment_emits c.0.comment)))
      (cut_holds xs c.0.comment o back fits c.1)
