-- As many syllables are made within some characters as units end within them.
use Rattle.std.proofs.Common.{◌≡◌, ℕ, zero, suc, ◌+◌, ◌-◌, ◌<◌, ◌≤◌, ◌^◌, nat_lt, Bool, false, cond, if◌then◌else◌, Some, None, List, [], ◌∷◌, ◌++◌, length, map, take, sum_by, refl, ap, ◌∙◌, arith, length-append, inl, inr}
use Rattle.std.specs.List.{list_any}
use Rattle.std.proofs.lemmas.Bool.{cases_Bool, ltb-true, ltb-false}
use Rattle.std.proofs.lemmas.Bool.Decides.{nat_tests}
use Rattle.std.proofs.lemmas.List.{take-append-le}
use Rattle.std.proofs.lemmas.List.Sums.{sum_by-append, sum_by-cons}
use Rattle.std.proofs.Math.Seq.{take-append-add}
use Rattle.gabc_places.proofs.PushesAreOne.{joined-append}
use Rattle.gabc_places.specs.StageLaw.{concat_of}
use Rattle.gabc_places.specs.declared.place.Place.{Place}
use Rattle.gabc_places.specs.declared.place.Char.{Char}
use Rattle.gabc_text.specs.declared.text_event.TextEvent.{TextEvent}
use Rattle.gabc_text.specs.Events.{codes_of}
use Rattle.gabc_notes.specs.declared.stage.NoteEnd.TheVariants as note_end
use Rattle.gabc_notes.specs.declared.stage.NoteEvent.{NoteEvent}
use Rattle.gabc_notes.specs.declared.stage.NoteEvent.TheVariants as note
use Rattle.gabc_body.specs.declared.events.BodyEvent.{BodyEvent}
use Rattle.gabc_body.specs.declared.events.BodyEvent.TheVariants.{Text, Notes}
use Rattle.gabc_body.specs.Syllable.{closes, since_close, all_syllables, syllable_by, is_eu, is_nlba}
use Rattle.gabc_body.specs.Body.{events_onto}
use Rattle.gabc_body.specs.Events.{PartAhead, InComment, InText, InNotes, is_next, is_close, note_event, first_list, events_in, texts_by_definition, snippet_from, next_line}
use Rattle.gabc_body.specs.Units.{Mark, Opens, Next, Closes, CutPart, EndedPart, BodyUnit, LastUnit, JustText, OpenNotes, cut_part, whole, part_onward, events_through, mark_in, Endless, EndsAfter, snippets_with, last_pieces, units_pieces, part_following, Cuts, events_of_cutting}
use Rattle.gabc_body.specs.SyllablesOfUnits.{with_ends, characters_in, count_within}
use Rattle.gabc_body.proofs.texts_of_body.SeamsOfCharacters.{size}
use Rattle.gabc_body.proofs.snippets_of_body.GrammarEmitsThroughEnd.{Marks}
use Rattle.gabc_body.proofs.snippets_of_body.SnippetEmitsThroughEnd.{LineEmitted, line_emitted}
use Rattle.gabc_body.proofs.units.BodyHasOneCutting.{text_mark}
use Rattle.gabc_body.proofs.stopped_scores.PrefixHasTheSameUnits.{through_length}
use Rattle.gabc_body.proofs.holding.SyllablesHoldParts.{fits_prefix, fits_back}
use Rattle.gabc_body.proofs.emitted.EndsOfSnippets.{none_close}

-- ---- how many syllables are ended

abbrev pub close_of : BodyEvent → ℕ
close_of t = cond (closes t) 1 0

abbrev pub close_count : List BodyEvent → ℕ
close_count ts = sum_by close_of ts

count_append : (ts us : List BodyEvent) → close_count (ts ++ us) ≡ close_count ts + close_count us
count_append ts us = sum_by-append close_of ts us

both_none : (ts us : List BodyEvent) → close_count ts ≡ 0 → close_count us ≡ 0 → close_count (ts ++ us) ≡ 0
both_none ts us h k = let all : close_count (ts ++ us) ≡ close_count ts + close_count us = count_append ts us in omega arith

pub count_one : (t : BodyEvent) (ts : List BodyEvent) → close_count (t ∷ ts) ≡ close_of t + close_count ts
count_one t ts = sum_by-cons close_of t ts

-- what ends no syllable, before others
none_more : (t : BodyEvent) (ts : List BodyEvent) → closes t ≡ false → close_count ts ≡ 0 → close_count (t ∷ ts) ≡ 0
none_more t ts h k = grind (arith, count_one)

made_one : (t : BodyEvent) (before : List BodyEvent) → length (all_syllables (t ∷ before)) ≡ length (all_syllables before) + close_of t
made_one t before = grind (arith, length-append (all_syllables before) (syllable_by (t ∷ since_close before) (is_eu before) (is_nlba before) ∷ []))

-- each `)` makes one more
pub made_count : (ts before : List BodyEvent) → length (all_syllables (events_onto ts before)) ≡ length (all_syllables before) + close_count ts
made_count [] before = omega arith
made_count (t ∷ ts) before = omega (arith, made_count ts (t ∷ before), made_one t before, count_one t ts)

-- ---- of a part

text_count : (emitted : List TextEvent) → close_count (map (λ (o : TextEvent). Text o) emitted) ≡ 0
text_count [] = refl
text_count (o ∷ emitted) = none_more (Text o) (map (λ (p : TextEvent). Text p) emitted) refl (text_count emitted)

notes_count : (line : ℕ) (opened : Place) (emitted : List NoteEvent) → list_any is_close emitted ≡ false → close_count (map (note_event line opened) emitted) ≡ 0
notes_count line opened [] h = refl
notes_count line opened (note.Ended note_end.Close n ∷ emitted) h = absurd (cc)
notes_count line opened (o ∷ emitted) h = none_more (note_event line opened o) (map (note_event line opened) emitted) refl (notes_count line opened emitted h)

none_closes : (a b : Bool) (l : ℕ) (o : Place) → (if a then Some (Next l o) else if b then Some Closes else None) ≡ None → b ≡ false
none_closes a b l o e = grind arith

abbrev pub mark_count : Mark → ℕ
mark_count Closes = 1
mark_count _ = 0

module _ (lines : ℕ) where
  -- a point that does not end its part ends no syllable
  point_count : (part : PartAhead) → mark_in lines part ≡ None → close_count (events_in part) ≡ 0
  point_count InComment h = refl
  point_count (InText lists) h = text_count (first_list lists)
  point_count (InNotes line opened lists) h =
      notes_count line opened (first_list lists) (none_closes (list_any is_next (first_list lists)) (list_any is_close (first_list lists)) (next_line lines line) opened h)

  more_count : (part : PartAhead) (n : ℕ) (lists : List (List BodyEvent)) → mark_in lines part ≡ None → close_count (concat_of (take n lists)) ≡ 0 → close_count (concat_of (take (suc n) (events_in part ∷ lists))) ≡ 0
  more_count part n lists h k = both_none (events_in part) (concat_of (take n lists)) (point_count part h) k

  -- before its end no syllable ends
  before_end : (part : PartAhead) (prefix : List Char) (mark : Mark) → EndsAfter lines part prefix mark → (n : ℕ) → n ≤ length prefix → close_count (concat_of (take n (events_through part prefix))) ≡ 0
  before_end part prefix mark h zero k = refl
  before_end part [] mark h (suc n) k = absurd (omega (arith, k))
  before_end part (x ∷ prefix) mark h (suc n) k = more_count part n (events_through (part_onward part) prefix) h.0 (before_end (part_onward part) prefix mark h.1 n (omega (arith, k)))

  never_ends : (part : PartAhead) (last : List Char) → Endless lines part last → (n : ℕ) → n ≤ length last → close_count (concat_of (take n (events_through part last))) ≡ 0
  never_ends part last h zero k = refl
  never_ends part [] h (suc n) k = absurd (omega (arith, k))
  never_ends part (x ∷ last) h (suc n) k = more_count part n (events_through (part_onward part) last) h.0 (never_ends (part_onward part) last h.1 n (omega (arith, k)))

  text_through : (lists : List (List TextEvent)) (prefix : List Char) → close_count (concat_of (events_through (InText lists) prefix)) ≡ 0
  text_through lists [] = both_none (map (λ (o : TextEvent). Text o) (first_list lists)) [] (text_count (first_list lists)) refl
  text_through lists (x ∷ prefix) =
      let later = events_through (part_onward (InText lists)) prefix in
      both_none (map (λ (o : TextEvent). Text o) (first_list lists)) (concat_of later) (text_count (first_list lists)) (text_through _ prefix)

-- ---- of parts

-- how many of these parts end a unit within n characters
abbrev pub pieces_within : ℕ → List CutPart → ℕ
pieces_within n [] = 0
pieces_within n (p ∷ pieces) =
    if nat_lt (length p.characters) n then mark_count p.mark + pieces_within (n - suc (length p.characters)) pieces else 0

-- what a snippet emits through its end closes a unit as its mark does
line_count : (lines line : ℕ) (opened : Place) (prefix : List Char) (end : Char) (mark : Mark) (events : List BodyEvent) → LineEmitted lines line opened prefix end mark events → close_count events ≡ mark_count mark
line_count lines line opened prefix end mark events l =
    let mids = map (note_event line opened) l.mids in
    let last = Notes line (note.Ended l.how (size l.kept)) in
    let all : close_count events ≡ close_count mids + close_count (last ∷ []) = ap close_count l.emitted_are ∙ count_append mids (last ∷ []) in
    omega (arith, notes_count line opened l.mids (none_close l.mids l.silent), count_one last [], by mark l.marks)
  where
    by : (m : Mark) → Marks lines line opened l.how m → close_of (Notes line (note.Ended l.how (size l.kept))) ≡ mark_count m
    by Opens h = absurd h
    by (Next k o) h = ap (λ how. close_of (Notes line (note.Ended how (size l.kept)))) h.0
    by Closes h = ap (λ how. close_of (Notes line (note.Ended how (size l.kept)))) h

module _ (lines macros : ℕ) where
  -- the part begins with these characters
  abbrev pub IsBegun : PartAhead → List Char → Type 0
  IsBegun InComment xs = ⊥
  IsBegun (InText lists) xs = Unit {0}
  IsBegun (InNotes line opened lists) xs = InNotes line opened lists ≡ snippet_from lines macros line opened xs

  follows_begun : (mark : Mark) (x : Char) (xs : List Char) → IsBegun (part_following texts_by_definition lines macros mark x xs) xs
  follows_begun mark x xs = grind arith

  part_count : (part : PartAhead) (prefix : List Char) (end : Char) (rest : List Char) (mark : Mark) → IsBegun part (prefix ++ end ∷ rest) → size (codes_of prefix) < 2 ^ 63
      → EndsAfter lines part prefix mark → close_count (concat_of (events_through part prefix)) ≡ mark_count mark
  part_count part prefix end rest mark b fits h = grind (arith, text_through, text_mark, line_count, line_emitted)

  abbrev lists_of : PartAhead → List CutPart → List Char → List (List BodyEvent)
  lists_of part pieces last = events_of_cutting texts_by_definition lines macros part pieces last

  -- parts that end within n characters
  pub pieces_count : (part : PartAhead) (pieces : List CutPart) (last : List Char) → IsBegun part (whole pieces last) → size (codes_of (whole pieces last)) < 2 ^ 63 → Cuts texts_by_definition lines macros part pieces last
      → (n : ℕ) → n ≤ length (whole pieces last) → close_count (concat_of (take n (lists_of part pieces last))) ≡ pieces_within n pieces
  pieces_count part [] last b fits h n k = never_ends lines part last h n k
  pieces_count part (p ∷ pieces) last b fits h n k =
      let rest = whole pieces last in
      let next = part_following texts_by_definition lines macros p.mark p.end rest in
      let first = events_through part p.characters in
      let more = lists_of next pieces last in
      let m = n - suc (length p.characters) in
      let size_is : length first ≡ suc (length p.characters) = through_length part p.characters in
      let all : length (p.characters ++ p.end ∷ rest) ≡ length p.characters + suc (length rest) = length-append p.characters (p.end ∷ rest) in
      let one = part_count part p.characters p.end rest p.mark b (fits_prefix p.characters (p.end ∷ rest) fits) h.0 in
      elim (cases_Bool (nat_lt (length p.characters) n)) [
        | inl e ↦ (let less : length p.characters < n = ltb-true (length p.characters) n e in
            let split : n ≡ length first + m = omega arith in
            let lists : concat_of (take n (first ++ more)) ≡ concat_of first ++ concat_of (take m more) =
            ap (λ i. concat_of (take i (first ++ more))) split ∙ ap concat_of (take-append-add first more m) ∙ joined-append first (take m more) in
            let on = pieces_count next pieces last (follows_begun p.mark p.end rest) (fits_back (p.end ∷ []) rest (fits_back p.characters (p.end ∷ rest) fits)) h.1 m (omega arith) in
            rw e (ap close_count lists ∙ count_append (concat_of first) (concat_of (take m more)) ∙ ap (λ i. i + close_count (concat_of (take m more))) one ∙ ap (λ i. mark_count p.mark + i) on))
        | inr e ↦ (let few : n ≤ length p.characters = omega (arith, ltb-false (length p.characters) n e) in
            rw e (ap (λ ls. close_count (concat_of ls)) (take-append-le n first more (omega arith)) ∙ before_end lines part p.characters p.mark h.0 n few))
      ]

-- ---- of units

module _ (lines : ℕ) where
  snippets_within : (line : ℕ) (opened : Place) (nexts : List EndedPart) (final : EndedPart) (more : List CutPart) (n : ℕ)
      → (let size = length (with_ends (nexts ++ final ∷ [])) in
      pieces_within n (snippets_with lines line opened nexts (cut_part final Closes ∷ more)) ≡ (if nat_lt n size then 0 else suc (pieces_within (n - size) more)))
  snippets_within line opened [] final more n = grind (arith, nat_tests, length-append final.characters (final.end ∷ []))
  snippets_within line opened (e ∷ nexts) final more n =
      let on = snippets_within (next_line lines line) opened nexts final more (n - suc (length e.characters)) in
      grind (arith, nat_tests, on, length-append e.characters (e.end ∷ with_ends (nexts ++ final ∷ [])))

  open_within : (line : ℕ) (opened : Place) (nexts : List EndedPart) (n : ℕ) → pieces_within n (snippets_with lines line opened nexts []) ≡ 0
  open_within line opened [] n = refl
  open_within line opened (e ∷ nexts) n = grind (arith, open_within (next_line lines line) opened nexts (n - suc (length e.characters)))

  last_within : (last : LastUnit) (n : ℕ) → pieces_within n (last_pieces lines last) ≡ 0
  last_within (JustText xs) n = refl
  last_within (OpenNotes text nexts xs) n = grind (arith, open_within 0 text.end.place nexts (n - suc (length text.characters)))

  pub units_within_are : (units : List BodyUnit) (last : LastUnit) (n : ℕ) → pieces_within n (units_pieces lines units last) ≡ count_within n units
  units_within_are [] last n = last_within last n
  units_within_are (u ∷ units) last n =
      let notes = snippets_within 0 u.text.end.place u.nexts u.final (units_pieces lines units last) (n - suc (length u.text.characters)) in
      let size = length-append u.text.characters (u.text.end ∷ with_ends (u.nexts ++ u.final ∷ [])) in
      grind (arith, nat_tests, notes, size, units_within_are units last (n - length (characters_in u)))
