-- The units of a prefix of a body are read as those of the whole body.
use Rattle.std.proofs.Common.{◌≡◌, ℕ, zero, suc, ◌+◌, ◌<◌, ◌^◌, ◌==◌, nat_lt, Bool, true, false, if◌then◌else◌, List, [], ◌∷◌, ◌++◌, length, take, drop, refl, sym, ap, subst, ◌∙◌, arith, append_assoc, length-append}
use Rattle.std.proofs.Math.Seq.{take-append-add}
use Rattle.gabc_places.specs.declared.place.Place.{Place}
use Rattle.gabc_places.specs.declared.place.Char.{Char}
use Rattle.gabc_places.specs.Place.{next_place, placed_characters_from}
use Rattle.gabc_places.proofs.PlacesOfAText.{length_placed}
use Rattle.gabc_text.specs.declared.text_event.TextEnd.TheVariants as text_end
use Rattle.gabc_text.specs.declared.text_event.TextEvent.TheVariants as text_out
use Rattle.gabc_text.specs.Events.{CountsFit, codes_of, events_by_point}
use Rattle.gabc_text.specs.witness.EventsLeft.{events_left}
use Rattle.gabc_text.specs.TextStage.{fresh_stage}
use Rattle.gabc_text.specs.declared.stage.TextStage.{TextStage}
use Rattle.gabc_notes.specs.Events as notes
use Rattle.gabc_nabc.specs.Events as nabc
use Rattle.gabc_body.specs.declared.events.BodyEvent.{BodyEvent}
use Rattle.gabc_body.specs.declared.events.BodyEvent.TheVariants.{Text}
use Rattle.gabc_body.specs.Events.{PartAhead, InText, InNotes, first_list, other_lists, events_in, texts_by_definition, text_from, snippet_from, next_line, after_mark}
use Rattle.gabc_body.specs.Units.{Mark, Opens, Next, Closes, CutPart, EndedPart, BodyUnit, LastUnit, JustText, cut_part, whole, part_onward, events_through, mark_in, EndsAfter, snippets_with, units_pieces, last_characters, part_following, Cuts, events_of_cutting}
use Rattle.gabc_body.proofs.texts_of_body.SeamsOfCharacters.{size, size_append}
use Rattle.gabc_body.proofs.holding.SnippetsLieInKeptText.{bytes_are_size}
use Rattle.gabc_body.proofs.holding.SyllablesHoldParts.{fits_back}
use Rattle.gabc_body.specs.SyllablesOfUnits.{characters_from}
use Rattle.gabc_body.proofs.syllables_of_units.UnitsGiveSyllables.{units_whole}
use Rattle.gabc_body.proofs.texts_of_body.TextEmitsThroughEnd.{codes_append, length_of_codes}

-- ---- parts that agree

-- two parts of one kind with the same first lists
abbrev pub Agree : ℕ → PartAhead → PartAhead → Type 0
Agree n (InText ls) (InText ms) = take n ls ≡ take n ms
Agree n (InNotes line opened ls) (InNotes k o ms) = (line ≡ k) × ((opened ≡ o) × (take n ls ≡ take n ms))
Agree n _ _ = ⊥

first_of_some : {X : Type 0} (n : ℕ) (ls : List (List X)) → first_list (take (suc n) ls) ≡ first_list ls
first_of_some n ls = grind arith

others_of_some : {X : Type 0} (n : ℕ) (ls : List (List X)) → other_lists (take (suc n) ls) ≡ take n (other_lists ls)
others_of_some n ls = grind arith

same_first : {X : Type 0} (n : ℕ) (ls ms : List (List X)) → take (suc n) ls ≡ take (suc n) ms → first_list ls ≡ first_list ms
same_first n ls ms h = sym (first_of_some n ls) ∙ ap first_list h ∙ first_of_some n ms

same_others : {X : Type 0} (n : ℕ) (ls ms : List (List X)) → take (suc n) ls ≡ take (suc n) ms → take n (other_lists ls) ≡ take n (other_lists ms)
same_others n ls ms h = sym (others_of_some n ls) ∙ ap other_lists h ∙ others_of_some n ms

agree_onward : (n : ℕ) (part other : PartAhead) → Agree (suc n) part other → Agree n (part_onward part) (part_onward other)
agree_onward n part other h = grind (arith, same_others)

agree_emitted : (n : ℕ) (part other : PartAhead) → Agree (suc n) part other → events_in part ≡ events_in other
agree_emitted n part other h = grind (arith, same_first)

module _ (lines : ℕ) where
  agree_mark : (n : ℕ) (part other : PartAhead) → Agree (suc n) part other → mark_in lines part ≡ mark_in lines other
  agree_mark n part other h = grind (arith, same_first)

  pub agree_ends : (part other : PartAhead) (prefix : List Char) (mark : Mark) → Agree (suc (length prefix)) part other → EndsAfter lines part prefix mark → EndsAfter lines other prefix mark
  agree_ends part other [] mark a h = sym (agree_mark 0 part other a) ∙ h
  agree_ends part other (x ∷ prefix) mark a h = (
    sym (agree_mark (suc (length prefix)) part other a) ∙ h.0,
    agree_ends (part_onward part) (part_onward other) prefix mark (agree_onward (suc (length prefix)) part other a) h.1,
  )

pub agree_through : (part other : PartAhead) (prefix : List Char) → Agree (suc (length prefix)) part other → events_through part prefix ≡ events_through other prefix
agree_through part other [] a = ap (λ ts. ts ∷ []) (agree_emitted 0 part other a)
agree_through part other (x ∷ prefix) a =
    ap (λ ts. ts ∷ events_through (part_onward part) prefix) (agree_emitted (suc (length prefix)) part other a)
    ∙ ap (λ ls. events_in other ∷ ls) (agree_through (part_onward part) (part_onward other) prefix (agree_onward (suc (length prefix)) part other a))

pub through_length : (part : PartAhead) (prefix : List Char) → length (events_through part prefix) ≡ suc (length prefix)
through_length part [] = refl
through_length part (x ∷ prefix) = ap (λ n. suc n) (through_length (part_onward part) prefix)

-- ---- places that no count passes

abbrev pub AllSmall : List Char → Type 0
AllSmall [] = Unit {0}
AllSmall (x ∷ xs) = (x.place.line + length (x ∷ xs) < 2 ^ 64) × ((x.place.column + length (x ∷ xs) < 2 ^ 64) × AllSmall xs)

pub small_after : (xs ys : List Char) → AllSmall (xs ++ ys) → AllSmall ys
small_after [] ys h = h
small_after (x ∷ xs) ys h = small_after xs ys h.1.1

small_place : (p : Place) (c n : ℕ) → p.line + suc n < 2 ^ 64 → p.column + suc n < 2 ^ 64 → ((next_place p c).line + n < 2 ^ 64) × ((next_place p c).column + n < 2 ^ 64)
small_place p c n h k = (grind arith, grind arith)

pub small_placed : (p : Place) (cs : List ℕ) → p.line + length cs < 2 ^ 64 → p.column + length cs < 2 ^ 64 → AllSmall (placed_characters_from p cs)
small_placed p [] h k = tt
small_placed p (c ∷ cs) h k =
    let n : length (placed_characters_from (next_place p c) cs) ≡ length cs = length_placed (next_place p c) cs in
    let s = small_place p c (length cs) h k in
    (omega arith, (omega arith, small_placed (next_place p c) cs s.0 s.1))

-- a text that begins at a small place fits, and so does a prefix of it
pub record SmallAt (at : Place) (xs : List Char) : Type 0 where
  pub line : at.line + length xs < 2 ^ 64
  pub column : at.column + length xs < 2 ^ 64
  pub bytes : size (codes_of xs) < 2 ^ 63

small_fits : (at : Place) (xs : List Char) → SmallAt at xs → CountsFit at (codes_of xs)
small_fits at xs s = grind (arith, length_of_codes, bytes_are_size)

small_prefix : (at : Place) (xs ys : List Char) → SmallAt at (xs ++ ys) → SmallAt at xs
small_prefix at xs ys s = grind (arith, length-append, codes_append, size_append)

-- what is emitted of some characters and one more does not hang on those after them
pub all_agree : {X : Type 0} (events : List Char → List X) → ((xs ys zs : List Char) → take (length xs) (events (xs ++ ys)) ≡ take (length xs) (events (xs ++ zs)))
    → (prefix : List Char) (end : Char) (rest other : List Char) → take (suc (length prefix)) (events (prefix ++ end ∷ rest)) ≡ take (suc (length prefix)) (events (prefix ++ end ∷ other))
all_agree events so_far prefix end rest other =
    let count : suc (length prefix) ≡ length (prefix ++ end ∷ []) = omega (arith, length-append prefix (end ∷ [])) in
    rw (count, ← append_assoc prefix (end ∷ []) rest, ← append_assoc prefix (end ∷ []) other) (so_far (prefix ++ end ∷ []) rest other)

-- so it is of a text that a stage reads
pub text_agree : ((s : TextStage) (t u v : List ℕ) → take (length t) (events_left s (t ++ u)) ≡ take (length t) (events_left s (t ++ v)))
    → (s : TextStage) (prefix : List Char) (end : Char) (rest other : List Char) → take (suc (length prefix)) (events_left s (codes_of (prefix ++ end ∷ rest))) ≡ take (suc (length prefix)) (events_left s (codes_of (prefix ++ end ∷ other)))
text_agree so_far s =
    all_agree (λ (xs : List Char). events_left s (codes_of xs))
    (λ xs ys zs. rw (← length_of_codes xs, codes_append xs ys, codes_append xs zs) (so_far s (codes_of xs) (codes_of ys) (codes_of zs)))

module _ (fresh_is : (at : Place) (t : List ℕ) → CountsFit at t → events_left (fresh_stage at) t ≡ events_by_point at t)
    (so_far : (s : TextStage) (t u v : List ℕ) → take (length t) (events_left s (t ++ u)) ≡ take (length t) (events_left s (t ++ v)))
    (notes_so_far : (split : Bool) (macros : ℕ) (xs ys zs : List Char) → take (length xs) (notes.note_events split macros (xs ++ ys)) ≡ take (length xs) (notes.note_events split macros (xs ++ zs)))
    (nabc_so_far : (xs ys zs : List Char) → take (length xs) (nabc.nabc_events (xs ++ ys)) ≡ take (length xs) (nabc.nabc_events (xs ++ zs))) (lines macros : ℕ) where
  text_agrees : (at : Place) (prefix : List Char) (end : Char) (rest other : List Char) → SmallAt at (prefix ++ end ∷ rest) → SmallAt at (prefix ++ end ∷ other)
      → Agree (suc (length prefix)) (text_from texts_by_definition at (prefix ++ end ∷ rest)) (text_from texts_by_definition at (prefix ++ end ∷ other))
  text_agrees at prefix end rest other h k =
      let here = λ (zs : List Char) (s : SmallAt at (prefix ++ end ∷ zs)). fresh_is at (codes_of (prefix ++ end ∷ zs)) (small_fits at (prefix ++ end ∷ zs) s) in
      rw (← here rest h, ← here other k) (text_agree so_far (fresh_stage at) prefix end rest other)

  pub snippet_agrees : (line : ℕ) (opened : Place) (prefix : List Char) (end : Char) (rest other : List Char)
      → Agree (suc (length prefix)) (snippet_from lines macros line opened (prefix ++ end ∷ rest)) (snippet_from lines macros line opened (prefix ++ end ∷ other))
  snippet_agrees line opened prefix end rest other = (refl, (refl, by (line == 0)))
    where
      by : (b : Bool) → take (suc (length prefix)) (if b then notes.note_events (nat_lt 0 lines) macros (prefix ++ end ∷ rest) else nabc.nabc_events (prefix ++ end ∷ rest))
          ≡ take (suc (length prefix)) (if b then notes.note_events (nat_lt 0 lines) macros (prefix ++ end ∷ other) else nabc.nabc_events (prefix ++ end ∷ other))
      by true = all_agree (notes.note_events (nat_lt 0 lines) macros) (notes_so_far (nat_lt 0 lines) macros) prefix end rest other
      by false = all_agree nabc.nabc_events nabc_so_far prefix end rest other

  -- ---- a prefix of units

  abbrev pub end_events : List (List BodyEvent)
  end_events = (Text (text_out.Ended text_end.Finished) ∷ []) ∷ []

  -- these parts, before nothing, are cut as those parts are before what follows them, and emit the same and the end
  pub record FrontOf (part other : PartAhead) (pieces others : List CutPart) (last : List Char) : Type 0 where
    pub cuts : Cuts texts_by_definition lines macros other others []
    pub events : events_of_cutting texts_by_definition lines macros other others [] ≡ take (length (whole others [])) (events_of_cutting texts_by_definition lines macros part pieces last) ++ end_events

  piece_prefix : (part other : PartAhead) (p : CutPart) (pieces others : List CutPart) (last : List Char) → Agree (suc (length p.characters)) part other → EndsAfter lines part p.characters p.mark
      → FrontOf (part_following texts_by_definition lines macros p.mark p.end (whole pieces last)) (part_following texts_by_definition lines macros p.mark p.end (whole others [])) pieces others last
      → FrontOf part other (p ∷ pieces) (p ∷ others) last
  piece_prefix part other p pieces others last a h f =
      let rest = whole others [] in
      let first = events_through part p.characters in
      let more = events_of_cutting texts_by_definition lines macros (part_following texts_by_definition lines macros p.mark p.end (whole pieces last)) pieces last in
      let n : length (p.characters ++ p.end ∷ rest) ≡ length p.characters + suc (length rest) = length-append p.characters (p.end ∷ rest) in
      let m : length first ≡ suc (length p.characters) = through_length part p.characters in
      let count : length first + length rest ≡ length (p.characters ++ p.end ∷ rest) = omega arith in
      record {
        cuts = (agree_ends lines part other p.characters p.mark a h, f.cuts);
        events = ap (λ ls. ls ++ events_of_cutting texts_by_definition lines macros (part_following texts_by_definition lines macros p.mark p.end rest) others []) (sym (agree_through part other p.characters a))
            ∙ ap (λ ls. first ++ ls) f.events
            ∙ sym (append_assoc first (take (length rest) more) end_events)
            ∙ ap (λ ls. ls ++ end_events) (sym (take-append-add first more (length rest)) ∙ ap (λ i. take i (first ++ more)) count);
      }

  notes_prefix : (line : ℕ) (opened : Place) (nexts : List EndedPart) (final : EndedPart) (more others : List CutPart) (last : List Char)
      → (let pieces = snippets_with lines line opened nexts (cut_part final Closes ∷ more) in let fronts = snippets_with lines line opened nexts (cut_part final Closes ∷ others) in
      let at = after_mark final.end.place in
      AllSmall (whole pieces last) → Cuts texts_by_definition lines macros (snippet_from lines macros line opened (whole pieces last)) pieces last
      → (AllSmall (whole more last) → SmallAt at (whole more last) → Cuts texts_by_definition lines macros (text_from texts_by_definition at (whole more last)) more last → FrontOf (text_from texts_by_definition at (whole more last)) (text_from texts_by_definition at (whole others [])) more others last)
      → size (codes_of (whole pieces last)) < 2 ^ 63
      → FrontOf (snippet_from lines macros line opened (whole pieces last)) (snippet_from lines macros line opened (whole fronts [])) pieces fronts last)
  notes_prefix line opened [] final more others last small h on fits =
      let rest = whole more last in
      let here = small_after final.characters (final.end ∷ rest) small in
      let at : SmallAt (after_mark final.end.place) rest = record { line = omega arith; column = omega arith; bytes = fits_back (final.end ∷ []) rest (fits_back final.characters (final.end ∷ rest) fits) } in
      piece_prefix _ _ (cut_part final Closes) more others last (snippet_agrees line opened final.characters final.end rest (whole others [])) h.0 (on here.1.1 at h.1)
  notes_prefix line opened (e ∷ nexts) final more others last small h on fits =
      let next = next_line lines line in
      let pieces = snippets_with lines next opened nexts (cut_part final Closes ∷ more) in
      let fronts = snippets_with lines next opened nexts (cut_part final Closes ∷ others) in
      let rest = whole pieces last in
      piece_prefix _ _ (cut_part e (Next next opened)) pieces fronts last (snippet_agrees line opened e.characters e.end rest (whole fronts [])) h.0
      (notes_prefix next opened nexts final more others last (small_after (e.end ∷ []) rest (small_after e.characters (e.end ∷ rest) small)) h.1 on
      (fits_back (e.end ∷ []) rest (fits_back e.characters (e.end ∷ rest) fits)))

  -- the characters of the first units, and what stands after them
  first_characters : (k : ℕ) (units : List BodyUnit) (last : LastUnit) → characters_from units last ≡ characters_from (take k units) (JustText []) ++ characters_from (drop k units) last
  first_characters zero units last = refl
  first_characters (suc k) [] last = refl
  first_characters (suc k) (u ∷ units) last = grind (arith, first_characters k units last, append_assoc)

  pub first_whole : (k : ℕ) (units : List BodyUnit) (last : LastUnit) → whole (units_pieces lines units last) (last_characters last)
      ≡ whole (units_pieces lines (take k units) (JustText [])) [] ++ whole (units_pieces lines (drop k units) last) (last_characters last)
  first_whole k units last = grind (arith, units_whole, first_characters)

  pub units_prefix : (k : ℕ) (units : List BodyUnit) (last : LastUnit) (at : Place)
      → (let pieces = units_pieces lines units last in let end = last_characters last in let fronts = units_pieces lines (take k units) (JustText []) in
      AllSmall (whole pieces end) → SmallAt at (whole pieces end) → Cuts texts_by_definition lines macros (text_from texts_by_definition at (whole pieces end)) pieces end
      → FrontOf (text_from texts_by_definition at (whole pieces end)) (text_from texts_by_definition at (whole fronts [])) pieces fronts end)
  units_prefix zero units last at small here h = record { cuts = tt; events = refl }
  units_prefix (suc k) [] last at small here h = record { cuts = tt; events = refl }
  units_prefix (suc k) (u ∷ units) last at small here h =
      let more = units_pieces lines units last in
      let end = last_characters last in
      let others = units_pieces lines (take k units) (JustText []) in
      let pieces = snippets_with lines 0 u.text.end.place u.nexts (cut_part u.final Closes ∷ more) in
      let fronts = snippets_with lines 0 u.text.end.place u.nexts (cut_part u.final Closes ∷ others) in
      let rest = whole pieces end in
      let tail = whole (units_pieces lines (drop k units) last) end in
      let prefix : SmallAt at (u.text.characters ++ u.text.end ∷ whole fronts []) =
      small_prefix at (u.text.characters ++ u.text.end ∷ whole fronts []) tail (subst (SmallAt at) (first_whole (suc k) (u ∷ units) last) here) in
      piece_prefix _ _ (cut_part u.text Opens) pieces fronts end (text_agrees at u.text.characters u.text.end rest (whole fronts []) here prefix) h.0
      (notes_prefix 0 u.text.end.place u.nexts u.final more others end (small_after (u.text.end ∷ []) rest (small_after u.text.characters (u.text.end ∷ rest) small)) h.1
      (λ s a c. units_prefix k units last (after_mark u.final.end.place) s a c)
      (fits_back (u.text.end ∷ []) rest (fits_back u.text.characters (u.text.end ∷ rest) here.bytes)))
