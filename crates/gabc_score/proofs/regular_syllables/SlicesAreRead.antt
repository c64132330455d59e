-- A regular syllable is read from the slices that spell it: its text ends at the `(`, and each
-- snippet at its mark.
use Rattle.std.proofs.Common.{◌≡◌, ◌⊎◌, inl, inr, ℕ, zero, suc, ◌+◌, ◌-◌, ◌<◌, List, [], ◌∷◌, ◌++◌, Bool, true, false, not, ◌==◌, length, take, drop, slice_index, refl, sym, ap, subst, ◌∙◌, arith, append_assoc, append-nil, length-append, take-append-drop, IsUtf8}
use Rattle.std.specs.Str.{chars, IsCharBoundary}
use Rattle.std.proofs.Math.Seq.{get_or-append_seam}
use Rattle.std.proofs.lemmas.List.{take_at, drop_at}
use Rattle.std.proofs.lemmas.List.{length-take-le}
use Rattle.std.proofs.lemmas.Str.{IsUtf8-append, IsUtf8-drop, chars-append, chars_from_encodes, encodes-append, encodes-chars, scalars-chars, IsCharBoundary-from_take}
use lib.Utf8.{encodes, scalars}
use Rattle.gabc_places.specs.declared.place.Char.{Char}
use Rattle.gabc_places.specs.declared.place.Place.{Place}
use Rattle.gabc_places.specs.Place.{placed_characters_from, place_past}
use Rattle.gabc_places.proofs.PlacesOfAText.{placed_append}
use Rattle.gabc_patterns.specs.LongestPrefix.{IsLongestPrefix}
use Rattle.gabc_patterns.proofs.LongestPrefixIsFound.{begins_or_goes_on, scalars_parts}
use Rattle.gabc_notes.specs.declared.stage.NoteEnd.{NoteEnd}
use Rattle.gabc_notes.specs.declared.stage.NoteEnd.TheVariants as note_end
use Rattle.gabc_notes.specs.declared.stage.NoteEvent.{NoteEvent}
use Rattle.gabc_notes.specs.declared.stage.NoteEvent.TheVariants as note
use Rattle.gabc_notes.specs.Events.{note_events}
use Rattle.gabc_notes.specs.Regular.{each_kept}
use Rattle.gabc_nabc.specs.Events.{nabc_events}
use Rattle.gabc_score.specs.declared.spelled.SpelledSnippets.{SpelledSnippets}
use Rattle.gabc_score.specs.declared.spelled.SpelledSyllable.{SpelledSyllable}
use Rattle.gabc_body.specs.Events.{next_line}
use Rattle.gabc_score.specs.RegularSyllable.{IsRegularOn, AreRegularFrom, notes_spelled, with_lines}
use Rattle.gabc_text.specs.RegularText.{IsRegularText, text_part, translation_part}
use Rattle.gabc_score.specs.SpelledSyllable.{AreTextsOf, AreToCome, IsSpelling, ToCome, first_of}
use Rattle.gabc_score.proofs.regular_syllables.BytesOfRegularSyllables.{one_utf8, split_utf8}
use Rattle.gabc_score.proofs.regular_syllables.RegularSyllableIsMade.{one_byte}

-- ---- a regular snippet ends at its mark

-- lists of events that begin alike, through the one at a mark
no_mark : (kept more : List (List NoteEvent)) (last at : List NoteEvent) (later : List (List NoteEvent)) → (n : ℕ) → n ≡ length kept + 1
    → take n (kept ++ last ∷ later) ≡ take n (kept ++ at ∷ more) → last ≡ at
no_mark [] more last at later n e h = grind arith
no_mark (k ∷ kept) more last at later zero e h = absurd (omega (arith, e))
no_mark (k ∷ kept) more last at later (suc n) e h = no_mark kept more last at later n (omega (arith, e)) (let f : k ∷ take n (kept ++ last ∷ later) ≡ k ∷ take n (kept ++ at ∷ more) = h in cc)

-- what is kept of characters and one more, and of those after it
kept_through : (s : List Char) (m : Char) (v : List Char) → each_kept (s ++ m ∷ v) ≡ each_kept s ++ (note.Kept m ∷ []) ∷ each_kept v
kept_through [] m v = refl
kept_through (x ∷ s) m v = ap (λ (l : List (List NoteEvent)). (note.Kept x ∷ []) ∷ l) (kept_through s m v)

count_kept : (s : List Char) → length (each_kept s) ≡ length s
count_kept [] = refl
count_kept (x ∷ s) = ap suc (count_kept s)

-- A stage that emits these events of each text emits of a longer text what it emits of the shorter
-- one first.
module _ (events : List Char → List (List NoteEvent)) (prefix : (xs ys zs : List Char) → take (length xs) (events (xs ++ ys)) ≡ take (length xs) (events (xs ++ zs)))
    (at : Place) (s v : List ℕ) (mark last : ℕ) (how other : NoteEnd) (n k : ℕ)
    (short : events (placed_characters_from at (s ++ mark ∷ [])) ≡ each_kept (placed_characters_from at s) ++ (note.Ended how n ∷ []) ∷ ([] ∷ []))
    (long : events (placed_characters_from at ((s ++ mark ∷ v) ++ last ∷ [])) ≡ each_kept (placed_characters_from at (s ++ mark ∷ v)) ++ (note.Ended other k ∷ []) ∷ ([] ∷ [])) where
  abbrev there : Place
  there = place_past at s

  abbrev m : Char
  m = record { c = mark; place = there }

  abbrev xs : List Char
  xs = placed_characters_from at (s ++ mark ∷ [])

  abbrev zs : List Char
  zs = placed_characters_from (place_past at (s ++ mark ∷ [])) (v ++ last ∷ [])

  xs_are : xs ≡ placed_characters_from at s ++ m ∷ []
  xs_are = placed_append at s (mark ∷ [])

  all_are : placed_characters_from at ((s ++ mark ∷ v) ++ last ∷ []) ≡ xs ++ zs
  all_are = ap (placed_characters_from at) (append_assoc s (mark ∷ v) (last ∷ []) ∙ sym (append_assoc s (mark ∷ []) (v ++ last ∷ []))) ∙ placed_append at (s ++ mark ∷ []) (v ++ last ∷ [])

  abbrev kept : List (List NoteEvent)
  kept = each_kept (placed_characters_from at s)

  many : length xs ≡ length kept + 1
  many = ap (λ (l : List Char). length l) xs_are ∙ length-append (placed_characters_from at s) (m ∷ []) ∙ ap (λ (n : ℕ). n + 1) (sym (count_kept (placed_characters_from at s)))

  ends_at_mark : ⊥
  ends_at_mark = let same : note.Ended how n ∷ [] ≡ note.Kept m ∷ [] = no_mark kept _ (note.Ended how n ∷ []) (note.Kept m ∷ []) ([] ∷ []) (length xs) many
      (ap (take (length xs)) (sym short)
      ∙ ap (λ (l : List Char). take (length xs) (events l)) (sym (append-nil xs))
      ∙ prefix xs [] zs
      ∙ ap (λ (l : List Char). take (length xs) (events l)) (sym all_are)
      ∙ ap (take (length xs)) long
      ∙ ap (λ (l : List (List NoteEvent)). take (length xs) (l ++ (note.Ended other k ∷ []) ∷ ([] ∷ []))) (ap each_kept (placed_append at s (mark ∷ v)) ∙ kept_through (placed_characters_from at s) m _)
      ∙ ap (take (length xs)) (append_assoc kept ((note.Kept m ∷ []) ∷ _) _)) in cc

abbrev IsMark : ℕ → Type 0
IsMark c = (c ≡ 41) ⊎ (c ≡ 124)

-- the end at a mark, if there are NABC lines
module _ (gabc_prefix : (split : Bool) (macros : ℕ) (xs ys zs : List Char) → take (length xs) (note_events split macros (xs ++ ys)) ≡ take (length xs) (note_events split macros (xs ++ zs)))
    (nabc_prefix : (xs ys zs : List Char) → take (length xs) (nabc_events (xs ++ ys)) ≡ take (length xs) (nabc_events (xs ++ zs))) where
  start : Place
  start = record { line = 1; column = 1 }

  goes_no_further : (line : ℕ) (s v : List ℕ) (mark : ℕ) → IsMark mark → IsRegularOn line s → IsRegularOn line (s ++ mark ∷ v) → ⊥
  goes_no_further zero s v mark (inl e) r q =
      ends_at_mark (note_events true 0) (gabc_prefix true 0) start s v mark 41 note_end.Close note_end.Close _ _ (r.events true 0 start note_end.Close mark e) (q.events true 0 start note_end.Close 41 refl)
  goes_no_further zero s v mark (inr e) r q =
      ends_at_mark (note_events true 0) (gabc_prefix true 0) start s v mark 41 note_end.Next note_end.Close _ _ (r.events true 0 start note_end.Next mark (e, refl)) (q.events true 0 start note_end.Close 41 refl)
  goes_no_further (suc line) s v mark (inl e) r q =
      ends_at_mark nabc_events nabc_prefix start s v mark 41 note_end.Close note_end.Close _ _ (r.events start note_end.Close mark e) (q.events start note_end.Close 41 refl)
  goes_no_further (suc line) s v mark (inr e) r q =
      ends_at_mark nabc_events nabc_prefix start s v mark 41 note_end.Next note_end.Close _ _ (r.events start note_end.Next mark (e, refl)) (q.events start note_end.Close 41 refl)

  -- so before a mark it is the longest prefix that is regular
  pub before_mark : (line : ℕ) (text s u : List ℕ) (mark : ℕ) → IsMark mark → IsUtf8 text → text ≡ encodes (s ++ mark ∷ u) → IsRegularOn line s
      → (n : ℕ) → IsLongestPrefix (IsRegularOn line) text n → n ≡ length (encodes s)
  before_mark line text s u mark is utf8 e r n h = by (begins_or_goes_on (chars (take n text)) (chars (drop n text)) s mark u (sym whole))
    where
      front_utf8 : IsUtf8 (take n text)
      front_utf8 = split_utf8 text n utf8 h.within

      whole : s ++ mark ∷ u ≡ chars (take n text) ++ chars (drop n text)
      whole = chars_from_encodes (s ++ mark ∷ u) text utf8 (sym e) ∙ ap chars (sym (take-append-drop n text)) ∙ chars-append (take n text) (drop n text) front_utf8

      size : n ≡ length (encodes (chars (take n text)))
      size = sym (length-take-le n text h.within.0) ∙ ap (λ (l : List ℕ). length l) (sym (encodes-chars (take n text) front_utf8))

      by : ((q : List ℕ) × (s ≡ chars (take n text) ++ q)) ⊎ ((v : List ℕ) × (chars (take n text) ≡ s ++ mark ∷ v) × (v ++ chars (drop n text) ≡ u)) → n ≡ length (encodes s)
      by (inl (q, f)) =
          let parts = ap (λ (l : List ℕ). length l) (ap encodes f ∙ encodes-append (chars (take n text)) q) ∙ length-append (encodes (chars (take n text))) (encodes q) in
          omega (arith, h.longest s (mark ∷ u) (sym (chars_from_encodes (s ++ mark ∷ u) text utf8 (sym e))) r, parts, size)
      by (inr (v, f, g)) = absurd (goes_no_further line s v mark is r (subst (IsRegularOn line) f h.is))

-- ---- the bytes up to a mark, and after it

module _ (text s u : List ℕ) (mark : ℕ) (utf8 : IsUtf8 text) (e : text ≡ encodes (s ++ mark ∷ u)) (low : mark < 128) where
  scalars_are : scalars (s ++ mark ∷ u) ≡ true
  scalars_are = ap scalars (chars_from_encodes (s ++ mark ∷ u) text utf8 (sym e)) ∙ scalars-chars text utf8

  one : encodes (mark ∷ u) ≡ mark ∷ encodes u
  one = one_byte mark u low

  pub parts_are : text ≡ encodes s ++ mark ∷ encodes u
  parts_are = e ∙ encodes-append s (mark ∷ u) ∙ ap (λ (l : List ℕ). encodes s ++ l) one

  pub front_is : take (length (encodes s)) text ≡ encodes s
  front_is = ap (take (length (encodes s))) parts_are ∙ take_at (encodes s) (mark ∷ encodes u) (length (encodes s)) refl

  more_are : text ≡ (encodes s ++ mark ∷ []) ++ encodes u
  more_are = parts_are ∙ sym (append_assoc (encodes s) (mark ∷ []) (encodes u))

  more_len : length (encodes s ++ mark ∷ []) ≡ length (encodes s) + 1
  more_len = length-append (encodes s) (mark ∷ [])

  pub rest_is : drop (length (encodes s) + 1) text ≡ encodes u
  rest_is = ap (drop (length (encodes s) + 1)) more_are ∙ drop_at (encodes s ++ mark ∷ []) (encodes u) (length (encodes s) + 1) more_len

  pub less : length (encodes s) < length text
  less = let n = ap (λ (l : List ℕ). length l) parts_are in let m = length-append (encodes s) (mark ∷ encodes u) in omega (arith, n, m)

  pub mark_is : slice_index text (length (encodes s)) ≡ mark
  mark_is = ap (λ (l : List ℕ). slice_index l (length (encodes s))) parts_are ∙ get_or-append_seam (encodes s) mark (encodes u) 0

  front_utf8 : IsUtf8 (take (length (encodes s)) text)
  front_utf8 = subst IsUtf8 (sym front_is) (s, ((scalars_parts s (mark ∷ u) scalars_are).0, refl))

  pub cut_here : IsCharBoundary text (length (encodes s))
  cut_here = IsCharBoundary-from_take text (length (encodes s)) utf8 (omega (arith, less)) front_utf8

  pub cut_next : IsCharBoundary text (length (encodes s) + 1)
  cut_next = IsCharBoundary-from_take text (length (encodes s) + 1) utf8 (omega (arith, less))
      (subst IsUtf8 (sym (ap (take (length (encodes s) + 1)) more_are ∙ take_at (encodes s ++ mark ∷ []) (encodes u) (length (encodes s) + 1) more_len))
      (IsUtf8-append (encodes s) (mark ∷ []) (subst IsUtf8 front_is front_utf8) (one_utf8 mark low)))

-- ---- the snippets that are to come

pub to_come : (it : SpelledSnippets) (nexts : List (List ℕ)) (final : List ℕ) → AreToCome it nexts final → ToCome it (with_lines it.lines it.line nexts final)
to_come it [] final a = ([], (final, (a, refl)))
to_come it (s ∷ nexts) final a = (s ∷ nexts, (final, (a, refl)))

pub some_come : (it : SpelledSnippets) (texts : List (ℕ × List ℕ)) → ToCome it texts → it.over ≡ false → (nexts : List (List ℕ)) × ((final : List ℕ) × AreToCome it nexts final)
some_come it texts h goes = grind arith

pub none_come : (it : SpelledSnippets) (texts : List (ℕ × List ℕ)) → ToCome it texts → it.over ≡ true → texts ≡ []
none_come it texts h over = grind arith

mark_of : List (List ℕ) → ℕ
mark_of [] = 41
mark_of (s ∷ nexts) = 124

after_first : List (List ℕ) → List ℕ → List ℕ
after_first [] final = []
after_first (s ∷ nexts) final = notes_spelled nexts final

module _ (it : SpelledSnippets) where
  spelled_parts : (nexts : List (List ℕ)) (final : List ℕ) → notes_spelled nexts final ≡ first_of nexts final ++ mark_of nexts ∷ after_first nexts final
  unfolding mark_of after_first
  spelled_parts nexts final = grind arith

  is_mark : (nexts : List (List ℕ)) → IsMark (mark_of nexts)
  unfolding mark_of
  is_mark nexts = grind arith

  low_mark : (nexts : List (List ℕ)) → mark_of nexts < 128
  unfolding mark_of
  low_mark nexts = grind arith

  first_regular : (line : ℕ) (nexts : List (List ℕ)) (final : List ℕ) → AreRegularFrom it.lines line nexts final → IsRegularOn line (first_of nexts final)
  first_regular line nexts final r = grind arith

  bytes_are : (nexts : List (List ℕ)) (final : List ℕ) → AreToCome it nexts final → it.rest.now ≡ encodes (first_of nexts final ++ mark_of nexts ∷ after_first nexts final)
  bytes_are nexts final a = a.rest_is ∙ ap encodes (spelled_parts nexts final)

  pub some_left : (nexts : List (List ℕ)) (final : List ℕ) → AreToCome it nexts final → length (encodes (first_of nexts final)) < length it.rest.now
  some_left nexts final a = less it.rest.now (first_of nexts final) (after_first nexts final) (mark_of nexts) a.utf8 (bytes_are nexts final a) (low_mark nexts)

  pub first_cut : (nexts : List (List ℕ)) (final : List ℕ) → AreToCome it nexts final → IsCharBoundary it.rest.now (length (encodes (first_of nexts final)))
  first_cut nexts final a = cut_here it.rest.now (first_of nexts final) (after_first nexts final) (mark_of nexts) a.utf8 (bytes_are nexts final a) (low_mark nexts)

  pub next_cut : (nexts : List (List ℕ)) (final : List ℕ) → AreToCome it nexts final → IsCharBoundary it.rest.now (length (encodes (first_of nexts final)) + 1)
  next_cut nexts final a = cut_next it.rest.now (first_of nexts final) (after_first nexts final) (mark_of nexts) a.utf8 (bytes_are nexts final a) (low_mark nexts)

  -- the only one ends before the last byte
  pub alone : it.lines ≡ 0 → (nexts : List (List ℕ)) (final : List ℕ) → AreToCome it nexts final → length it.rest.now - 1 ≡ length (encodes (first_of nexts final))
  unfolding mark_of after_first
  alone none nexts final a = by nexts (a.single none) a
    where
      by : (nexts : List (List ℕ)) → nexts ≡ [] → AreToCome it nexts final → length it.rest.now - 1 ≡ length (encodes (first_of nexts final))
      by [] e a =
          let n = ap (λ (l : List ℕ). length l) (parts_are it.rest.now final [] 41 a.utf8 a.rest_is (omega arith)) in
          let m = length-append (encodes final) (41 ∷ encodes []) in omega (arith, n, m)
      by (s ∷ nexts) e a = absurd (cc)

  module _ (gabc_prefix : (split : Bool) (macros : ℕ) (xs ys zs : List Char) → take (length xs) (note_events split macros (xs ++ ys)) ≡ take (length xs) (note_events split macros (xs ++ zs)))
      (nabc_prefix : (xs ys zs : List Char) → take (length xs) (nabc_events (xs ++ ys)) ≡ take (length xs) (nabc_events (xs ++ zs))) where
    pub one_of_some : (n : ℕ) → IsLongestPrefix (IsRegularOn it.line) it.rest.now n → (nexts : List (List ℕ)) (final : List ℕ) → AreToCome it nexts final → n ≡ length (encodes (first_of nexts final))
    one_of_some n h nexts final a = grind (arith, before_mark, after_first, is_mark, bytes_are, first_regular)

  -- what comes first, and what is to come then
  module _ (n : ℕ) (len : (nexts : List (List ℕ)) (final : List ℕ) → AreToCome it nexts final → n ≡ length (encodes (first_of nexts final)))
      (after : SpelledSnippets) (lines : after.lines ≡ it.lines) (line : after.line ≡ next_line it.lines it.line) (rest : after.rest.now ≡ drop (n + 1) it.rest.now)
      (over : after.over ≡ not (slice_index it.rest.now n == 124)) (text : List ℕ) (is : text ≡ take n it.rest.now) where
    text_is : (nexts : List (List ℕ)) (final : List ℕ) → AreToCome it nexts final → text ≡ encodes (first_of nexts final)
    text_is nexts final a = grind (arith, front_is, after_first, bytes_are, low_mark)

    mark_there : (nexts : List (List ℕ)) (final : List ℕ) → AreToCome it nexts final → slice_index it.rest.now n ≡ mark_of nexts
    mark_there nexts final a =
        ap (slice_index it.rest.now) (len nexts final a)
        ∙ mark_is it.rest.now (first_of nexts final) (after_first nexts final) (mark_of nexts) a.utf8 (bytes_are nexts final a) (low_mark nexts)

    rest_there : (nexts : List (List ℕ)) (final : List ℕ) → AreToCome it nexts final → after.rest.now ≡ encodes (after_first nexts final)
    rest_there nexts final a =
        rest ∙ ap (λ k. drop (k + 1) it.rest.now) (len nexts final a)
        ∙ rest_is it.rest.now (first_of nexts final) (after_first nexts final) (mark_of nexts) a.utf8 (bytes_are nexts final a) (low_mark nexts)

    gives : (nexts : List (List ℕ)) (final : List ℕ) → AreToCome it nexts final → (texts : List (ℕ × List ℕ)) → texts ≡ with_lines it.lines it.line nexts final
        → (more : List (ℕ × List ℕ)) × ((texts ≡ (it.line, text) ∷ more) × ToCome after more)
    unfolding mark_of after_first
    gives nexts final a texts e = grind (arith, text_is, mark_there, rest_is, rest_there, IsUtf8-drop, next_cut)

    pub gives_next : (texts : List (ℕ × List ℕ)) → ToCome it texts → it.over ≡ false → (more : List (ℕ × List ℕ)) × ((texts ≡ (it.line, text) ∷ more) × ToCome after more)
    gives_next [] h goes = absurd (cc (sym h ∙ goes))
    gives_next (t ∷ texts) h goes = gives h.0 h.1.0 h.1.1.0 (t ∷ texts) h.1.1.1

-- ---- the syllable

pub text_cut : (r : SpelledSyllable) → IsSpelling r → IsCharBoundary r.canonical.now r.opening
text_cut r is = subst (IsCharBoundary r.canonical.now) (sym is.opening_is) (cut_here r.canonical.now is.parts.text (notes_spelled is.parts.nexts is.parts.final) 40 is.utf8 is.canonical_is (omega arith))

-- the characters of its text are those of its parts
module _ (r : SpelledSyllable) (text : List ℕ) (utf8 : IsUtf8 text) (e : text ≡ take r.opening r.canonical.now) where
  text_chars : (is : IsSpelling r) → is.parts.text ≡ chars text
  text_chars is =
      let front = front_is r.canonical.now is.parts.text (notes_spelled is.parts.nexts is.parts.final) 40 is.utf8 is.canonical_is (omega arith) in
      chars_from_encodes is.parts.text text utf8 (sym (e ∙ ap (λ (n : ℕ). take n r.canonical.now) is.opening_is ∙ front))

  pub text_regular : IsSpelling r → IsRegularText (chars text)
  text_regular is = subst IsRegularText (text_chars is) is.regular.text

  pub texts_are : (a b : List ℕ) → a ≡ encodes (text_part (chars text)) → b ≡ encodes (translation_part (chars text)) → AreTextsOf r a b
  texts_are a b f g = λ is. (f ∙ ap (λ (t : List ℕ). encodes (text_part t)) (sym (text_chars is)), g ∙ ap (λ (t : List ℕ). encodes (translation_part t)) (sym (text_chars is)))

pub notes_cut : (r : SpelledSyllable) → IsSpelling r → IsCharBoundary r.canonical.now (r.opening + 1)
notes_cut r is = subst (λ n. IsCharBoundary r.canonical.now (n + 1)) (sym is.opening_is) (cut_next r.canonical.now is.parts.text (notes_spelled is.parts.nexts is.parts.final) 40 is.utf8 is.canonical_is (omega arith))

pub snippets_come : (r : SpelledSyllable) → (is : IsSpelling r) → (it : SpelledSnippets) → it.lines ≡ r.lines → it.line ≡ 0 → it.over ≡ false → it.rest.now ≡ drop (r.opening + 1) r.canonical.now
    → ToCome it (with_lines r.lines 0 is.parts.nexts is.parts.final)
snippets_come r is it lines line over rest =
    subst (ToCome it) (ap (λ l. with_lines l it.line is.parts.nexts is.parts.final) lines ∙ ap (λ l. with_lines r.lines l is.parts.nexts is.parts.final) line)
    (to_come it is.parts.nexts is.parts.final (record {
      regular = subst (λ l. AreRegularFrom l it.line is.parts.nexts is.parts.final) (sym lines) (subst (λ l. AreRegularFrom r.lines l is.parts.nexts is.parts.final) (sym line) is.regular.notes);
      single = λ z. is.regular.single (sym lines ∙ z);
      rest_is = rest ∙ ap (λ n. drop (n + 1) r.canonical.now) is.opening_is ∙ rest_is r.canonical.now is.parts.text (notes_spelled is.parts.nexts is.parts.final) 40 is.utf8 is.canonical_is (omega arith);
      utf8 = subst IsUtf8 (sym rest) (IsUtf8-drop r.canonical.now (r.opening + 1) is.utf8 (notes_cut r is));
      goes_on = over;
    }))
