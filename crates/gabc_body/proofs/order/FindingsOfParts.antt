-- What is found in the parts of a body, each through the character that ends it.
use Rattle.std.proofs.Common.{◌≡◌, ℕ, suc, ◌+◌, ◌<◌, ◌==◌, nat_lt, List, [], ◌∷◌, ◌++◌, true, false, if◌then◌else◌, refl, sym, ap, subst, ◌∙◌, append_assoc, append-nil, length, length-append, take, drop, map, arith, inl, inr, take-append-drop}
use Rattle.std.proofs.Math.Seq.{take-length}
use Rattle.gabc_text.proofs.order.FindingsLieWithin.{found_more}
use Rattle.gabc_text.proofs.KeptCharacters.{codes_placed}
use Rattle.gabc_notes.proofs.machine.LoopOverBody.{findings_append}
use Rattle.gabc_notes.proofs.items_of_text.ItemAtCharacter.{pushed}
use Rattle.gabc_places.specs.declared.place.Place.{Place}
use Rattle.gabc_places.specs.declared.place.Char.{Char}
use Rattle.gabc_places.specs.declared.code.Code.{Code}
use Rattle.gabc_places.specs.declared.code.Code.TheVariants.{W9, W12}
use Rattle.gabc_places.specs.declared.code.Finding.{Finding}
use Rattle.gabc_places.specs.Code.{rank_of}
use Rattle.gabc_places.specs.Findings.{AreInOrder, LieBetween}
use Rattle.gabc_places.specs.StageLaw.{concat_of}
use Rattle.gabc_places.specs.Place.{place_past, placed_characters_from}
use Rattle.gabc_places.specs.PlacesInOrder.{IsEarlier}
use Rattle.gabc_places.proofs.PlacesOfAText.{length_placed, place_append}
use Rattle.gabc_places.proofs.PlacesInOrder.{before_next}
use Rattle.gabc_places.proofs.PushesAreOne.{joined-append}
use Rattle.gabc_text.specs.declared.text_event.TextEvent.{TextEvent}
use Rattle.gabc_text.specs.declared.text_event.TextEvent.TheVariants as text
use Rattle.gabc_text.specs.Events.{codes_of, events_by_point}
use Rattle.gabc_text.specs.BuiltText.{found_in}
use Rattle.gabc_notes.specs.declared.stage.NoteEvent.{NoteEvent}
use Rattle.gabc_notes.specs.declared.stage.NoteEvent.TheVariants as note
use Rattle.gabc_notes.specs.ReadAgain.{IsWarning}
use Rattle.gabc_notes.specs.SnippetRead.{findings_of as notes_found}
use Rattle.gabc_notes.specs.Events as notes
use Rattle.gabc_nabc.specs.Events as nabc
use Rattle.gabc_body.specs.declared.events.BodyEvent.{BodyEvent}
use Rattle.gabc_body.specs.declared.events.BodyEvent.TheVariants as event
use Rattle.gabc_body.specs.Events.{InText, InNotes, note_event, texts_by_definition, text_from, snippet_from}
use Rattle.gabc_body.specs.Units.{events_through}
use Rattle.gabc_body.specs.Body.{events_onto, findings_with, findings_of}
use Rattle.std.specs.List.{All}
use Rattle.gabc_body.proofs.order.CodesOfSnippets.{AreLowEach, found_below, notes_low, nabc_low}
use Rattle.gabc_body.proofs.order.FindingsOneAfterAnother.{all_first, AllFrom, AllUpTo, AllBefore, AllBelow, lie_from, lie_up_to, order_prefix, below_higher, below_before, all_before, no_notes, all_prefix}
use Rattle.std.proofs.lemmas.Bool.{cond_both}

-- ---- what was found, in the order in which it was emitted

abbrev pub found_with : BodyEvent → List Finding
found_with (event.Text (text.Found f)) = f ∷ []
found_with (event.Notes line (note.Found f)) = f ∷ []
found_with _ = []

abbrev pub found : List BodyEvent → List Finding
found [] = []
found (t ∷ ts) = found_with t ++ found ts

pub found_append : (ts us : List BodyEvent) → found (ts ++ us) ≡ found ts ++ found us
found_append [] us = refl
found_append (t ∷ ts) us = ap (λ (fs : List Finding). found_with t ++ fs) (found_append ts us) ∙ sym (append_assoc (found_with t) (found ts) (found us))

pub joined_found : (xs ys : List (List BodyEvent)) → found (concat_of (xs ++ ys)) ≡ found (concat_of xs) ++ found (concat_of ys)
joined_found xs ys = ap found (joined-append xs ys) ∙ found_append (concat_of xs) (concat_of ys)

one_found : (fs : List Finding) (t : BodyEvent) → findings_with fs t ≡ fs ++ found_with t
one_found fs t = grind (arith, append-nil)

pub found_onto : (now before : List BodyEvent) → findings_of (events_onto now before) ≡ findings_of before ++ found now
found_onto [] before = sym (append-nil (findings_of before))
found_onto (t ∷ now) before = grind (arith, found_onto now (t ∷ before), one_found, append_assoc)

-- ---- of a text

text_emitted : (emitted : List TextEvent) → found (map (λ (o : TextEvent). event.Text o) emitted) ≡ found_in emitted
text_emitted [] = refl
text_emitted (text.Found f ∷ emitted) = ap (λ (fs : List Finding). f ∷ fs) (text_emitted emitted)
text_emitted (_ ∷ emitted) = text_emitted emitted

-- the lists of the characters, and that of the point after them
pub text_through : (lists : List (List TextEvent)) (xs : List Char) → found (concat_of (events_through (InText lists) xs)) ≡ found_in (concat_of (take (suc (length xs)) lists))
text_through [] [] = refl
text_through (l ∷ lists) [] =
    ap found (append-nil (map (λ (o : TextEvent). event.Text o) l)) ∙ text_emitted l ∙ ap found_in (sym (append-nil l))
text_through [] (x ∷ xs) = text_through [] xs
text_through (l ∷ lists) (x ∷ xs) =
    rw (found_append (map (λ (o : TextEvent). event.Text o) l) (concat_of (events_through (InText lists) xs)), text_emitted l, text_through lists xs)
    (sym (found_more l (concat_of (take (suc (length xs)) lists))))

-- ---- of a snippet

snippet_emitted : (line : ℕ) (opened : Place) (emitted : List NoteEvent) → found (map (note_event line opened) emitted) ≡ notes_found emitted
snippet_emitted line opened [] = refl
snippet_emitted line opened (note.Found f ∷ emitted) = ap (λ (fs : List Finding). f ∷ fs) (snippet_emitted line opened emitted)
snippet_emitted line opened (_ ∷ emitted) = snippet_emitted line opened emitted

pub snippet_through : (line : ℕ) (opened : Place) (lists : List (List NoteEvent)) (xs : List Char)
    → found (concat_of (events_through (InNotes line opened lists) xs)) ≡ notes_found (concat_of (take (suc (length xs)) lists))
snippet_through line opened [] [] = refl
snippet_through line opened (l ∷ lists) [] =
    ap found (append-nil (map (note_event line opened) l)) ∙ snippet_emitted line opened l ∙ ap notes_found (sym (append-nil l))
snippet_through line opened [] (x ∷ xs) = snippet_through line opened [] xs
snippet_through line opened (l ∷ lists) (x ∷ xs) =
    rw (found_append (map (note_event line opened) l) (concat_of (events_through (InNotes line opened lists) xs)), snippet_emitted line opened l, snippet_through line opened lists xs)
    (sym (findings_append l (concat_of (take (suc (length xs)) lists))))

-- ---- prefixes

module _ {X : Type 0} (found_of : List X → List Finding) (more : (xs ys : List X) → found_of (xs ++ ys) ≡ found_of xs ++ found_of ys) (n : ℕ) (lists : List (List X)) where
  pub found_split : found_of (concat_of lists) ≡ found_of (concat_of (take n lists)) ++ found_of (concat_of (drop n lists))
  found_split = ap (λ ls. found_of (concat_of ls)) (sym (take-append-drop n lists)) ∙ ap found_of (joined-append (take n lists) (drop n lists)) ∙ more (concat_of (take n lists)) (concat_of (drop n lists))

  front_in_order : AreInOrder (found_of (concat_of lists)) → AreInOrder (found_of (concat_of (take n lists)))
  front_in_order h = order_prefix (found_of (concat_of (take n lists))) (found_of (concat_of (drop n lists))) (subst AreInOrder found_split h)

  front_below : (code : Code) → AllBelow code (found_of (concat_of lists)) → AllBelow code (found_of (concat_of (take n lists)))
  front_below code h = all_prefix (λ f. rank_of f.code < rank_of code) (found_of (concat_of (take n lists))) (found_of (concat_of (drop n lists))) (subst (AllBelow code) found_split h)

abbrev pub Warn : List Finding → Type 0
Warn fs = All IsWarning fs

-- what is emitted of a part through some of its characters is found in it
pub text_some : (lists : List (List TextEvent)) (xs : List Char) → Warn (found_in (concat_of lists)) → Warn (found (concat_of (events_through (InText lists) xs)))
text_some lists xs h =
    let n = suc (length xs) in
    subst Warn (sym (text_through lists xs)) (all_first IsWarning (found_in (concat_of (take n lists))) (found_in (concat_of (drop n lists))) (subst Warn (found_split found_in found_more n lists) h))

pub snippet_some : (line : ℕ) (opened : Place) (lists : List (List NoteEvent)) (xs : List Char) → Warn (notes_found (concat_of lists)) → Warn (found (concat_of (events_through (InNotes line opened lists) xs)))
snippet_some line opened lists xs h =
    let n = suc (length xs) in
    subst Warn (sym (snippet_through line opened lists xs)) (all_first IsWarning (notes_found (concat_of (take n lists))) (notes_found (concat_of (drop n lists))) (subst Warn (found_split notes_found findings_append n lists) h))

-- ---- what the layers below say of their findings

-- of texts
pub record TextsLie : Type 0 where
  pub within : (at : Place) (prefix rest : List ℕ) → LieBetween at (place_past at prefix) (found_in (concat_of (take (length prefix + 1) (events_by_point at (prefix ++ rest)))))
  pub order : (at : Place) (t : List ℕ) → AreInOrder (found_in (concat_of (events_by_point at t)))
  pub below : (at : Place) (t : List ℕ) → AllBelow W9 (found_in (concat_of (events_by_point at t)))

-- of snippets that are read so
pub record SnippetsLie (emits_at : List Char → List (List NoteEvent)) : Type 0 where
  pub within : (at : Place) (prefix rest : List ℕ) → LieBetween at (place_past at prefix) (notes_found (concat_of (take (length prefix + 1) (emits_at (placed_characters_from at (prefix ++ rest))))))
  pub order : (at : Place) (t : List ℕ) → AreInOrder (notes_found (concat_of (emits_at (placed_characters_from at t))))
  pub last : (xs : List Char) → notes_found (concat_of (emits_at xs)) ≡ notes_found (concat_of (take (length xs) (emits_at xs)))
  pub each : (xs : List Char) → length (emits_at xs) ≡ length xs + 1

-- what is found through the end of a part whose first character stands at p, and after which stands the place q
pub record Lie (p q : Place) (fs : List Finding) : Type 0 where
  pub order : AreInOrder fs
  pub from : AllFrom p fs
  pub up_to : AllUpTo q fs

-- the same where the characters end: after it a text without notes is found
pub record LieLast (p q : Place) (fs : List Finding) : Type 0 where
  pub order : AreInOrder fs
  pub from : AllFrom p fs
  pub before : AllBefore (no_notes q) fs

-- what is found in the first lists lies so
front_lies : {X : Type 0} (found_of : List X → List Finding) (more : (xs ys : List X) → found_of (xs ++ ys) ≡ found_of xs ++ found_of ys) (n : ℕ) (lists : List (List X)) (p q : Place)
    → AreInOrder (found_of (concat_of lists)) → LieBetween p q (found_of (concat_of (take n lists))) → Lie p q (found_of (concat_of (take n lists)))
front_lies found_of more n lists p q order within = record { order = front_in_order found_of more n lists order; from = lie_from p q _ within; up_to = lie_up_to p q _ within }

through_is : (n m : ℕ) → n ≡ m → suc n ≡ m + 1
through_is n m e = omega (arith, e)

-- the codes of what is found in a text through any of its characters
module _ (below : (at : Place) (t : List ℕ) → AllBelow W9 (found_in (concat_of (events_by_point at t)))) where
  low_codes : (p : Place) (ys xs : List Char) → AllBelow W9 (found (concat_of (events_through (text_from texts_by_definition p ys) xs)))
  low_codes p ys xs =
      let lists = events_by_point p (codes_of ys) in
      subst (AllBelow W9) (sym (text_through lists xs)) (front_below found_in found_more (suc (length xs)) lists W9 (below p (codes_of ys)))

  pub text_codes : (p : Place) (ys xs : List Char) → AllBelow W12 (found (concat_of (events_through (text_from texts_by_definition p ys) xs)))
  text_codes p ys xs = below_higher W9 W12 _ (omega arith) (low_codes p ys xs)

module _ (texts : TextsLie) where
  pub text_lies : (p : Place) (prefix rest : List ℕ) (xs : List Char) → length xs ≡ length prefix
      → Lie p (place_past p prefix) (found (concat_of (events_through (text_from texts_by_definition p (placed_characters_from p (prefix ++ rest))) xs)))
  text_lies p prefix rest xs e =
      rw (text_through (events_by_point p (codes_of (placed_characters_from p (prefix ++ rest)))) xs, codes_placed p (prefix ++ rest), through_is (length xs) (length prefix) e)
      (front_lies found_in found_more (length prefix + 1) (events_by_point p (prefix ++ rest)) p (place_past p prefix) (texts.order p (prefix ++ rest)) (texts.within p prefix rest))

  pub text_lies_last : (p : Place) (cs : List ℕ) → LieLast p (place_past p cs) (found (concat_of (events_through (text_from texts_by_definition p (placed_characters_from p cs)) (placed_characters_from p cs))))
  text_lies_last p cs =
      let k = rw append-nil at (text_lies p cs [] (placed_characters_from p cs) (length_placed p cs)) in
      record {
        order = k.order;
        from = k.from;
        before = below_before W9 (place_past p cs) _ k.up_to (low_codes texts.below p (placed_characters_from p cs) (placed_characters_from p cs));
      }

-- the lists of a snippet of that line
abbrev pub snippet_emits : ℕ → ℕ → ℕ → List Char → List (List NoteEvent)
snippet_emits lines macros line xs = if line == 0 then notes.note_events (nat_lt 0 lines) macros xs else nabc.nabc_events xs

-- the codes of what is found in a snippet through any of its characters
pub snippet_codes : (lines macros line : ℕ) (opened : Place) (ys xs : List Char) → AllBelow W12 (found (concat_of (events_through (snippet_from lines macros line opened ys) xs)))
snippet_codes lines macros line opened ys xs =
    let lists = snippet_emits lines macros line ys in
    let low = found_below lists (cond_both (line == 0) _ _ AreLowEach (λ e. notes_low (nat_lt 0 lines) macros ys) (λ e. nabc_low ys)) in
    subst (AllBelow W12) (sym (snippet_through line opened lists xs)) (front_below notes_found findings_append (suc (length xs)) lists W12 low)

module _ (lines macros : ℕ) (gabc : SnippetsLie (λ xs. notes.note_events (nat_lt 0 lines) macros xs)) (marks : SnippetsLie (λ xs. nabc.nabc_events xs)) where
  pub snippets : (line : ℕ) → SnippetsLie (λ xs. snippet_emits lines macros line xs)
  snippets line = elim (line == 0) as (λ b. SnippetsLie (λ xs. if b then notes.note_events (nat_lt 0 lines) macros xs else nabc.nabc_events xs)) [ true ↦ gabc | false ↦ marks ]

  pub snippet_lies : (line : ℕ) (opened p : Place) (prefix rest : List ℕ) (xs : List Char) → length xs ≡ length prefix
      → Lie p (place_past p prefix) (found (concat_of (events_through (snippet_from lines macros line opened (placed_characters_from p (prefix ++ rest))) xs)))
  snippet_lies line opened p prefix rest xs e =
      let s = snippets line in
      rw (snippet_through line opened (snippet_emits lines macros line (placed_characters_from p (prefix ++ rest))) xs, through_is (length xs) (length prefix) e)
      (front_lies notes_found findings_append (length prefix + 1) (snippet_emits lines macros line (placed_characters_from p (prefix ++ rest))) p (place_past p prefix) (s.order p (prefix ++ rest)) (s.within p prefix rest))

  -- nothing is found where the characters of a snippet end
  pub snippet_lies_last : (line : ℕ) (opened p : Place) (cs : List ℕ)
      → LieLast p (place_past p cs) (found (concat_of (events_through (snippet_from lines macros line opened (placed_characters_from p cs)) (placed_characters_from p cs))))
  snippet_lies_last line opened p cs =
      let s = snippets line in
      let emits_at = snippet_emits lines macros line (placed_characters_from p cs) in
      subst (LieLast p (place_past p cs))
      (sym (snippet_through line opened emits_at (placed_characters_from p cs)
      ∙ ap (λ n. notes_found (concat_of (take n (snippet_emits lines macros line (placed_characters_from p cs))))) (through_is (length (placed_characters_from p cs)) (length (placed_characters_from p cs)) refl ∙ sym (s.each (placed_characters_from p cs)))
      ∙ ap (λ ls. notes_found (concat_of ls)) (take-length emits_at)
      ∙ s.last (placed_characters_from p cs)
      ∙ ap (λ n. notes_found (concat_of (take n (snippet_emits lines macros line (placed_characters_from p cs))))) (length_placed p cs)))
      (by cs)
    where
      ends_with : (ds prefix : List ℕ) (c : ℕ) → ds ≡ prefix ++ c ∷ [] → LieLast p (place_past p ds) (notes_found (concat_of (take (length ds) (snippet_emits lines macros line (placed_characters_from p ds)))))
      ends_with ds prefix c e =
          let s = snippets line in
          let n : length (prefix ++ c ∷ []) ≡ length prefix + 1 = length-append prefix (c ∷ []) in
          let k : LieBetween p (place_past p prefix) (notes_found (concat_of (take (length prefix + 1) (snippet_emits lines macros line (placed_characters_from p (prefix ++ c ∷ [])))))) = s.within p prefix (c ∷ []) in
          rw (e, n) (record {
            order = front_in_order notes_found findings_append (length prefix + 1) (snippet_emits lines macros line (placed_characters_from p (prefix ++ c ∷ []))) (s.order p (prefix ++ c ∷ []));
            from = lie_from p (place_past p prefix) _ k;
            before = all_before (place_past p prefix) (no_notes (place_past p (prefix ++ c ∷ []))) _ (lie_up_to p (place_past p prefix) _ k)
                (subst (IsEarlier (place_past p prefix)) (sym (place_append p prefix (c ∷ []))) (before_next (place_past p prefix) c));
          })

      by : (ds : List ℕ) → LieLast p (place_past p ds) (notes_found (concat_of (take (length ds) (snippet_emits lines macros line (placed_characters_from p ds)))))
      by ds = elim (pushed ds) [
        | inl e ↦ rw e (record { order = tt; from = tt; before = tt })
        | inr h ↦ ends_with ds h.0 h.1 h.2
      ]
