-- A regular syllable is read as it stands.
use Rattle.std.proofs.Common.{◌≡◌, ◌⊎◌, inr, ℕ, suc, ◌+◌, nat_lt, Bool, true, List, [], ◌∷◌, ◌++◌, length, refl, sym, ap, subst, ◌∙◌, arith, append_assoc, length-append, take}
use Rattle.gabc_text.proofs.KeptCharacters.{codes_placed}
use Rattle.gabc_places.specs.StageLaw.{concat_of}
use Rattle.gabc_places.specs.declared.place.Place.{Place}
use Rattle.gabc_places.specs.declared.place.Char.{Char}
use Rattle.gabc_places.specs.declared.code.Finding.{Finding}
use Rattle.gabc_places.specs.Place.{placed_characters_from}
use Rattle.gabc_places.proofs.PlacesOfAText.{length_placed, placed_append}
use Rattle.gabc_places.proofs.PushesAreOne.{joined-append}
use Rattle.gabc_text.specs.RegularText.{IsRegularText, is_gap}
use Rattle.gabc_text.specs.BuiltText.{found_in}
use Rattle.gabc_text.specs.Ends.{EndsOnce}
use Rattle.gabc_text.specs.Events.{codes_of, events_by_point, after_tokens}
use Rattle.gabc_text.specs.View.{findings}
use Rattle.gabc_notes.specs.Events.{note_events}
use Rattle.gabc_nabc.specs.Events.{nabc_events}
use Rattle.gabc_body.specs.declared.events.BodyEvent.{BodyEvent}
use Rattle.gabc_body.specs.Events.{PartAhead, texts_by_definition, text_from, snippet_from, next_line, after_mark, events_from}
use Rattle.gabc_score.specs.RegularSyllable.{SyllableParts, IsRegularSyllable, AreRegularFrom, IsReadAsItStands, notes_spelled, spelled, ended_at, after_part, nexts_at, final_at, unit_at}
use Rattle.gabc_body.specs.SyllablesOfUnits.{with_ends, characters_in}
use Rattle.gabc_body.specs.Units.{Opens, Next, Closes, EndedPart, events_through, EndsAfter}
use Rattle.gabc_body.proofs.order.FindingsOfParts.{found, found_append, found_onto}
use Rattle.gabc_score.proofs.regular_syllables.RegularPartsEnd.{text_ends, text_none, next_ends, close_ends}
use Rattle.gabc_body.proofs.stopped_scores.PrefixHasTheSameUnits.{through_length}
use Rattle.gabc_body.proofs.texts_of_body.TextEmitsThroughEnd.{codes_append}
use Rattle.gabc_body.proofs.units.BodyHasOneCutting.{ends_emitted}

-- ---- the characters

abbrev pub notes_at : Place → List (List ℕ) → List ℕ → List EndedPart
notes_at at nexts final = nexts_at at nexts ++ final_at at nexts final ∷ []

notes_placed : (at : Place) (nexts : List (List ℕ)) (final : List ℕ) → with_ends (notes_at at nexts final) ≡ placed_characters_from at (notes_spelled nexts final)
notes_placed at [] final = sym (placed_append at final (41 ∷ []))
notes_placed at (s ∷ nexts) final = grind (arith, notes_placed (after_part at s 124) nexts final, placed_append)

pub unit_placed : (at : Place) (r : SyllableParts) → characters_in (unit_at at r) ≡ placed_characters_from at (spelled r)
unit_placed at r = grind (arith, notes_placed, placed_append)

-- if more than one snippet stands there, there are NABC lines
pub splits : (t : List ℕ) (nexts : List (List ℕ)) (lines : ℕ) → ((t ∷ nexts) ≡ []) ⊎ (nat_lt 0 lines ≡ true) → nat_lt 0 lines ≡ true
splits t nexts lines h = grind arith

-- ---- the events

-- these lists are one for each of n characters, in which nothing is found, and then those
pub record Passes (n : ℕ) (all later : List (List BodyEvent)) : Type 0 where
  pub front : List (List BodyEvent)
  pub all_is : all ≡ front ++ later
  pub count : length front ≡ n
  pub nothing : found (concat_of front) ≡ []

nothing_joined : (xs ys : List (List BodyEvent)) → found (concat_of xs) ≡ [] → found (concat_of ys) ≡ [] → found (concat_of (xs ++ ys)) ≡ []
nothing_joined xs ys h k = ap found (joined-append xs ys) ∙ found_append (concat_of xs) (concat_of ys) ∙ ap (λ (fs : List Finding). fs ++ found (concat_of ys)) h ∙ k

module _ (lines macros : ℕ) where
  abbrev lists_of : PartAhead → List Char → List (List BodyEvent)
  lists_of part xs = events_from texts_by_definition lines macros part xs

  -- a part through its end, and what is passed after it
  passes_on : (part : PartAhead) (e : EndedPart) (n : ℕ) (all after later : List (List BodyEvent)) → all ≡ events_through part e.characters ++ after
      → found (concat_of (events_through part e.characters)) ≡ [] → Passes n after later → Passes (length (e.characters ++ e.end ∷ []) + n) all later
  passes_on part e n all after later h none p =
      let first = events_through part e.characters in
      let own : length first ≡ suc (length e.characters) = through_length part e.characters in
      let both : length (first ++ p.front) ≡ length first + length p.front = length-append first p.front in
      let whole : length (e.characters ++ e.end ∷ []) ≡ length e.characters + 1 = length-append e.characters (e.end ∷ []) in
      record {
        front = first ++ p.front;
        all_is = h ∙ ap (λ (ls : List (List BodyEvent)). first ++ ls) p.all_is ∙ sym (append_assoc first p.front later);
        count = omega (arith, own, both, whole, p.count);
        nothing = nothing_joined first p.front none p.nothing;
      }

  pass_none : (later : List (List BodyEvent)) → Passes 0 later later
  pass_none later = record { front = []; all_is = refl; count = refl; nothing = refl }

  ends_more : (e : EndedPart) (us : List Char) → length (e.characters ++ e.end ∷ us) ≡ length (e.characters ++ e.end ∷ []) + length us
  ends_more e us = omega (arith, length-append e.characters (e.end ∷ us), length-append e.characters (e.end ∷ []))

  module _ (gabc_prefix : (split : Bool) (macros : ℕ) (xs ys zs : List Char) → take (length xs) (note_events split macros (xs ++ ys)) ≡ take (length xs) (note_events split macros (xs ++ zs)))
      (nabc_prefix : (xs ys zs : List Char) → take (length xs) (nabc_events (xs ++ ys)) ≡ take (length xs) (nabc_events (xs ++ zs))) where
    -- regular snippets through the `)`
    notes_pass : (line : ℕ) (opened at : Place) (nexts : List (List ℕ)) (final : List ℕ) (xs : List Char) → AreRegularFrom lines line nexts final → (nexts ≡ []) ⊎ (nat_lt 0 lines ≡ true)
        → (let us = with_ends (notes_at at nexts final) in
        Passes (length us) (lists_of (snippet_from lines macros line opened (us ++ xs)) (us ++ xs)) (lists_of (text_from texts_by_definition (after_mark (final_at at nexts final).end.place) xs) xs))
    notes_pass line opened at [] final xs r s =
        let e = ended_at at final 41 in
        let later = lists_of (text_from texts_by_definition (after_mark e.end.place) xs) xs in
        let part = snippet_from lines macros line opened (e.characters ++ e.end ∷ xs) in
        let h = close_ends gabc_prefix nabc_prefix lines macros line opened at final xs r in
        let p = passes_on part e 0 (lists_of part (e.characters ++ e.end ∷ xs)) later later
        (ends_emitted texts_by_definition lines macros part e.characters Closes e.end xs tt h.ends) h.nothing (pass_none later) in
        subst (λ (ys : List Char). Passes (length (e.characters ++ e.end ∷ [])) (lists_of (snippet_from lines macros line opened ys) ys) later) (sym (append_assoc e.characters (e.end ∷ []) xs))
        (record { front = p.front; all_is = p.all_is; count = (let c = p.count in omega (arith, c)); nothing = p.nothing })
    notes_pass line opened at (t ∷ nexts) final xs r s =
        let e = ended_at at t 124 in
        let next = after_part at t 124 in
        let us = with_ends (notes_at next nexts final) in
        let later = lists_of (text_from texts_by_definition (after_mark (final_at next nexts final).end.place) xs) xs in
        let part = snippet_from lines macros line opened (e.characters ++ e.end ∷ (us ++ xs)) in
        let on = notes_pass (next_line lines line) opened next nexts final xs r.1 (inr (splits t nexts lines s)) in
        let h = next_ends gabc_prefix nabc_prefix lines macros line opened at t (us ++ xs) r.0 (splits t nexts lines s) in
        let p = passes_on part e (length us) (lists_of part (e.characters ++ e.end ∷ (us ++ xs))) (lists_of (snippet_from lines macros (next_line lines line) opened (us ++ xs)) (us ++ xs)) later
        (ends_emitted texts_by_definition lines macros part e.characters (Next (next_line lines line) opened) e.end (us ++ xs) tt h.ends) h.nothing on in
        subst (λ (ys : List Char). Passes (length (e.characters ++ e.end ∷ us)) (lists_of (snippet_from lines macros line opened ys) ys) later) (sym (append_assoc e.characters (e.end ∷ us) xs))
        (record { front = p.front; all_is = p.all_is; count = (let c = p.count in let m = ends_more e us in omega (arith, c, m)); nothing = p.nothing })

    -- ---- the syllable

    record TextLaws (gap t : List ℕ) (rest : List ℕ) : Type 0 where
      ends : after_tokens ((gap ++ t) ++ 40 ∷ rest) ≡ 40 ∷ rest
      nothing : (at : Place) → findings at ((gap ++ t) ++ 40 ∷ rest) ≡ []

    module _ (ends : (at : Place) (t : List ℕ) → EndsOnce at t) (all_found : (at : Place) (t : List ℕ) → found_in (concat_of (events_by_point at t)) ≡ findings at t)
        (found_alone : (at : Place) (t rest : List ℕ) → IsRegularText t → findings at (t ++ 40 ∷ rest) ≡ [])
        (ends_alone : (t rest : List ℕ) → IsRegularText t → after_tokens (t ++ 40 ∷ rest) ≡ 40 ∷ rest)
        (found_after : (at : Place) (b : ℕ) (gap t rest : List ℕ) → is_gap (b ∷ gap) ≡ true → IsRegularText t → findings at (b ∷ gap ++ (t ++ 40 ∷ rest)) ≡ [])
        (ends_after_it : (b : ℕ) (gap t rest : List ℕ) → is_gap (b ∷ gap) ≡ true → IsRegularText t → after_tokens (b ∷ gap ++ (t ++ 40 ∷ rest)) ≡ 40 ∷ rest) where
      text_laws : (gap t rest : List ℕ) → is_gap gap ≡ true → IsRegularText t → TextLaws gap t rest
      text_laws [] t rest b r = record { ends = ends_alone t rest r; nothing = λ at. found_alone at t rest r }
      text_laws (c ∷ gap) t rest b r = grind (arith, append_assoc)

      codes_are : (at : Place) (t : List ℕ) (ys : List Char) → (let e = ended_at at t 40 in codes_of (e.characters ++ e.end ∷ ys) ≡ t ++ 40 ∷ codes_of ys)
      codes_are at t ys = let e = ended_at at t 40 in codes_append e.characters (e.end ∷ ys) ∙ ap (λ (cs : List ℕ). cs ++ 40 ∷ codes_of ys) (codes_placed at t)

      pub text_there : (at : Place) (r : SyllableParts) (ys : List Char) → IsRegularSyllable lines r
          → (let e = ended_at at (r.gap ++ r.text) 40 in EndsAfter lines (text_from texts_by_definition at (e.characters ++ e.end ∷ ys)) e.characters Opens)
      text_there at r ys h = grind (arith, text_laws, text_ends, codes_are)

      pub split_of : (lines : ℕ) (nexts : List (List ℕ)) → (lines ≡ 0 → nexts ≡ []) → (nexts ≡ []) ⊎ (nat_lt 0 lines ≡ true)
      split_of lines nexts h = grind arith

      pub syllable_passes : (at : Place) (r : SyllableParts) (xs : List Char) → IsRegularSyllable lines r → (let u = unit_at at r in let us = characters_in u in
          Passes (length us) (lists_of (text_from texts_by_definition at (us ++ xs)) (us ++ xs)) (lists_of (text_from texts_by_definition (after_mark u.final.end.place) xs) xs))
      syllable_passes at r xs h =
          let e = ended_at at (r.gap ++ r.text) 40 in
          let next = after_part at (r.gap ++ r.text) 40 in
          let us = with_ends (notes_at next r.nexts r.final) in
          let later = lists_of (text_from texts_by_definition (after_mark (final_at next r.nexts r.final).end.place) xs) xs in
          let ys = e.characters ++ e.end ∷ (us ++ xs) in
          let part = text_from texts_by_definition at ys in
          let laws = text_laws r.gap r.text (codes_of (us ++ xs)) h.blanks h.text in
          let none : found_in (concat_of (events_by_point at (codes_of ys))) ≡ [] = all_found at (codes_of ys) ∙ ap (findings at) (codes_are at (r.gap ++ r.text) (us ++ xs)) ∙ laws.nothing at in
          let on = notes_pass 0 e.end.place next r.nexts r.final xs h.notes (split_of lines r.nexts h.single) in
          let p = passes_on part e (length us) (lists_of part ys) (lists_of (snippet_from lines macros 0 e.end.place (us ++ xs)) (us ++ xs)) later
          (ends_emitted texts_by_definition lines macros part e.characters Opens e.end (us ++ xs) tt (text_there at r (us ++ xs) h)) (text_none (events_by_point at (codes_of ys)) e.characters none) on in
          subst (λ (zs : List Char). Passes (length (e.characters ++ e.end ∷ us)) (lists_of (text_from texts_by_definition at zs) zs) later) (sym (append_assoc e.characters (e.end ∷ us) xs))
          (record { front = p.front; all_is = p.all_is; count = (let c = p.count in let m = ends_more e us in omega (arith, c, m)); nothing = p.nothing })

      pub syllable_is_read : (at : Place) (r : SyllableParts) (xs : List Char) → IsRegularSyllable lines r → IsReadAsItStands lines macros at r xs
      syllable_is_read at r xs h =
          let p = syllable_passes at r xs h in
          let same = unit_placed at r in
          record {
            emitted = p.front;
            events_are = subst (λ (us : List Char). lists_of (text_from texts_by_definition at (us ++ xs)) (us ++ xs) ≡ p.front ++ lists_of (text_from texts_by_definition (after_mark (unit_at at r).final.end.place) xs) xs) same p.all_is;
            one_each = p.count ∙ ap (length {A = Char}) same ∙ length_placed at (spelled r);
            nothing = found_onto (concat_of p.front) [] ∙ p.nothing;
          }
