-- A stage over a body emits of a regular syllable what it emits by itself, whatever follows.
use Rattle.std.proofs.Common.{◌≡◌, ◌⊎◌, inr, ℕ, suc, ◌+◌, nat_lt, Bool, true, List, [], ◌∷◌, ◌++◌, length, take, take_at, sym, ap, subst, ◌∙◌, arith, append_assoc, append-nil, length-append}
use Rattle.gabc_text.proofs.KeptCharacters.{codes_placed}
use Rattle.gabc_places.specs.StageLaw.{concat_of}
use Rattle.gabc_places.specs.declared.place.Place.{Place}
use Rattle.gabc_places.specs.declared.place.Char.{Char}
use Rattle.gabc_places.specs.Place.{placed_characters_from}
use Rattle.gabc_text.specs.RegularText.{IsRegularText, is_gap}
use Rattle.gabc_text.specs.BuiltText.{found_in}
use Rattle.gabc_text.specs.Ends.{EndsOnce}
use Rattle.gabc_text.specs.Events.{CountsFit, codes_of, events_by_point, after_tokens}
use Rattle.gabc_text.specs.TextStage.{fresh_stage}
use Rattle.gabc_text.specs.View.{findings}
use Rattle.gabc_text.specs.declared.stage.TextStage.{TextStage}
use Rattle.gabc_text.specs.witness.EventsLeft.{events_left}
use Rattle.gabc_notes.specs.Events.{note_events}
use Rattle.gabc_nabc.specs.Events.{nabc_events}
use Rattle.gabc_body.specs.declared.events.BodyEvent.{BodyEvent}
use Rattle.gabc_body.specs.Events.{PartAhead, Texts, texts_by_definition, text_from, snippet_from, next_line, after_mark, events_from}
use Rattle.gabc_score.specs.RegularSyllable.{SyllableParts, IsRegularSyllable, AreRegularFrom, spelled, ended_at, after_part, final_at, unit_at}
use Rattle.gabc_body.specs.SyllablesOfUnits.{with_ends, characters_in}
use Rattle.gabc_body.specs.Units.{Opens, Next, Closes, events_through}
use Rattle.gabc_score.specs.witness.BodyStage.{texts_by_stage}
use Rattle.gabc_score.proofs.regular_syllables.RegularPartsEnd.{next_ends, close_ends}
use Rattle.gabc_score.proofs.regular_syllables.RegularSyllableIsRead.{notes_at, unit_placed, text_there, split_of, splits}
use Rattle.gabc_body.proofs.stopped_scores.PrefixHasTheSameUnits.{Agree, agree_ends, agree_through, through_length, snippet_agrees, text_agree}
use Rattle.gabc_body.proofs.units.BodyHasOneCutting.{ends_emitted}

module _ (fresh_is : (at : Place) (t : List ℕ) → CountsFit at t → events_left (fresh_stage at) t ≡ events_by_point at t)
    (so_far : (s : TextStage) (t u v : List ℕ) → take (length t) (events_left s (t ++ u)) ≡ take (length t) (events_left s (t ++ v)))
    (gabc_prefix : (split : Bool) (macros : ℕ) (xs ys zs : List Char) → take (length xs) (note_events split macros (xs ++ ys)) ≡ take (length xs) (note_events split macros (xs ++ zs)))
    (nabc_prefix : (xs ys zs : List Char) → take (length xs) (nabc_events (xs ++ ys)) ≡ take (length xs) (nabc_events (xs ++ zs))) (lines macros : ℕ) where
  abbrev lists_by : Texts → PartAhead → List Char → List (List BodyEvent)
  lists_by texts part xs = events_from texts lines macros part xs

  abbrev notes_of : Place → List (List ℕ) → List ℕ → List Char
  notes_of at nexts final = with_ends (notes_at at nexts final)

  -- what snippets emit by themselves, and a unit
  abbrev through_notes : ℕ → Place → Place → List (List ℕ) → List ℕ → List (List BodyEvent)
  through_notes line opened at [] final = let e = ended_at at final 41 in events_through (snippet_from lines macros line opened (e.characters ++ e.end ∷ [])) e.characters
  through_notes line opened at (t ∷ nexts) final = let e = ended_at at t 124 in let next = after_part at t 124 in
      events_through (snippet_from lines macros line opened (e.characters ++ e.end ∷ notes_of next nexts final)) e.characters ++ through_notes (next_line lines line) opened next nexts final

  abbrev through_unit : Place → SyllableParts → List (List BodyEvent)
  through_unit at r = let e = ended_at at (r.gap ++ r.text) 40 in let next = after_part at (r.gap ++ r.text) 40 in
      events_through (text_from texts_by_definition at (e.characters ++ e.end ∷ notes_of next r.nexts r.final)) e.characters ++ through_notes 0 e.end.place next r.nexts r.final

  through_notes_length : (line : ℕ) (opened at : Place) (nexts : List (List ℕ)) (final : List ℕ) → length (through_notes line opened at nexts final) ≡ length (notes_of at nexts final)
  through_notes_length line opened at [] final = grind (arith, length-append, through_length)
  through_notes_length line opened at (t ∷ nexts) final =
      let e = ended_at at t 124 in
      let next = after_part at t 124 in
      let us = notes_of next nexts final in
      let more = through_notes (next_line lines line) opened next nexts final in
      let first = events_through (snippet_from lines macros line opened (e.characters ++ e.end ∷ us)) e.characters in
      let a : length (e.characters ++ e.end ∷ us) ≡ length e.characters + suc (length us) = length-append e.characters (e.end ∷ us) in
      let b : length (first ++ more) ≡ length first + length more = length-append first more in
      let c : length first ≡ suc (length e.characters) = through_length (snippet_from lines macros line opened (e.characters ++ e.end ∷ us)) e.characters in
      let d : length more ≡ length us = through_notes_length (next_line lines line) opened next nexts final in
      omega (arith, a, b, c, d)

  through_unit_length : (at : Place) (r : SyllableParts) → length (through_unit at r) ≡ length (characters_in (unit_at at r))
  through_unit_length at r = grind (arith, length-append, through_length, through_notes_length)

  snippets_alike : (line : ℕ) (opened : Place) (prefix : List Char) (end : Char) (rest other : List Char)
      → Agree (suc (length prefix)) (snippet_from lines macros line opened (prefix ++ end ∷ rest)) (snippet_from lines macros line opened (prefix ++ end ∷ other))
  snippets_alike line opened prefix end rest other = snippet_agrees fresh_is so_far gabc_prefix nabc_prefix lines macros line opened prefix end rest other

  -- however the texts are read that follow
  notes_emit : (texts : Texts) (line : ℕ) (opened at : Place) (nexts : List (List ℕ)) (final : List ℕ) (xs : List Char) → AreRegularFrom lines line nexts final → (nexts ≡ []) ⊎ (nat_lt 0 lines ≡ true)
      → (let all = notes_of at nexts final ++ xs in
      lists_by texts (snippet_from lines macros line opened all) all
      ≡ through_notes line opened at nexts final ++ lists_by texts (text_from texts (after_mark (final_at at nexts final).end.place) xs) xs)
  notes_emit texts line opened at [] final xs r s =
      let e = ended_at at final 41 in
      let part = snippet_from lines macros line opened (e.characters ++ e.end ∷ xs) in
      ap (λ (ys : List Char). lists_by texts (snippet_from lines macros line opened ys) ys) (append_assoc e.characters (e.end ∷ []) xs)
      ∙ ends_emitted texts lines macros part e.characters Closes e.end xs tt (close_ends gabc_prefix nabc_prefix lines macros line opened at final xs r).ends
      ∙ ap (λ (ls : List (List BodyEvent)). ls ++ lists_by texts (text_from texts (after_mark e.end.place) xs) xs)
      (agree_through part (snippet_from lines macros line opened (e.characters ++ e.end ∷ [])) e.characters (snippets_alike line opened e.characters e.end xs []))
  notes_emit texts line opened at (t ∷ nexts) final xs r s =
      let e = ended_at at t 124 in
      let next = after_part at t 124 in
      let us = notes_of next nexts final in
      let part = snippet_from lines macros line opened (e.characters ++ e.end ∷ (us ++ xs)) in
      let alone = snippet_from lines macros line opened (e.characters ++ e.end ∷ us) in
      let later = lists_by texts (text_from texts (after_mark (final_at next nexts final).end.place) xs) xs in
      ap (λ (ys : List Char). lists_by texts (snippet_from lines macros line opened ys) ys) (append_assoc e.characters (e.end ∷ us) xs)
      ∙ ends_emitted texts lines macros part e.characters (Next (next_line lines line) opened) e.end (us ++ xs) tt (next_ends gabc_prefix nabc_prefix lines macros line opened at t (us ++ xs) r.0 (splits t nexts lines s)).ends
      ∙ ap (λ (ls : List (List BodyEvent)). ls ++ lists_by texts (snippet_from lines macros (next_line lines line) opened (us ++ xs)) (us ++ xs))
      (agree_through part alone e.characters (snippets_alike line opened e.characters e.end (us ++ xs) us))
      ∙ ap (λ (ls : List (List BodyEvent)). events_through alone e.characters ++ ls) (notes_emit texts (next_line lines line) opened next nexts final xs r.1 (inr (splits t nexts lines s)))
      ∙ sym (append_assoc (events_through alone e.characters) (through_notes (next_line lines line) opened next nexts final) later)

  -- a text as its stage reads it, and one by itself
  texts_alike : (at : Place) (prefix : List Char) (end : Char) (rest other : List Char) → CountsFit at (codes_of (prefix ++ end ∷ other))
      → Agree (suc (length prefix)) (text_from texts_by_definition at (prefix ++ end ∷ other)) (text_from texts_by_stage at (prefix ++ end ∷ rest))
  texts_alike at prefix end rest other fits =
      ap (λ ls. take (suc (length prefix)) ls) (sym (fresh_is at (codes_of (prefix ++ end ∷ other)) fits))
      ∙ text_agree so_far (fresh_stage at) prefix end other rest

  module _ (ends : (at : Place) (t : List ℕ) → EndsOnce at t) (all_found : (at : Place) (t : List ℕ) → found_in (concat_of (events_by_point at t)) ≡ findings at t)
      (found_alone : (at : Place) (t rest : List ℕ) → IsRegularText t → findings at (t ++ 40 ∷ rest) ≡ [])
      (ends_alone : (t rest : List ℕ) → IsRegularText t → after_tokens (t ++ 40 ∷ rest) ≡ 40 ∷ rest)
      (found_after : (at : Place) (b : ℕ) (gap t rest : List ℕ) → is_gap (b ∷ gap) ≡ true → IsRegularText t → findings at (b ∷ gap ++ (t ++ 40 ∷ rest)) ≡ [])
      (ends_after_it : (b : ℕ) (gap t rest : List ℕ) → is_gap (b ∷ gap) ≡ true → IsRegularText t → after_tokens (b ∷ gap ++ (t ++ 40 ∷ rest)) ≡ 40 ∷ rest)
      (at : Place) (r : SyllableParts) (regular : IsRegularSyllable lines r) (fits : CountsFit at (spelled r)) where
    abbrev us : List Char
    us = characters_in (unit_at at r)

    codes_are : codes_of us ≡ spelled r
    codes_are = ap codes_of (unit_placed at r) ∙ codes_placed at (spelled r)

    unit_emits_by : (texts : Texts) (xs : List Char) → (let e = ended_at at (r.gap ++ r.text) 40 in let next = after_part at (r.gap ++ r.text) 40 in let ns = notes_of next r.nexts r.final in
        Agree (suc (length e.characters)) (text_from texts_by_definition at (e.characters ++ e.end ∷ ns)) (text_from texts at (e.characters ++ e.end ∷ (ns ++ xs)))
        → lists_by texts (text_from texts at (us ++ xs)) (us ++ xs) ≡ through_unit at r ++ lists_by texts (text_from texts (after_mark (unit_at at r).final.end.place) xs) xs)
    unit_emits_by texts xs alike =
        let e = ended_at at (r.gap ++ r.text) 40 in
        let next = after_part at (r.gap ++ r.text) 40 in
        let ns = notes_of next r.nexts r.final in
        let part = text_from texts at (e.characters ++ e.end ∷ (ns ++ xs)) in
        let alone = text_from texts_by_definition at (e.characters ++ e.end ∷ ns) in
        let later = lists_by texts (text_from texts (after_mark (final_at next r.nexts r.final).end.place) xs) xs in
        let there = text_there lines macros gabc_prefix nabc_prefix ends all_found found_alone ends_alone found_after ends_after_it at r ns regular in
        let split = split_of lines macros gabc_prefix nabc_prefix ends all_found found_alone ends_alone found_after ends_after_it lines r.nexts regular.single in
        ap (λ (ys : List Char). lists_by texts (text_from texts at ys) ys) (append_assoc e.characters (e.end ∷ ns) xs)
        ∙ ends_emitted texts lines macros part e.characters Opens e.end (ns ++ xs) tt (agree_ends lines alone part e.characters Opens alike there)
        ∙ ap (λ (ls : List (List BodyEvent)). ls ++ lists_by texts (snippet_from lines macros 0 e.end.place (ns ++ xs)) (ns ++ xs)) (sym (agree_through alone part e.characters alike))
        ∙ ap (λ (ls : List (List BodyEvent)). events_through alone e.characters ++ ls) (notes_emit texts 0 e.end.place next r.nexts r.final xs regular.notes split)
        ∙ sym (append_assoc (events_through alone e.characters) (through_notes 0 e.end.place next r.nexts r.final) later)

    abbrev Alone : List Char → List (List BodyEvent)
    Alone vs = take (length vs) (lists_by texts_by_definition (text_from texts_by_definition at vs) vs)

    -- what the unit emits by itself
    alone_is : through_unit at r ≡ Alone us
    alone_is =
        let e = ended_at at (r.gap ++ r.text) 40 in
        let ns = notes_of (after_part at (r.gap ++ r.text) 40) r.nexts r.final in
        let later = lists_by texts_by_definition (text_from texts_by_definition (after_mark (unit_at at r).final.end.place) []) [] in
        let all : lists_by texts_by_definition (text_from texts_by_definition at us) us ≡ through_unit at r ++ later =
        ap (λ (vs : List Char). lists_by texts_by_definition (text_from texts_by_definition at vs) vs) (sym (append-nil us))
        ∙ unit_emits_by texts_by_definition []
        (ap (λ (vs : List Char). take (suc (length e.characters)) (texts_by_definition at (e.characters ++ e.end ∷ vs))) (sym (append-nil ns))) in
        sym (ap (take (length us)) all ∙ take_at (through_unit at r) later (length us) (through_unit_length at r))

    pub stage_emits : (xs : List Char) → (let vs = placed_characters_from at (spelled r) in
        lists_by texts_by_stage (text_from texts_by_stage at (vs ++ xs)) (vs ++ xs) ≡ Alone vs ++ lists_by texts_by_stage (text_from texts_by_stage (after_mark (unit_at at r).final.end.place) xs) xs)
    stage_emits xs =
        let e = ended_at at (r.gap ++ r.text) 40 in
        let ns = notes_of (after_part at (r.gap ++ r.text) 40) r.nexts r.final in
        let later = lists_by texts_by_stage (text_from texts_by_stage (after_mark (unit_at at r).final.end.place) xs) xs in
        subst (λ (vs : List Char). lists_by texts_by_stage (text_from texts_by_stage at (vs ++ xs)) (vs ++ xs) ≡ Alone vs ++ later) (unit_placed at r)
        (unit_emits_by texts_by_stage xs (texts_alike at e.characters e.end (ns ++ xs) ns (subst (CountsFit at) (sym codes_are) fits))
        ∙ ap (λ (ls : List (List BodyEvent)). ls ++ later) alone_is)
