-- A printed syllable is one unit in front of whatever follows.
use Rattle.std.proofs.Common.{◌≡◌, ℕ, List, [], ◌∷◌, ◌++◌, length, Bool, true, false, cond, refl, sym, ap, subst, ◌∙◌, append_assoc, append-nil, arith, codes}
use Rattle.gabc_text.proofs.KeptCharacters.{codes_placed}
use Rattle.gabc_body.proofs.syllables_of_units.UnitsGiveSyllables.{units_whole}
use Rattle.gabc_places.specs.declared.place.Place.{Place}
use Rattle.gabc_places.specs.declared.place.Char.{Char}
use Rattle.gabc_places.specs.Place.{next_place, place_past, placed_characters_from}
use Rattle.gabc_places.proofs.PlacesOfAText.{length_placed}
use Rattle.gabc_patterns.specs.LongestItems.{IsSnippet}
use Rattle.gabc_text.specs.View.{kept, findings}
use Rattle.gabc_text.specs.ViewFacts.{view_facts, has_error}
use Rattle.gabc_text.specs.Printed.{print, text_tokens, translation_tokens, text_of_tokens}
use Rattle.gabc_text.specs.Events.{codes_of, after_tokens}
use Rattle.gabc_text.specs.Ends.{EndsOnce}
use Rattle.gabc_notes.specs.Table.{gabc}
use Rattle.gabc_notes.specs.declared.stage.NoteEnd.{NoteEnd}
use Rattle.gabc_notes.specs.Ends.{IsMarkOf}
use Rattle.gabc_notes.specs.ReadAgain.{IsReadAgain}
use Rattle.gabc_nabc.specs.Table.{nabc}
use Rattle.gabc_nabc.specs.ReadAgain.{IsNabcReadAgain}
use Rattle.gabc_body.specs.Events.{texts_by_definition, text_from, snippet_from, after_mark}
use Rattle.gabc_body.specs.Units.{Opens, Closes, BodyUnit, LastUnit, CutPart, cut_part, snippets_with, last_characters, units_pieces, whole, EndsAfter, Cuts}
use Rattle.gabc_body.specs.SyllablesOfUnits.{with_ends, snippets_in, characters_in}
use Rattle.gabc_write.specs.SyllableAgain.{barred, printed_syllable, AreSnippets, AreSnippetsFrom, AreUnitsFrom, IsOneUnit}
use Rattle.gabc_places.proofs.PlacesOfAText.{place_append, placed_append}
use Rattle.gabc_write.proofs.reading_again.PartsEndAtTheirMarks.{text_ends}
use Rattle.gabc_write.proofs.reading_again.SnippetsAreReadAgain.{nexts_of, final_of, spelled, snippets_spelled, whole_nexts, ends_with, Several, snippets_cut, snippets_again}

-- ---- the unit

module _ (ends_once : (at : Place) (t : List ℕ) → EndsOnce at t)
    (facts : (t rest : List ℕ) → view_facts (print (view_facts t) ++ 40 ∷ rest) ≡ view_facts t)
    (none_wrong : (at : Place) (t rest : List ℕ) → has_error (findings at (print (view_facts t) ++ 40 ∷ rest)) ≡ false)
    (ends : (t rest : List ℕ) → after_tokens (print (view_facts t) ++ 40 ∷ rest) ≡ 40 ∷ rest)
    (all_kept : (t rest : List ℕ) → kept (print (view_facts t) ++ 40 ∷ rest) ≡ cond (view_facts t).word_start (codes " ") [] ++ text_of_tokens (text_tokens (view_facts t) ++ translation_tokens (view_facts t).translation))
    (gabc_again : (split : Bool) (macros : ℕ) (at : Place) (how : NoteEnd) (t rest : List ℕ) (mark : ℕ) → IsSnippet gabc t → IsMarkOf split how mark → IsReadAgain split macros at t mark rest)
    (nabc_again : (at : Place) (how : NoteEnd) (t rest : List ℕ) (mark : ℕ) → IsSnippet nabc t → IsMarkOf true how mark → IsNabcReadAgain at t mark rest)
    (lines macros : ℕ) where
  several : (ss : List (List ℕ)) → (lines ≡ 0 → length ss ≡ 1) → Several gabc_again nabc_again lines macros ss
  several ss h s t us e = grind arith

  module _ (at : Place) (t : List ℕ) (s : List ℕ) (ss : List (List ℕ)) (rest : List ℕ) (single : lines ≡ 0 → length (s ∷ ss) ≡ 1) (each : AreSnippetsFrom lines 0 (s ∷ ss)) where
    abbrev text : List ℕ
    text = print (view_facts t)

    abbrev all : List ℕ
    all = printed_syllable (view_facts t) (s ∷ ss)

    -- after the `(`
    abbrev later : List ℕ
    later = barred (s ∷ ss) ++ 41 ∷ rest

    abbrev opening : Place
    opening = place_past at text

    abbrev notes : Place
    notes = next_place opening 40

    abbrev unit : BodyUnit
    unit = record {
      text = record { characters = placed_characters_from at text; end = record { c = 40; place = opening } };
      nexts = nexts_of notes (s ∷ ss);
      final = final_of notes (s ∷ ss);
    }

    abbrev after : List Char
    after = placed_characters_from (place_past at all) rest

    text_is : all ++ rest ≡ text ++ 40 ∷ later
    text_is = append_assoc text (40 ∷ (barred (s ∷ ss) ++ 41 ∷ [])) rest ∙ ap (λ (x : List ℕ). text ++ 40 ∷ x) (append_assoc (barred (s ∷ ss)) (41 ∷ []) rest)

    past_is : place_past at all ≡ place_past notes (barred (s ∷ ss) ++ 41 ∷ [])
    past_is = place_append at text (40 ∷ (barred (s ∷ ss) ++ 41 ∷ []))

    after_is : after ≡ placed_characters_from (place_past notes (barred (s ∷ ss) ++ 41 ∷ [])) rest
    after_is = ap (λ (q : Place). placed_characters_from q rest) past_is

    notes_are : placed_characters_from notes later ≡ spelled unit.nexts unit.final after
    notes_are = snippets_spelled notes s ss rest ∙ ap (λ (xs : List Char). spelled unit.nexts unit.final xs) (sym after_is)

    characters_are : placed_characters_from at (all ++ rest) ≡ characters_in unit ++ after
    characters_are =
        ap (placed_characters_from at) text_is ∙ placed_append at text (40 ∷ later)
        ∙ ap (λ (xs : List Char). unit.text.characters ++ unit.text.end ∷ xs) (notes_are ∙ sym (ends_with unit.nexts unit.final after))
        ∙ sym (append_assoc unit.text.characters (unit.text.end ∷ with_ends (snippets_in unit)) after)

    codes_are : codes_of (characters_in unit ++ after) ≡ text ++ 40 ∷ later
    codes_are = ap codes_of (sym characters_are) ∙ codes_placed at (all ++ rest) ∙ text_is

    -- the notes from their `(` on
    own_notes : codes_of (unit.text.end ∷ with_ends (snippets_in unit)) ≡ 40 ∷ (barred (s ∷ ss) ++ 41 ∷ [])
    own_notes =
        let spelled_all : placed_characters_from notes (barred (s ∷ ss) ++ 41 ∷ []) ≡ with_ends (snippets_in unit) =
        snippets_spelled notes s ss [] ∙ sym (ends_with unit.nexts unit.final []) ∙ append-nil (with_ends (snippets_in unit)) in
        ap (λ (x : List ℕ). 40 ∷ x) (ap codes_of (sym spelled_all) ∙ codes_placed notes (barred (s ∷ ss) ++ 41 ∷ []))

    text_cut : (begins : Place) → EndsAfter lines (text_from texts_by_definition begins (placed_characters_from at (all ++ rest))) unit.text.characters Opens
    text_cut begins = grind (arith, codes_placed, text_is, text_ends, length_placed)

    one_more : (begins : Place) (units : List BodyUnit) (last : LastUnit) → AreUnitsFrom lines macros (after_mark unit.final.end.place) after units last
        → AreUnitsFrom lines macros begins (placed_characters_from at (all ++ rest)) (unit ∷ units) last
    one_more begins units last h =
        let pieces : List CutPart = units_pieces lines units last in
        let parts : List CutPart = snippets_with lines 0 opening unit.nexts (cut_part unit.final Closes ∷ pieces) in
        let rest_is : whole pieces (last_characters last) ≡ after = units_whole lines units last ∙ sym h.characters in
        let onward = subst (λ (xs : List Char). Cuts texts_by_definition lines macros (text_from texts_by_definition (after_mark unit.final.end.place) xs) pieces (last_characters last)) (sym rest_is) h.cut in
        let notes_cut = snippets_cut gabc_again nabc_again lines macros 0 opening notes s ss rest pieces (last_characters last) (several (s ∷ ss) single) each (rest_is ∙ after_is) onward in
        let parts_are : placed_characters_from notes later ≡ whole parts (last_characters last) =
        notes_are ∙ ap (λ (xs : List Char). spelled unit.nexts unit.final xs) (sym rest_is) ∙ sym (whole_nexts lines 0 opening unit.nexts (cut_part unit.final Closes ∷ pieces) (last_characters last)) in
        record {
          characters = characters_are ∙ ap (λ (xs : List Char). characters_in unit ++ xs) h.characters;
          cut = (text_cut begins, subst (λ (xs : List Char). Cuts texts_by_definition lines macros (snippet_from lines macros 0 opening xs) parts (last_characters last)) parts_are notes_cut);
        }

    one_unit : IsOneUnit lines macros at (view_facts t) (s ∷ ss) rest
    one_unit = record {
      unit = unit;
      after = after;
      after_is = refl;
      characters = characters_are;
      one_more = one_more;
      again = record {
        view_stays = ap view_facts codes_are ∙ facts t later;
        errors = λ place. ap (λ (x : List ℕ). has_error (findings place x)) codes_are ∙ none_wrong place t later;
        kept = ap kept codes_are ∙ all_kept t later;
        snippets = snippets_again gabc_again nabc_again lines macros 0 notes s ss rest after (several (s ∷ ss) single) each after_is;
        notes = own_notes;
      };
    }

  pub is_one_unit : (at : Place) (t : List ℕ) (ss : List (List ℕ)) (rest : List ℕ) → AreSnippets lines ss → IsOneUnit lines macros at (view_facts t) ss rest
  is_one_unit at t [] rest h = absurd (h.some refl)
  is_one_unit at t (s ∷ ss) rest h = one_unit at t s ss rest h.single h.each
