-- The printed syllables of a body, with an LF after them, are its units.
use Rattle.std.proofs.Common.{◌≡◌, ℕ, List, [], ◌∷◌, ◌++◌, length, length-append, Bool, true, if◌then◌else◌, Some, None, refl, sym, ap, subst, ◌∙◌, arith}
use Rattle.gabc_body.proofs.texts_of_body.TextEmitsThroughEnd.{ends_apart, none_ends}
use Rattle.gabc_body.proofs.syllables_of_units.UnitsGiveSyllables.{units_whole}
use Rattle.gabc_places.specs.StageLaw.{concat_of}
use Rattle.gabc_places.specs.declared.place.Place.{Place}
use Rattle.gabc_places.specs.declared.place.Char.{Char}
use Rattle.gabc_places.specs.Place.{place_past, placed_characters_from}
use Rattle.gabc_text.specs.declared.text_event.TextEvent.{TextEvent}
use Rattle.gabc_text.specs.Ends.{EndsOnce, ends_in}
use Rattle.gabc_text.specs.Events.{codes_of, after_tokens, events_by_point}
use Rattle.gabc_text.specs.Printed.{print, text_tokens, translation_tokens, text_of_tokens, word_break}
use Rattle.gabc_text.specs.ViewFacts.{ViewFacts, view_facts}
use Rattle.gabc_body.specs.Events.{InText, texts_by_definition, text_from, after_mark}
use Rattle.gabc_body.specs.Units.{Opens, BodyUnit, JustText, Endless, units_pieces, whole, Cuts, BeginsWithLf, first_text}
use Rattle.gabc_body.specs.SyllablesOfUnits.{last_units}
use Rattle.gabc_write.specs.SyllableAgain.{barred, printed_syllable, AreSnippets, AreUnitsFrom, SaysAgain, IsOneUnit}
use Rattle.gabc_write.specs.BodyAgain.{SyllableFacts, printed_body, AreSyllables, FirstBeginsWord, SayAgain, IsBodyAgain}

-- ---- a text that leaves nothing ends with no character

open_by : (lines : ℕ) (before after : List (List TextEvent)) (xs : List Char) → ends_in (concat_of before) ≡ [] → length before ≡ length xs → Endless lines (InText (before ++ after)) xs
open_by lines before after [] e n = tt
open_by lines [] after (x ∷ xs) e n = absurd (omega (arith, n))
open_by lines (b ∷ before) after (x ∷ xs) e n =
    let o = ends_apart b (concat_of before) e in
    (ap (λ (z : Bool). if z then Some Opens else None) (none_ends b o.0), open_by lines before after xs o.1 (omega (arith, n)))

text_open : (lines : ℕ) (at : Place) (t : List ℕ) (xs : List Char) → EndsOnce at t → after_tokens t ≡ [] → length xs ≡ length t → Endless lines (InText (events_by_point at t)) xs
text_open lines at t xs ends none n = grind (arith, length-append, open_by)

print_begins : (v : ViewFacts) → v.word_start ≡ true → (x : List ℕ) × (print v ≡ 10 ∷ x)
print_begins v e = (_, ap (λ (b : Bool). text_of_tokens ((word_break b ++ text_tokens v) ++ translation_tokens v.translation)) e)

body_begins : (ss : List SyllableFacts) → FirstBeginsWord ss → (x : List ℕ) × (printed_body ss ≡ 10 ∷ x)
body_begins [] h = ([], refl)
body_begins (s ∷ ss) h = let p = print_begins s.view h in (_, ap (λ (x : List ℕ). (x ++ 40 ∷ (barred s.snippets ++ 41 ∷ [])) ++ printed_body ss) p.1)

module _ (ends_once : (at : Place) (t : List ℕ) → EndsOnce at t) (lines macros : ℕ)
    (one_unit : (at : Place) (t : List ℕ) (ss : List (List ℕ)) (rest : List ℕ) → AreSnippets lines ss → IsOneUnit lines macros at (view_facts t) ss rest) where
  -- the units from that place on
  record From (at : Place) (ss : List SyllableFacts) : Type 0 where
    units : List BodyUnit
    last : List Char
    cut : (begins : Place) → AreUnitsFrom lines macros begins (placed_characters_from at (printed_body ss)) units (JustText last)
    again : SayAgain lines macros units (JustText last) ss
    last_is : codes_of last ≡ 10 ∷ []
    no_more : last_units (JustText last) ≡ []

  units_from : (at : Place) (ss : List SyllableFacts) → AreSyllables lines ss → From at ss
  units_from at [] h =
      let last : List Char = placed_characters_from at (10 ∷ []) in
      record {
        units = [];
        last = last;
        cut = λ begins. record { characters = refl; cut = text_open lines begins (10 ∷ []) last (ends_once begins (10 ∷ [])) refl refl };
        again = tt;
        last_is = refl;
        no_more = refl;
      }
  units_from at (s ∷ ss) h =
      let o : IsOneUnit lines macros at s.view s.snippets (printed_body ss) = subst (λ (v : ViewFacts). IsOneUnit lines macros at v s.snippets (printed_body ss)) (sym h.0.0.1) (one_unit at h.0.0.0 s.snippets (printed_body ss) h.0.1) in
      let r = units_from (place_past at (printed_syllable s.view s.snippets)) ss h.1 in
      let after : AreUnitsFrom lines macros (after_mark o.unit.final.end.place) o.after r.units (JustText r.last) =
      subst (λ (xs : List Char). AreUnitsFrom lines macros (after_mark o.unit.final.end.place) xs r.units (JustText r.last)) (sym o.after_is) (r.cut (after_mark o.unit.final.end.place)) in
      record {
        units = o.unit ∷ r.units;
        last = r.last;
        cut = λ begins. o.one_more begins r.units (JustText r.last) after;
        again = (subst (λ (xs : List Char). SaysAgain lines macros o.unit xs s.view s.snippets) after.characters o.again, r.again);
        last_is = r.last_is;
        no_more = r.no_more;
      }

  pub body_is_units : (at : Place) (ss : List SyllableFacts) → AreSyllables lines ss → FirstBeginsWord ss → IsBodyAgain lines macros at ss
  body_is_units at ss h first =
      let r = units_from at ss h in
      let u = r.cut at in
      let b = body_begins ss first in
      let parts : whole (units_pieces lines r.units (JustText r.last)) r.last ≡ placed_characters_from at (printed_body ss) = units_whole lines r.units (JustText r.last) ∙ sym u.characters in
      let begins : placed_characters_from at (printed_body ss) ≡ placed_characters_from at (10 ∷ b.0) = ap (placed_characters_from at) b.1 in
      let all = parts ∙ begins in
      record {
        units = r.units;
        last = r.last;
        cut = (
          sym parts,
          (
            tt,
            (
              subst BeginsWithLf (sym all) refl,
              subst (λ (ys : List Char). Cuts texts_by_definition lines macros (first_text texts_by_definition ys) (units_pieces lines r.units (JustText r.last)) r.last) (sym all)
                  (subst (λ (ys : List Char). Cuts texts_by_definition lines macros (text_from texts_by_definition at ys) (units_pieces lines r.units (JustText r.last)) r.last) begins u.cut),
            ),
          ),
        );
        again = r.again;
        last_is = r.last_is;
        no_more = r.no_more;
      }
