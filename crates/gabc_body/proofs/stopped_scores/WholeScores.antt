-- A whole score has the syllables of the units of its body.
use Rattle.std.proofs.Common.{◌≡◌, ℕ, ◌<◌, ◌^◌, Option, Some, None, Result, Ok, Err, List, [], sym, ap, subst, ◌∙◌, arith}
use Rattle.gabc_places.specs.StageLaw.{concat_of}
use Rattle.gabc_places.specs.Place.{place_after}
use Rattle.gabc_places.specs.declared.code.Finding.{Finding}
use Rattle.gabc_places.specs.declared.code.Fault.{Fault}
use Rattle.gabc_places.specs.declared.limits.Limits.{Limits}
use Rattle.gabc_places.specs.declared.place.Place.{Place}
use Rattle.gabc_headers.specs.declared.heads.Heads.{Heads}
use Rattle.gabc_headers.specs.declared.heads.HeadFault.{HeadFault}
use Rattle.gabc_headers.specs.Book.{nabc_lines_of, macros_of}
use Rattle.gabc_headers.specs.Canonical.{canonical_heads}
use Rattle.gabc_headers.specs.Lines.{bytes_len}
use Rattle.gabc_headers.specs.Heads.{heads_of}
use Rattle.gabc_text.specs.BuiltText.{with_events, empty_text, text_built_at}
use Rattle.gabc_text.specs.Ends.{EndsOnce}
use Rattle.gabc_text.specs.Events.{events_of, events_by_point}
use Rattle.gabc_text.specs.ViewFacts.{StandsForView}
use Rattle.gabc_text.specs.View.{kept}
use Rattle.gabc_text.specs.TextRead.{view_in}
use Rattle.gabc_body.specs.declared.events.BodyEvent.{BodyEvent}
use Rattle.gabc_body.specs.declared.ending.InputEnding.TheVariants.{Whole}
use Rattle.gabc_body.specs.Body.{events_onto, events_to_stop, all_units, cut_of, result_by}
use Rattle.gabc_body.specs.Canonical.{with_positions}
use Rattle.gabc_body.specs.Events.{body_events}
use Rattle.gabc_body.specs.Units.{BodyCutting}
use Rattle.gabc_body.specs.SyllablesOfUnits.{score_units, AreSyllablesOf, body_characters, IsBodyCut}
use Rattle.gabc_body.proofs.score_events.PlainScores.{plain_by, plain_of}
use Rattle.gabc_body.proofs.texts_of_body.SeamsOfCharacters.{size}
use Rattle.gabc_body.proofs.holding.ScoreHoldsParts.{after_short}
use Rattle.gabc_body.proofs.order.FindingsOfScore.{reached_prefix}
use Rattle.gabc_body.proofs.syllables_of_units.SyllablesAreThoseOfUnits.{body_emits, placed_are}

-- ---- what a reading without a fault says

module _ (limits : Limits) (head : ℕ) (found : List Finding) (at : Place) where
  record IsWholeRead (before last : List BodyEvent) (fault : Option Fault) : Type 0 where
    goes_on : fault ≡ None
    none_cut : cut_of (events_onto last before) ≡ None
    syllables_are : (result_by limits head found at Whole before last fault).syllables ≡ with_positions (all_units (events_onto last before))

  whole_read : (before last : List BodyEvent) (fault : Option Fault) → (result_by limits head found at Whole before last fault).fault ≡ None → IsWholeRead before last fault
  whole_read before last fault h = grind arith

-- ---- the score

module _ (ends : (at : Place) (t : List ℕ) → EndsOnce at t) (emits : (at : Place) (t : List ℕ) → with_events empty_text (concat_of (events_by_point at t)) ≡ text_built_at at t)
    (spans : (t : List ℕ) → StandsForView (kept t) (view_in t) t) (in_order : (at : Place) (t : List ℕ) → concat_of (events_by_point at t) ≡ events_of at t)
    (limits : Limits) (t : List ℕ) (book : List (List ℕ × List ℕ)) (cut : BodyCutting) (short : size t < 2 ^ 63) where
  by_heads : (r : Result Heads HeadFault) → (plain_by limits Whole t r).book ≡ Some book → IsBodyCut book t cut → (plain_by limits Whole t r).fault ≡ None
      → AreSyllablesOf (nabc_lines_of book) (score_units cut.units) (plain_by limits Whole t r).syllables
  by_heads (Err stop) b h k = absurd (cc)
  by_heads (Ok heads) b h k =
      let same : heads.book ≡ book = cc in
      let lines = nabc_lines_of heads.book in
      let macros = macros_of heads.book in
      let xs = body_characters t in
      let lists = body_events lines macros xs in
      let head = bytes_len (canonical_heads heads.book) in
      let r = events_to_stop limits head [] xs lists in
      let w = whole_read limits head heads.findings (place_after t) r.before r.last r.fault k in
      let all = (reached_prefix limits head [] xs lists).last w.goes_on in
      let g = body_emits ends emits spans in_order lines macros xs cut (subst (λ c. IsBodyCut c t cut) (sym same) h) (after_short ends emits spans limits Whole t short) (ap cut_of (sym all) ∙ w.none_cut) in
      subst (λ c. AreSyllablesOf (nabc_lines_of c) (score_units cut.units) (plain_by limits Whole t (Ok heads)).syllables) same
      (subst (AreSyllablesOf lines (score_units cut.units)) (sym (w.syllables_are ∙ ap (λ a. with_positions (all_units a)) all ∙ ap with_positions g.1.0)) (placed_are lines (score_units cut.units) g.0 g.1.1))

  pub whole_syllables : (plain_of limits Whole t).book ≡ Some book → IsBodyCut book t cut → (plain_of limits Whole t).fault ≡ None
      → AreSyllablesOf (nabc_lines_of book) (score_units cut.units) (plain_of limits Whole t).syllables
  whole_syllables = by_heads (heads_of limits t)
