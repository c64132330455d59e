-- A score has no error whose parts have none.
use Rattle.std.proofs.Common.{◌≡◌, ℕ, List, [], ◌∷◌, option_map, Some, Ok, refl, sym, ap, subst, ◌∙◌}
use Rattle.std.specs.List.{All}
use Rattle.std.proofs.lemmas.List.Elements.{All-append}
use Rattle.gabc_places.specs.declared.place.Place.{Place}
use Rattle.gabc_places.specs.declared.place.Char.{Char}
use Rattle.gabc_places.specs.declared.code.Finding.{Finding}
use Rattle.gabc_places.specs.declared.limits.Limits.{Limits}
use Rattle.gabc_places.specs.Place.{place_after}
use Rattle.gabc_places.specs.StageLaw.{concat_of}
use Rattle.gabc_headers.specs.declared.heads.Heads.{Heads}
use Rattle.gabc_headers.specs.Book.{nabc_lines_of, macros_of}
use Rattle.gabc_headers.specs.Heads.{heads_of}
use Rattle.gabc_text.specs.BuiltText.{found_in}
use Rattle.gabc_text.specs.Events.{codes_of, events_by_point}
use Rattle.gabc_text.specs.View.{findings}
use Rattle.gabc_notes.specs.ReadAgain.{IsWarning}
use Rattle.gabc_body.specs.declared.ending.InputEnding.{InputEnding}
use Rattle.gabc_body.specs.Events.{PartAhead, texts_by_definition, text_from, after_mark, body_events}
use Rattle.gabc_body.specs.FoundInParts.{TextWarns, SnippetsWarn, UnitsWarn}
use Rattle.gabc_body.specs.NoteBeforeClef.{score_events}
use Rattle.gabc_body.specs.witness.EmittedScore.{emitted_score_by, emitted_score}
use Rattle.gabc_body.specs.SyllablesOfUnits.{score_unit, snippets_in, body_characters, IsBodyCut}
use Rattle.gabc_body.specs.Units.{CutPart, BodyUnit, JustText, BodyCutting, whole, units_pieces, cutting_of, events_of_cutting, IsCutFrom, IsCut}
use Rattle.gabc_body.proofs.syllables_of_units.UnitGivesOneSyllable.{unit_front}
use Rattle.gabc_body.proofs.order.FindingsOfParts.{Warn, found, joined_found, text_some}
use Rattle.gabc_body.proofs.order.FirstNotesOfParts.{past_comment, all_with_first}
use Rattle.gabc_body.proofs.order.FindingsOfReading.{read_finds}
use Rattle.gabc_body.proofs.order.FindingsOfScore.{reached_prefix}
use Rattle.gabc_body.proofs.syllables_of_units.UnitsGiveSyllables.{units_whole}
use Rattle.gabc_body.proofs.units.BodyHasOneCutting.{body_emits_all}
use Rattle.gabc_body.proofs.units.UnitsEndAtMarks.{first_is}

module _ (all : (at : Place) (t : List ℕ) → found_in (concat_of (events_by_point at t)) ≡ findings at t) (lines macros : ℕ) where
  abbrev Found : PartAhead → List CutPart → List Char → List Finding
  Found part pieces last = found (concat_of (events_of_cutting texts_by_definition lines macros part pieces last))

  units_warn : (units : List BodyUnit) (last : List Char) (at : Place) → UnitsWarn lines macros units (JustText last) → TextWarns (codes_of last)
      → (let pieces = units_pieces lines units (JustText last) in Warn (Found (text_from texts_by_definition at (whole pieces last)) pieces last))
  units_warn [] last at h k = text_some (events_by_point at (codes_of last)) last (subst Warn (sym (all at (codes_of last))) (k at))
  units_warn (u ∷ units) last at h k =
      let more = units_pieces lines units (JustText last) in
      let f = unit_front all lines macros at u more last in
      let known = subst (λ ys. TextWarns (score_unit u ys).text × SnippetsWarn lines macros 0 (snippets_in u) ys) (sym (units_whole lines units (JustText last))) h.0 in
      subst Warn (sym (ap (λ ls. found (concat_of ls)) f.all_is ∙ joined_found f.front _))
      (All-append IsWarning (found (concat_of f.front)) _ (f.warns known) (units_warn units last (after_mark u.final.end.place) h.1 k))

  body_warns : (xs : List Char) (cut : BodyCutting) (units : List BodyUnit) (last : List Char) → IsCut texts_by_definition lines macros xs cut → cut.units ≡ Some (record { closed = units; last = JustText last })
      → UnitsWarn lines macros units (JustText last) → TextWarns (codes_of last) → Warn (found (concat_of (body_events lines macros xs)))
  body_warns xs cut units last h e w k =
      let c = subst (λ o. IsCutFrom texts_by_definition lines macros xs cut.comment (option_map (cutting_of lines) o)) e h in
      let f = first_is (whole (units_pieces lines units (JustText last)) last) c.1.1.0 in
      rw (body_emits_all texts_by_definition lines macros xs cut h, past_comment, e)
      (subst (λ part. Warn (Found part (units_pieces lines units (JustText last)) last)) (sym f.1) (units_warn units last f.0 w k))

module _ (all : (at : Place) (t : List ℕ) → found_in (concat_of (events_by_point at t)) ≡ findings at t)
    (limits : Limits) (ending : InputEnding) (t : List ℕ) (heads : Heads) (cut : BodyCutting) (units : List BodyUnit) (last : List Char) where
  pub score_warns : heads_of limits t ≡ Ok heads → IsBodyCut heads.book t cut → cut.units ≡ Some (record { closed = units; last = JustText last }) → All IsWarning heads.findings
      → UnitsWarn (nabc_lines_of heads.book) (macros_of heads.book) units (JustText last) → TextWarns (codes_of last) → All IsWarning (emitted_score limits ending t).findings
  score_warns ok h e found_before w k =
      let lines = nabc_lines_of heads.book in
      let macros = macros_of heads.book in
      let xs = body_characters t in
      let lists = score_events lines macros xs in
      subst (λ r. All IsWarning (emitted_score_by limits ending t r).findings) (sym ok)
      (read_finds IsWarning (λ p. refl) (λ p. refl) limits _ heads.findings (place_after t) (concat_of lists) found_before (all_with_first IsWarning (λ p. refl) [] xs (body_events lines macros xs) (body_warns all lines macros xs cut units last h e w k)) ending _
      (reached_prefix limits _ [] xs lists))
